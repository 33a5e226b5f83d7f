use Rattle.bag_writer.proofs.OpeningLemmas.{are_expected, are_tag_files, opens, passes}
use Rattle.bag_writer.proofs.laws.the_tag_files_of_a_written_bag_open.Goals as goal

pub returns-clause-files : goal.returns-clause-files
returns-clause-files c = are_tag_files

pub returns-clause-opens : goal.returns-clause-opens
returns-clause-opens c = opens

pub returns-clause-expected : goal.returns-clause-expected
returns-clause-expected c = are_expected

pub returns-clause-passes : goal.returns-clause-passes
returns-clause-passes c spec payload path content fits h within = passes spec payload fits path content h within
