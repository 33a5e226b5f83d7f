use Rattle.bag_writer.proofs.ExampleTags.{fetch_text, info_text, lengths_two}
use Rattle.bag_writer.proofs.examples.a_bag_with_a_hole_has_these_tag_files.Goals as goal

pub returns-clause-names : goal.returns-clause-names
returns-clause-names c = lengths_two

pub returns-clause-info : goal.returns-clause-info
returns-clause-info c = info_text

pub returns-clause-fetch : goal.returns-clause-fetch
returns-clause-fetch c = fetch_text
