use Rattle.bag_writer.proofs.FilledLemmas.{tags_of, written_tags}
use Rattle.bag_writer.proofs.laws.the_tag_files_of_a_written_bag_are_its_other_files.Goals as goal

pub returns : goal.returns
returns c spec payload bag fits written = tags_of spec payload fits bag (written_tags spec payload bag written)
