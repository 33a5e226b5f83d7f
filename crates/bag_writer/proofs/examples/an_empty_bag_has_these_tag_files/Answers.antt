use Rattle.bag_writer.proofs.ExampleTags.{lengths_none}
use Rattle.bag_writer.proofs.examples.an_empty_bag_has_these_tag_files.Goals as goal

pub returns : goal.returns
returns c = lengths_none
