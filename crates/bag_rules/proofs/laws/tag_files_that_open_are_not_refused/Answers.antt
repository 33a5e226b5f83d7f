use Rattle.bag_rules.proofs.NotRefused.{refused_by_memory}
use Rattle.bag_rules.proofs.laws.tag_files_that_open_are_not_refused.Goals as goal

pub returns : goal.returns
returns c = refused_by_memory
