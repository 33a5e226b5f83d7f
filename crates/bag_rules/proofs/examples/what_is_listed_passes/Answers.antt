use Rattle.bag_rules.proofs.TwoListed.{a_passes, e_passes, two, two_with_fetch}
use Rattle.bag_rules.specs.ExampleBags.{tags_of_two, tags_with_fetch}
use Rattle.bag_rules.proofs.examples.what_is_listed_passes.Goals as goal

pub returns : goal.returns
returns c = (a_passes tags_of_two two, e_passes tags_of_two two, a_passes tags_with_fetch two_with_fetch, e_passes tags_with_fetch two_with_fetch)
