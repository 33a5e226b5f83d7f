use Rattle.std.proofs.Common.{codes, refl}
use Rattle.bag_rules.proofs.TwoListed.{abcd_is_misfit, abd_is_misfit, not_expected, two, two_with_fetch}
use Rattle.bag_rules.specs.ExampleBags.{tags_of_two, tags_with_fetch}
use Rattle.bag_rules.proofs.examples.what_is_not_listed_does_not_pass.Goals as goal

pub returns : goal.returns
returns c = (abcd_is_misfit, abd_is_misfit tags_with_fetch two_with_fetch, abd_is_misfit tags_of_two two, not_expected tags_of_two two (codes "data/z") refl)
