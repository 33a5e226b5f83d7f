use Rattle.std.proofs.Common.{refl, arith}
use Rattle.bag_rules.specs.ExampleBags.{tags_with_fetch}
use Rattle.bag_rules.proofs.TwoListed.{abcd_is_misfit, two_with_fetch}
use Rattle.bag_receiver.proofs.Words.{a_passes, abd_is_misfit, expected, file_a, IsListedPath, path_a}
use Rattle.bag_receiver.proofs.examples.another_length_is_told_first.Goals as goal
use Rattle.bag_receiver.proofs.HeldLemmas.{none_held}

listed : IsListedPath tags_with_fetch file_a
listed = (path_a, expected tags_with_fetch two_with_fetch file_a refl)

pub returns : goal.returns
returns c = (
  (listed, (omega arith, abcd_is_misfit)),
  (listed, (omega arith, abd_is_misfit tags_with_fetch two_with_fetch)),
  (listed, a_passes tags_with_fetch two_with_fetch, none_held file_a),
)
