use Rattle.std.proofs.Common.{codes, refl}
use Rattle.bag_rules.proofs.TwoListed.{path_e}
use Rattle.bag_receiver.proofs.TwoDelivered.{a_held, a_not_held, passes_a, passes_e, path_z}
use Rattle.std.proofs.Common.{arith}
use Rattle.bag_receiver.proofs.Words.{abd_is_misfit, expected, file_a, file_e, IsListedPath, not_expected, path_a, tags_of_two, two}
use Rattle.bag_receiver.proofs.examples.what_is_due_to_deliveries_one_after_another.Goals as goal
use Rattle.bag_receiver.proofs.HeldLemmas.{none_held}

listed_a : IsListedPath tags_of_two file_a
listed_a = (path_a, expected tags_of_two two file_a refl)

listed_e : IsListedPath tags_of_two file_e
listed_e = (path_e, expected tags_of_two two file_e refl)

pub returns : goal.returns
returns c = (
  (listed_e, passes_e, none_held file_e),
  (listed_a, passes_a, a_not_held),
  (listed_a, passes_a, a_held),
  (listed_a, (omega arith, abd_is_misfit tags_of_two two)),
  (path_z, not_expected tags_of_two two (codes "data/z") refl),
  refl,
)
