use Rattle.std.proofs.Common.{◌≤◌, length, take}
use Rattle.bag_digest.specs.Each.{AreSlicesOf}
use Rattle.bag_digest.proofs.side_by_side.slices_of.Given as goal

abbrev pub invariant-loop-message : goal.invariant-loop-message
invariant-loop-message l = record {
  slices : AreSlicesOf (take l.message-index l.messages) l.slices.items;
  within : l.message-index ≤ length l.messages;
}
