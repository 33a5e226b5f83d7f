use Rattle.std.proofs.Common.{◌≡◌, ℕ, Some, Vec, length, slice_get}
use Rattle.std.specs.declared.alloc.Global.{Global}
use Rattle.bag_digest.specs.declared.sums.Sums.{Sums}
use Rattle.bag_digest.specs.Reading.{AreSums}
use Rattle.bag_digest.proofs.side_by_side.sums_of_each.Given as goal

abbrev pub invariant-loop-i : goal.invariant-loop-i
invariant-loop-i l = record {
  count : length l.each.items ≡ l.i;
  all : l.i-end ≡ length l.messages;
  sums : (i : ℕ) (sums : Sums) → slice_get l.each.items i ≡ Some sums
      → (message : Vec ℕ Global) → slice_get l.messages i ≡ Some message → AreSums sums l.set message.items;
}
