use Rattle.std.proofs.Common.{◌≡◌, take}
use Rattle.bag_receiver.proofs.Words.{given_in, light_tags, NoneMisplaced}
use Rattle.bag_receiver.proofs.begin.placed.Given as goal

abbrev pub invariant-loop-i : goal.invariant-loop-i
invariant-loop-i l = record {
  tags_are : l.tags ≡ light_tags (given_in (take l.i l.files));
  none : NoneMisplaced (given_in (take l.i l.files));
}
