use Rattle.std.proofs.Common.{◌≡◌, All, take}
use Rattle.std.specs.Prelude.{fold}
use Rattle.bag_folder.specs.Walks.{EntryFits, with_entry}
use Rattle.bag_folder.proofs.walk.look_into.Given as goal

abbrev pub invariant-loop-entry : goal.invariant-loop-entry
invariant-loop-entry g l =
    (l.found ≡ fold (with_entry l.front) l.fn.found (take l.entry-index l.entry-items))
    × All (EntryFits l.front) (take l.entry-index l.entry-items)
