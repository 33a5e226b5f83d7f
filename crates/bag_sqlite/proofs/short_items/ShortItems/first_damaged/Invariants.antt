use Rattle.std.proofs.Common.{ℕ, List, drop}
use Rattle.bag_sqlite.proofs.Words.{AreCovered, AreWanted, HasMisfit}
use Rattle.bag_sqlite.proofs.short_items.ShortItems.first_damaged.Given as goal

abbrev pub invariant-loop-i : goal.invariant-loop-i
invariant-loop-i l =
    let wants = l.self.held.known.items in
    let contents = l.self.held.contents.items in
    record {
      wanted : AreCovered l.self → AreWanted (drop l.i wants) (drop l.i contents) → AreWanted wants contents;
      misfit : AreCovered l.self → (path : List ℕ) → HasMisfit (drop l.i wants) (drop l.i contents) path → HasMisfit wants contents path;
    }
