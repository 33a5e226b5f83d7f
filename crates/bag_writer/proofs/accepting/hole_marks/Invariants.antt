use Rattle.std.proofs.Common.{ℕ, ◌<◌, take}
use Rattle.bag_rules.specs.Trees.{paths_in}
use Rattle.bag_writer.specs.Accepting.{AreMarks}
use Rattle.bag_writer.specs.Writing.{IsBadHole, payload_paths}
use Rattle.bag_writer.proofs.accepting.hole_marks.Given as goal

-- the holes so far are marked, and none of them is bad
abbrev pub invariant-loop-i : goal.invariant-loop-i
invariant-loop-i g l = AreMarks (paths_in (g.P.Paths.shown l.tree)) (take l.i l.holes) l.marks.items
    × ((j : ℕ) → j < l.i → ¬ IsBadHole (payload_paths (g.P.Paths.shown l.tree)) l.holes j)
