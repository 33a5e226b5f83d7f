use Rattle.std.proofs.Common.{◌-◌, ◌≡◌, ◌<◌, ◌≤◌, ℕ, Some, length, slice_get}
use Rattle.bag_rules.proofs.Words.{paths_in}
use Rattle.bag_rules.proofs.tree.find.Given as goal

-- a place that has the path is still to be looked at
abbrev pub invariant-loop-low : goal.invariant-loop-low
invariant-loop-low g l =
    record { inside : l.high ≤ length (paths_in (g.P.Paths.shown l.paths)); left : (k : ℕ) → slice_get (paths_in (g.P.Paths.shown l.paths)) k ≡ Some l.path → (l.low ≤ k) × (k < l.high) }

abbrev pub decreases-loop-low : goal.decreases-loop-low
decreases-loop-low g l = l.high - l.low
