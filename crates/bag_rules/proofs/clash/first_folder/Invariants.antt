use Rattle.std.proofs.Common.{ℕ, ◌<◌, get_or, []}
use Rattle.bag_rules.specs.Opening.{HasInside}
use Rattle.bag_rules.proofs.clash.first_folder.Given as goal

-- none of the paths so far is that of a folder
abbrev pub invariant-loop-path : goal.invariant-loop-path
invariant-loop-path l = (k : ℕ) → k < l.path-index → ¬ HasInside l.path-items (get_or l.path-items k [])
