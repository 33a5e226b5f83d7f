use Rattle.std.proofs.Common.{◌≡◌, ◌<◌, ℕ, List, Some, slice_get}
use Rattle.bag_rules.specs.OpeningInside.{HasTooManyLines}
use Rattle.bag_rules.proofs.plan_fault.first_large.Given as goal

abbrev pub invariant-loop-file : goal.invariant-loop-file
invariant-loop-file l = (k : ℕ) (path octets : List ℕ) → k < l.file-index → slice_get l.tags k ≡ Some (path, octets) → ¬ HasTooManyLines path octets
