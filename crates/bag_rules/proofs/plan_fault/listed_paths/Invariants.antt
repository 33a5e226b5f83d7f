use Rattle.std.proofs.Common.{◌↔◌, ℕ, List, take}
use Rattle.bag_rules.specs.OpeningInside.{IsListedIn}
use Rattle.bag_rules.proofs.Words.{Has}
use Rattle.bag_rules.proofs.plan_fault.listed_paths.Given as goal

abbrev pub invariant-loop-manifest : goal.invariant-loop-manifest
invariant-loop-manifest l = (path : List ℕ) → Has l.paths.items path ↔ IsListedIn (take l.manifest-index l.manifests) path
