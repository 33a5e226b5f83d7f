use Rattle.std.proofs.Common.{◌≡◌, ◌+◌, take}
use Rattle.std.specs.List.{filter}
use Rattle.bag_path.specs.Paths.{is_payload}
use Rattle.bag_rules.specs.Trees.{paths_in}
use Rattle.bag_rules.specs.declared.limits.TheConstants.{LARGEST_TAG_FILE}
use Rattle.bag_writer.proofs.MeasuredTags.{lines}
use Rattle.bag_writer.proofs.too_large.is_long_manifest.Given as goal

-- what is left after the lines of the paths so far
abbrev pub invariant-loop-i : goal.invariant-loop-i
invariant-loop-i g l = l.left + lines l.fn.alg (filter is_payload (take l.i (paths_in (g.P.Paths.shown l.fn.tree)))) ≡ LARGEST_TAG_FILE
