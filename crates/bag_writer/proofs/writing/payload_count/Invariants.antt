use Rattle.std.proofs.Common.{◌≡◌, ◌≤◌, length, take}
use Rattle.std.specs.List.{filter}
use Rattle.bag_path.specs.Paths.{is_payload}
use Rattle.bag_rules.specs.Trees.{paths_in}
use Rattle.bag_writer.proofs.writing.payload_count.Given as goal

abbrev pub invariant-loop-i : goal.invariant-loop-i
invariant-loop-i g l = (l.count ≡ length (filter is_payload (take l.i (paths_in (g.P.Paths.shown l.fn.paths))))) × (l.count ≤ l.i)
