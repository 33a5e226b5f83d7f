use Rattle.std.proofs.Common.{◌≡◌}
use Rattle.bag_folder.specs.Bringing.{payload_from}
use Rattle.bag_folder.proofs.tree_courier.next_payload.Given as goal

abbrev pub invariant-loop-i : goal.invariant-loop-i
invariant-loop-i g l = payload_from (g.T.Paths.shown l.tree) l.place ≡ payload_from (g.T.Paths.shown l.tree) l.i
