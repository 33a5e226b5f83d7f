use Rattle.std.proofs.Common.{◌≤◌, ◌-◌, length}
use Rattle.bag_receiver.proofs.CourierLemmas.{RanFrom}
use Rattle.bag_receiver.proofs.Words.{CallsNext, CountsEach, MOST_DELIVERIES, one_more, read_failures}
use Rattle.bag_receiver.proofs.receiver.Receiver.run_from.Given as goal

abbrev pub decreases-items : goal.decreases-items
decreases-items g l = MOST_DELIVERIES - length l.answers.items

abbrev pub invariant-items : goal.invariant-items
invariant-items g l = (length l.answers.items ≤ MOST_DELIVERIES)
    × RanFrom g.K.Keeper.holds g.K.Keeper.may_leave g.K.Keeper.clean g.K.Keeper.failures l.fn.self l.self l.name
    (g.C.Courier.coming l.fn.courier) (g.C.Courier.coming l.courier) l.paths.items l.answers.items
    × CountsEach (read_failures l.answers.items) (g.C.Source.failures l.fn.courier) (g.C.Source.failures l.courier)
    × CallsNext (length l.answers.items) (g.C.Courier.nexts l.fn.courier) (one_more (g.C.Courier.nexts l.courier))
    × (g.C.Courier.steady l.fn.courier → g.C.Courier.steady l.courier)
