use Rattle.std.proofs.Common.{◌≡◌, ◌≤◌, length}
use Rattle.bag_receiver.proofs.Words.{given_in, MOST_DELIVERIES, Runs, with_answers}
use Rattle.bag_receiver.proofs.receiver.Receiver.run.Given as goal

abbrev pub invariant-loop-path : goal.invariant-loop-path
invariant-loop-path g l = (length l.answers.items ≡ l.path-index) × (l.path-index ≤ MOST_DELIVERIES)
    × Runs g.K.Keeper.holds g.K.Keeper.may_leave g.K.Keeper.clean g.K.Keeper.failures l.fn.self l.self l.name (with_answers (given_in l.items) l.answers.items)
