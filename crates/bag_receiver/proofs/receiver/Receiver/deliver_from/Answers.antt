use Rattle.bag_receiver.proofs.CountLemmas.{counts_answer, uses_answer}
use Rattle.bag_receiver.proofs.ReceiverLemmas.{does_receive}
use Rattle.bag_receiver.proofs.receiver.Receiver.deliver_from.Goals as goal

pub returns-in-Ok-clause-received : goal.returns-in-Ok-clause-received
returns-in-Ok-clause-received g c =
    let taken = c.in-Ok.ensures.taken in
    (taken.0, taken.1, taken.2, does_receive g.K.Keeper.holds g.K.Keeper.may_leave g.K.Keeper.clean c.args.self.now c.take_from.new.self c.args.name.now _ taken.3)

pub returns-in-Err-clause-received : goal.returns-in-Err-clause-received
returns-in-Err-clause-received g c =
    let taken = c.in-Err.ensures.taken in
    (taken.0, taken.1, taken.2, does_receive g.K.Keeper.holds g.K.Keeper.may_leave g.K.Keeper.clean c.args.self.now c.take_from.new.self c.args.name.now _ taken.3)

pub returns-in-Err-clause-reader : goal.returns-in-Err-clause-reader
returns-in-Err-clause-reader g c = uses_answer _ _ _ _ _ _ c.in-Err.ensures.reader

pub returns-in-Err-clause-store : goal.returns-in-Err-clause-store
returns-in-Err-clause-store g c = counts_answer _ _ _ c.in-Err.ensures.store
