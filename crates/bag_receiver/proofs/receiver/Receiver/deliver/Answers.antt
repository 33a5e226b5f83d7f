use Rattle.bag_receiver.proofs.CountLemmas.{counts_answer}
use Rattle.bag_receiver.proofs.ReceiverLemmas.{does_receive}
use Rattle.bag_receiver.proofs.receiver.Receiver.deliver.Goals as goal

pub returns-in-Ok-clause-received : goal.returns-in-Ok-clause-received
returns-in-Ok-clause-received g c = does_receive g.K.Keeper.holds g.K.Keeper.may_leave g.K.Keeper.clean c.args.self.now c.take.new.self c.args.name.now _ c.in-Ok.ensures.taken

pub returns-in-Err-clause-received : goal.returns-in-Err-clause-received
returns-in-Err-clause-received g c = does_receive g.K.Keeper.holds g.K.Keeper.may_leave g.K.Keeper.clean c.args.self.now c.take.new.self c.args.name.now _ c.in-Err.ensures.taken

pub returns-in-Err-clause-store : goal.returns-in-Err-clause-store
returns-in-Err-clause-store g c = counts_answer _ _ _ c.in-Err.ensures.store
