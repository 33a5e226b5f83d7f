use Rattle.std.proofs.Common.{refl}
use Rattle.bag_receiver.proofs.ReportLemmas.{reporting}
use Rattle.bag_receiver.proofs.receiver.Receiver.audit.Goals as goal

pub returns : goal.returns
returns g c = record {
  reporting = reporting g.K.Keeper.holds g.K.Keeper.may_leave g.K.Keeper.clean g.K.Keeper.failures c.args.name.now c.args.self.now c.view.new.self c.view.result
      c.view.ensures.looks c.view.ensures.reported c.view.ensures.judged c.view.ensures.store;
  read = c.view.ensures.read refl;
}
