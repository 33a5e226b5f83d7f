use Rattle.bag_receiver.proofs.BeginSteps.{begins, does_so, err_is}
use Rattle.bag_receiver.proofs.TreeTags.{refused_so}
use Rattle.bag_receiver.proofs.Words.{Begins, BeginStep}
use Rattle.bag_receiver.proofs.receiver.Receiver.begin_with.Goals as goal

pub returns-in_err-plan : goal.returns-in_err-plan
returns-in_err-plan g c =
    rw (err_is c.from_residual.result _ c.from_residual.ensures.1)
    (refused_so g.K.Keeper.holds g.K.Keeper.may_leave g.K.Keeper.clean g.K.Keeper.failures c.args.name.now c.args.self.now c.args.tags.now c.requires.named _ c.in_err-plan.ensures)

pub returns : goal.returns
returns g c =
    let name = c.args.name.now in
    let tags = c.args.tags.now in
    let taken = c.in_ok-plan.ensures.0 in
    record {
      judged = c.open_as.ensures.judged tags c.requires.named taken;
      begun = does_so g.K.Keeper.holds g.K.Keeper.may_leave g.K.Keeper.clean _ _ (BeginStep c.open_as.result name tags) (Begins name tags c.open_as.result)
          (begins c.open_as.result name tags) (c.open_as.ensures.begun tags c.requires.named taken);
      store = c.open_as.ensures.store;
    }
