use Rattle.std.proofs.Common.{rules}
use Rattle.bag_receiver.proofs.BeginSteps.{begins, does_so}
use Rattle.bag_receiver.proofs.Words.{Begins, BeginStep, given_in, IsTransferName}
use Rattle.bag_receiver.proofs.receiver.Receiver.begin.Goals as goal

pub returns : goal.returns
returns g c =
    let name = c.args.name.now in
    let given = given_in c.args.files.now in
    let named : IsTransferName name = search rules in
    let taken = c.in_ok-tags.ensures.taken.0 in
    record {
      judged = c.open_as.ensures.judged given named taken;
      begun = does_so g.K.Keeper.holds g.K.Keeper.may_leave g.K.Keeper.clean _ _ (BeginStep c.open_as.result name given) (Begins name given c.open_as.result)
          (begins c.open_as.result name given) (c.open_as.ensures.begun given named taken);
      store = c.open_as.ensures.store;
    }
