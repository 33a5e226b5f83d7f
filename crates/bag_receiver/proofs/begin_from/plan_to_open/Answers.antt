use Rattle.std.proofs.Common.{subst, sym}
use Rattle.bag_receiver.proofs.TreeTags.{opens, refuses}
use Rattle.bag_receiver.proofs.Words.{IsRefusal}
use Rattle.bag_receiver.proofs.begin_from.plan_to_open.Goals as goal

pub returns-in-Ok : goal.returns-in-Ok
returns-in-Ok c = opens c.args.tags.now c.requires c.in-Ok.plan c.in-Ok.ensures.opened

pub returns-in-Err : goal.returns-in-Err
returns-in-Err c = subst (IsRefusal c.args.tags.now) (sym c.from.ensures) (refuses c.args.tags.now c.requires c.in-Err.fault c.in-Err.ensures.refused)
