use Rattle.std.proofs.Common.{sym, ◌∙◌}
use Rattle.bag_receiver.proofs.BeginFiles.{first_is_left, first_is_right}
use Rattle.bag_receiver.proofs.begin.lesser.Goals as goal

pub returns-then-le : goal.returns-then-le
returns-then-le c = first_is_left c.args.old.now c.args.path.now (sym c.le.ensures ∙ c.if-le.true)

pub returns-else-le : goal.returns-else-le
returns-else-le c = first_is_right c.args.old.now c.args.path.now (sym c.le.ensures ∙ c.if-le.false)
