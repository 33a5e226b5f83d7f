use Rattle.std.proofs.Common.{◌≢◌, []}
use Rattle.bag_commands.proofs.VerdictLemmas.{verdict_where}
use Rattle.bag_commands.proofs.verdict.verdict_text.Goals as goal

pub returns-then-is_complete : goal.returns-then-is_complete
returns-then-is_complete c =
    let some_fault : c.args.report.now ≢ [] = λ e. cc (c.is_valid.ensures.1 e) in
    rw c.if-is_complete.true at (verdict_where c.args.report.now c.is_complete.result some_fault c.is_complete.ensures)

pub returns-else-is_complete : goal.returns-else-is_complete
returns-else-is_complete c =
    let some_fault : c.args.report.now ≢ [] = λ e. cc (c.is_valid.ensures.1 e) in
    rw c.if-is_complete.false at (verdict_where c.args.report.now c.is_complete.result some_fault c.is_complete.ensures)
