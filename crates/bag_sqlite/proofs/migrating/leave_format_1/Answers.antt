use Rattle.std.proofs.Common.{◌∙◌, arith, pos}
use Rattle.bag_sqlite.proofs.Words.{HasCleanDisk, state}
use Rattle.bag_sqlite.proofs.MigratingLemmas.{left_behind, numbered_rows}
use Rattle.bag_sqlite.proofs.SqlLemmas.{on_ok}
use Rattle.bag_sqlite.proofs.migrating.leave_format_1.Goals as goal

pub returns-clause-left : goal.returns-clause-left
returns-clause-left g c clean =
    let old = state g.S.Store c.args.tx.now.conn.now in
    let mid = state g.S.Store c.empty_items.new.tx.conn.now in
    let new = state g.S.Store c.set_format.new.tx.conn.now in
    let early : HasCleanDisk mid = omega (arith, clean, c.set_format.ensures.kept.survives.clean) in
    on_ok c.set_format.result (λ set ledger both.
    let emptied = c.in_ok-empty_items.ensures.emptied early both.way (numbered_rows old.now.trees ledger both.tables.held) in
    left_behind old mid new ledger both emptied (set (pos 1) emptied.0 (both.tables.format.0, emptied.1.format ∙ both.tables.format.1)))
    (c.set_format.ensures.set clean)
