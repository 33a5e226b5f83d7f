use Rattle.std.proofs.Common.{FitsSigned, w64, arith, rules}
use Rattle.bag_sqlite.proofs.Words.{files_of, HasCleanDisk, state, to_z-of_z}
use Rattle.bag_sqlite.proofs.OpeningLemmas.{one_more}
use Rattle.bag_sqlite.proofs.SqlLemmas.{nothing_then, on_ok}
use Rattle.bag_sqlite.proofs.beginning.write_transfer.Goals as goal

pub returns-clause-written : goal.returns-clause-written
returns-clause-written g c clean =
    let old = state g.S.Store c.args.tx.now.conn.now in
    let mid = state g.S.Store c.insert_transfer.new.tx.conn.now in
    let new = state g.S.Store c.insert_tags.new.tx.conn.now in
    let early : HasCleanDisk mid = omega (arith, clean, c.insert_tags.ensures.kept.survives.clean) in
    let number = c.in_ok-transfer.transfer in
    let fits : FitsSigned w64 number = search rules in
    on_ok c.insert_tags.result (λ tags o way.
    let row = c.in_ok-transfer.ensures.added early o way in
    let all = rw (to_z-of_z w64 number fits) at (tags o row.0) in
    (all.0, (number, one_more old.now.trees mid.now.trees new.now.trees number c.args.name.now (files_of c.args.files.now) row.1 all.1))) (c.insert_tags.ensures.added clean)

pub returns-clause-kept : goal.returns-clause-kept
returns-clause-kept g c = nothing_then c.insert_transfer.ensures.kept c.insert_tags.ensures.kept
