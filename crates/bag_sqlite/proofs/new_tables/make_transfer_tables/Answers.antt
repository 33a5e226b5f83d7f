use Rattle.std.proofs.Common.{arith, refl}
use Rattle.bag_sqlite.proofs.Words.{HasCleanDisk, no_rows, state}
use Rattle.bag_sqlite.proofs.MeaningLemmas.{makes_meta, makes_tag, makes_transfer}
use Rattle.bag_sqlite.proofs.SqlLemmas.{nothing_then, on_ok}
use Rattle.bag_sqlite.proofs.new_tables.make_transfer_tables.Goals as goal

pub returns-clause-made : goal.returns-clause-made
returns-clause-made g c clean =
    let second : HasCleanDisk (state g.S.Store c.make_table-2.new.tx.conn.now) = omega (arith, c.make_table-3.ensures.kept.survives.clean) in
    let first : HasCleanDisk (state g.S.Store c.make_table.new.tx.conn.now) = omega (arith, second, c.make_table-2.ensures.kept.survives.clean) in
    on_ok c.make_table-3.result (λ made making. (made _ _ no_rows makes_tag refl (c.in_ok-make_table-2.ensures.made second _ _ no_rows makes_transfer refl (c.in_ok-make_table.ensures.made first _ _ no_rows makes_meta refl making).0).0).0)
    (c.make_table-3.ensures.made clean)

pub returns-clause-inside : goal.returns-clause-inside
returns-clause-inside g c clean =
    let second : HasCleanDisk (state g.S.Store c.make_table-2.new.tx.conn.now) = omega (arith, c.make_table-3.ensures.kept.survives.clean) in
    let first : HasCleanDisk (state g.S.Store c.make_table.new.tx.conn.now) = omega (arith, second, c.make_table-2.ensures.kept.survives.clean) in
    on_ok c.make_table-3.result (λ stays mode. stays (c.in_ok-make_table-2.ensures.inside second (c.in_ok-make_table.ensures.inside first mode))) (c.make_table-3.ensures.inside clean)

pub returns-in_err-make_table-2-clause-kept : goal.returns-in_err-make_table-2-clause-kept
returns-in_err-make_table-2-clause-kept g c = nothing_then c.make_table.ensures.kept c.make_table-2.ensures.kept

pub returns-clause-kept : goal.returns-clause-kept
returns-clause-kept g c = nothing_then c.make_table.ensures.kept (nothing_then c.make_table-2.ensures.kept c.make_table-3.ensures.kept)
