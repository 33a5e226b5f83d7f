use Rattle.std.proofs.Common.{arith}
use Rattle.bag_sqlite.proofs.Words.{HasCleanDisk, state}
use Rattle.bag_sqlite.proofs.MakingLemmas.{first_empty, next_empty}
use Rattle.bag_sqlite.proofs.MeaningLemmas.{makes_held, makes_piece}
use Rattle.bag_sqlite.proofs.SqlLemmas.{nothing_then, on_ok}
use Rattle.bag_sqlite.proofs.new_tables.make_item_tables.Goals as goal

pub returns-clause-made : goal.returns-clause-made
returns-clause-made g c clean =
    let early : HasCleanDisk (state g.S.Store c.make_table.new.tx.conn.now) = omega (arith, c.make_table-2.ensures.kept.survives.clean) in
    on_ok c.make_table-2.result (λ made o rows no_held no_pieces making. made _ _ rows (makes_piece o) (next_empty o rows no_pieces) (c.in_ok-make_table.ensures.made early _ _ rows (makes_held o) (first_empty o rows no_held) making).0) (c.make_table-2.ensures.made clean)

pub returns-clause-inside : goal.returns-clause-inside
returns-clause-inside g c clean =
    let early : HasCleanDisk (state g.S.Store c.make_table.new.tx.conn.now) = omega (arith, c.make_table-2.ensures.kept.survives.clean) in
    on_ok c.make_table-2.result (λ stays mode. stays (c.in_ok-make_table.ensures.inside early mode)) (c.make_table-2.ensures.inside clean)

pub returns-clause-kept : goal.returns-clause-kept
returns-clause-kept g c = nothing_then c.make_table.ensures.kept c.make_table-2.ensures.kept
