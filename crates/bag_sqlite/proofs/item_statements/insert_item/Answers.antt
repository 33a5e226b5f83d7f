use Rattle.std.proofs.Common.{Ok, [], ◌∷◌, w64, ◌∙◌}
use Rattle.bag_sqlite.proofs.Words.{ExecutesInside, Int, state, Text, to_z-of_z}
use Rattle.bag_sqlite.proofs.RowLemmas.{item_inserted}
use Rattle.bag_sqlite.proofs.RowMeanings.{new_item_text}
use Rattle.bag_sqlite.proofs.item_statements.insert_item.Goals as goal

pub returns-clause-added : goal.returns-clause-added
returns-clause-added g c clean o way =
    let old = state g.S.Store c.args.tx.now.conn.now in
    let new = state g.S.Store c.execute.new.self.conn.now in
    let ran : ExecutesInside 0 new_item_text (Int c.args.transfer ∷ Text c.args.path.now ∷ []) old new (Ok c.in_ok-execute.field-0) =
    rw (c.params-to_sql.ensures, c.params-to_sql-2.ensures, to_z-of_z w64 c.args.transfer c.ranges.transfer) at (c.in_ok-execute.ensures.runs clean way.mode) in
    let same = to_z-of_z w64 c.last_insert_rowid.result (record { sfits = c.last_insert_rowid.type_inv }) ∙ c.last_insert_rowid.ensures in
    rw same (item_inserted old new c.args.transfer c.args.path.now c.in_ok-execute.field-0 way ran)

pub returns-clause-inside : goal.returns-clause-inside
returns-clause-inside g c clean mode = (c.in_ok-execute.ensures.runs clean mode).1.mode
