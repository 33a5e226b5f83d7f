use Rattle.std.proofs.Common.{Ok, [], ◌∷◌, w64, ◌∙◌}
use Rattle.bag_sqlite.proofs.Words.{ExecutesInside, state, Text, to_z-of_z}
use Rattle.bag_sqlite.proofs.MeaningLemmas.{new_transfer_text}
use Rattle.bag_sqlite.proofs.OpeningLemmas.{transfer_inserted}
use Rattle.bag_sqlite.proofs.beginning.insert_transfer.Goals as goal

pub returns-clause-added : goal.returns-clause-added
returns-clause-added g c clean o way =
    let old = state g.S.Store c.args.tx.now.conn.now in
    let new = state g.S.Store c.execute.new.self.conn.now in
    let ran : ExecutesInside 0 new_transfer_text (Text c.args.name.now ∷ []) old new (Ok c.in_ok-execute.field-0) = rw c.params-to_sql.ensures at (c.in_ok-execute.ensures.runs clean way.mode) in
    let same = to_z-of_z w64 c.last_insert_rowid.result (record { sfits = c.last_insert_rowid.type_inv }) ∙ c.last_insert_rowid.ensures in
    rw same (transfer_inserted old new c.args.name.now c.in_ok-execute.field-0 way ran)

pub returns-clause-opened : goal.returns-clause-opened
returns-clause-opened g c clean mode = (c.in_ok-execute.ensures.runs clean mode).1.was_open
