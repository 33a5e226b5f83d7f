use Rattle.std.proofs.Common.{Ok, [], ◌∷◌, w64}
use Rattle.bag_sqlite.proofs.Words.{Blob, ExecutesInside, Int, state, Text, to_z-of_z}
use Rattle.bag_sqlite.proofs.MeaningLemmas.{new_tag_text}
use Rattle.bag_sqlite.proofs.OpeningLemmas.{tag_inserted}
use Rattle.bag_sqlite.proofs.beginning.insert_tag.Goals as goal

pub returns-clause-added : goal.returns-clause-added
returns-clause-added g c clean o way =
    let old = state g.S.Store c.args.tx.now.conn.now in
    let new = state g.S.Store c.execute.new.self.conn.now in
    let ran : ExecutesInside 0 new_tag_text (Int c.args.transfer ∷ Text c.args.path.now ∷ Blob c.args.body.now ∷ []) old new (Ok c.in_ok-execute.field-0) =
    rw (c.params-to_sql.ensures, c.params-to_sql-2.ensures, c.params-to_sql-3.ensures, to_z-of_z w64 c.args.transfer c.ranges.transfer) at (c.in_ok-execute.ensures.runs clean way.mode) in
    tag_inserted old new c.args.transfer c.args.path.now c.args.body.now c.in_ok-execute.field-0 way ran
