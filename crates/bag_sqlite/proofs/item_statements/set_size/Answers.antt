use Rattle.std.proofs.Common.{Ok, [], ◌∷◌, ◌∙◌, ap, pos, w64}
use Rattle.bag_sqlite.proofs.Words.{ExecutesInside, Int, state, to_z-of_z, to_z_pos}
use Rattle.bag_sqlite.proofs.RowLemmas.{size_set}
use Rattle.bag_sqlite.proofs.RowMeanings.{size_text}
use Rattle.bag_sqlite.proofs.SqlLemmas.{nothing_executed}
use Rattle.bag_sqlite.proofs.item_statements.set_size.Goals as goal

pub returns-clause-set : goal.returns-clause-set
returns-clause-set g c clean o way =
    let old = state g.S.Store c.args.tx.now.conn.now in
    let new = state g.S.Store c.execute.new.self.conn.now in
    let first = c.params-to_sql.ensures ∙ ap Int (to_z-of_z w64 c.args.item c.ranges.item) in
    let second = c.params-to_sql-2.ensures ∙ ap Int (to_z_pos w64 c.requires) in
    let ran : ExecutesInside 0 size_text (Int c.args.item ∷ Int (pos c.args.size) ∷ []) old new (Ok c.in_ok-execute.field-0) =
    rw (first, second) at (c.in_ok-execute.ensures.runs clean way.mode) in
    size_set old new c.args.item c.args.size c.in_ok-execute.field-0 way ran

pub returns-in_err-execute-clause-kept : goal.returns-in_err-execute-clause-kept
returns-in_err-execute-clause-kept g c = nothing_executed _ _ c.execute.result c.execute.ensures.same_reference (λ outside. (c.execute.ensures.ended outside).1) c.execute.ensures.runs c.execute.ensures.survives

pub returns-clause-inside : goal.returns-clause-inside
returns-clause-inside g c clean mode = (c.in_ok-execute.ensures.runs clean mode).1.mode
