use Rattle.std.proofs.Common.{◌≡◌, true, false, sym, ◌∙◌, subst}
use Rattle.std.proofs.lemmas.Result.{err_from_is_err_and, on_ok_weaker}
use Rattle.bag_path.specs.Lines.{is_lone_lf}
use Rattle.bag_tags.specs.Pieces.{IsNext}
use Rattle.bag_tags.proofs.PiecesLemmas.{awaits_next, next_stops}
use Rattle.bag_tags.proofs.pieces.end_line.Goals as goal
use Rattle.bag_tags.proofs.pieces.end_line.Goals.{else-is_after_cr-via-then-is_after_cr+else-is_lone_lf, else-is_after_cr-via-else-is_after_cr}

pub returns-in_err-read_last-clause-err : goal.returns-in_err-read_last-clause-err
returns-in_err-read_last-clause-err g c = λ start all left a.
    let error = err_from_is_err_and c.from_residual.result c.from_residual.ensures.1 in
    let other : c.args.last.now.after_cr ≡ true → is_lone_lf c.args.text.now c.args.ending ≡ false = elim c.else-is_after_cr.branch [
      | else-is_after_cr-via-then-is_after_cr+else-is_lone_lf w ↦ λ h. sym w.is_lone_lf.ensures ∙ w.if-is_lone_lf.false
      | else-is_after_cr-via-else-is_after_cr w ↦ λ h. absurd (let k : true ≡ false = sym h ∙ sym c.is_after_cr.ensures ∙ w.if-is_after_cr.false in cc)
    ] in
    rw (error.1, error.2) (next_stops _ start _ all _ left c.args.ending _ _ c.in_err-read_last.field-0.0 c.requires.plain c.requires.ended other c.in_err-read_last.ensures.err a)

pub returns-clause-ok : goal.returns-clause-ok
returns-clause-ok g c = λ start all left a.
    let other : c.args.last.now.after_cr ≡ true → is_lone_lf c.args.text.now c.args.ending ≡ false = elim c.else-is_after_cr.branch [
      | else-is_after_cr-via-then-is_after_cr+else-is_lone_lf w ↦ λ h. sym w.is_lone_lf.ensures ∙ w.if-is_lone_lf.false
      | else-is_after_cr-via-else-is_after_cr w ↦ λ h. absurd (let k : true ≡ false = sym h ∙ sym c.is_after_cr.ensures ∙ w.if-is_after_cr.false in cc)
    ] in
    on_ok_weaker c.end.result
    (λ next. awaits_next _ start all _ left c.args.ending _ c.read_last.new.last _ _ _ c.requires.plain c.requires.ended other c.in_ok-read_last.ensures.number
    (subst (λ after_cr. IsNext c.read_last.new.last after_cr c.end.new.self) c.is_cr.ensures next) c.in_ok-read_last.ensures.ok a)
    c.end.ensures.next
