use Rattle.std.proofs.Common.{◌≡◌, ◌∙◌, ap, false, refl, subst, sym, true}
use Rattle.std.proofs.lemmas.Result.{err_from_is_err_and}
use Rattle.sqlite_wal.specs.Files.{image_at}
use Rattle.bag_program.specs.LedgerFiles.{IsAsItWas, NoFile}
use Rattle.bag_program.specs.declared.ledgers.found_ledger.Seen.{Seen}
use Rattle.bag_program.proofs.FileLemmas.{adopted, known_less, not_used}
use Rattle.bag_program.proofs.ledgers.ledger_file.LedgerFile.open.Goals as goal

pub returns-then-not-has_file-clause-opened : goal.returns-then-not-has_file-clause-opened
returns-then-not-has_file-clause-opened g c =
    let saw = c.saw.ensures in
    NoFile c.args.self.seen saw.left.1 (refl, λ file. absurd (let e : true ≡ false = sym (c.has_file.ensures.1 file) ∙ c.if-not-has_file.true in cc)) saw.fault.0 saw.fault.1
    (subst (IsAsItWas _ (image_at g.S.Start)) (sym saw.left.0) tt)

pub returns-in_err-file-clause-opened : goal.returns-in_err-file-clause-opened
returns-in_err-file-clause-opened g c =
    let error = err_from_is_err_and c.from_residual.result c.from_residual.ensures.1 in
    rw (error.1, error.2) (not_used _ _ _ _ _ c.in_err-file.ensures.locked)

pub returns-then-not-has_file-2-clause-opened : goal.returns-then-not-has_file-2-clause-opened
returns-then-not-has_file-2-clause-opened g c =
    known_less _ (image_at g.S.Start) c.refuse.result _ _ _ _
    (λ seen is. (
      ap (λ (it : Seen). it.name) is ∙ c.in_ok-file.ensures.seen.0,
      λ file. absurd (let e : true ≡ false = sym (c.has_file-2.ensures.1 (ap (λ (it : Seen). it.found) (c.seen.ensures ∙ sym is) ∙ file)) ∙ c.if-not-has_file-2.true in cc),
    ))
    (λ opened none. absurd none) c.refuse.ensures.unopened

pub returns-in_err-file-2-clause-opened : goal.returns-in_err-file-2-clause-opened
returns-in_err-file-2-clause-opened g c =
    let error = err_from_is_err_and c.from_residual-in_err-file-2.result c.from_residual-in_err-file-2.ensures.1 in
    rw (error.1, error.2) (not_used _ _ _ _ _ c.in_err-file-2.ensures.connected)

pub returns-clause-opened : goal.returns-clause-opened
returns-clause-opened g c = adopted _ _ _ (λ _. ⊥) _ _ _ (λ seen none. absurd none) (λ opened same. tt) c.adopt.result c.adopt.ensures.opened
