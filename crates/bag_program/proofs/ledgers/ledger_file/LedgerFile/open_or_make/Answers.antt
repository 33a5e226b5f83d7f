use Rattle.std.proofs.Common.{◌≡◌, ◌∙◌, ap, false, refl, subst, sym, true}
use Rattle.std.proofs.lemmas.Result.{err_from_is_err_and}
use Rattle.sqlite_wal.specs.Files.{image_at}
use Rattle.bag_program.specs.FoundFiles.{BarsMaking}
use Rattle.bag_program.specs.LedgerFiles.{HasTables, IsAsItWas, NoFile}
use Rattle.bag_program.specs.declared.ledgers.found_ledger.Seen.{Seen}
use Rattle.bag_program.proofs.FileLemmas.{known_less, made_or_not, not_used, opened_or_not}
use Rattle.bag_program.proofs.ledgers.ledger_file.LedgerFile.open_or_make.Goals as goal

pub returns-then-bars_making-clause-opened : goal.returns-then-bars_making-clause-opened
returns-then-bars_making-clause-opened g c =
    let saw = c.saw.ensures in
    NoFile c.args.self.seen saw.left.1 (refl, c.bars_making.ensures.0 c.if-bars_making.true) saw.fault.0 saw.fault.1
    (subst (IsAsItWas _ (image_at g.S.Start)) (sym saw.left.0) tt)

pub returns-in_err-file-clause-opened : goal.returns-in_err-file-clause-opened
returns-in_err-file-clause-opened g c =
    let error = err_from_is_err_and c.from_residual.result c.from_residual.ensures.1 in
    rw (error.1, error.2) (not_used _ _ _ _ _ c.in_err-file.ensures.locked)

pub returns-then-bars_making-2-clause-opened : goal.returns-then-bars_making-2-clause-opened
returns-then-bars_making-2-clause-opened g c =
    known_less _ (image_at g.S.Start) c.refuse.result _ _ _ _
    (λ seen is. (
      ap (λ (it : Seen). it.name) is ∙ c.in_ok-file.ensures.seen.0,
      subst BarsMaking (sym (ap (λ (it : Seen). it.found) (is ∙ sym c.seen.ensures))) (c.bars_making-2.ensures.0 c.if-bars_making-2.true),
    ))
    (λ opened none. absurd none) c.refuse.ensures.unopened

pub returns-in_err-file-2-clause-opened : goal.returns-in_err-file-2-clause-opened
returns-in_err-file-2-clause-opened g c =
    let error = err_from_is_err_and c.from_residual-in_err-file-2.result c.from_residual-in_err-file-2.ensures.1 in
    rw (error.1, error.2) (not_used _ _ _ _ _ c.in_err-file-2.ensures.connected)

pub returns-then-has_nothing-clause-opened : goal.returns-then-has_nothing-clause-opened
returns-then-has_nothing-clause-opened g c = made_or_not _ _ (λ it. it.is_made) _ _ _ _ c.make.result c.make.ensures.made

pub returns-else-has_nothing-clause-opened : goal.returns-else-has_nothing-clause-opened
returns-else-has_nothing-clause-opened g c =
    opened_or_not _ _ (λ it. it.is_made) _ _ _ _ _
    (λ opened same. subst HasTables (sym same) (λ none. absurd (let e : true ≡ false = sym (c.has_nothing.ensures.1 none) ∙ c.if-has_nothing.false in cc)))
    c.adopt.result c.adopt.ensures.opened

pub returns-then-has_nothing-clause-none : goal.returns-then-has_nothing-clause-none
returns-then-has_nothing-clause-none g c = λ bars.
    absurd (let e : true ≡ false = sym (c.bars_making.ensures.1 bars) ∙ c.if-bars_making.false in cc)

pub returns-else-has_nothing-clause-none : goal.returns-else-has_nothing-clause-none
returns-else-has_nothing-clause-none g c = λ bars.
    absurd (let e : true ≡ false = sym (c.bars_making.ensures.1 bars) ∙ c.if-bars_making.false in cc)
