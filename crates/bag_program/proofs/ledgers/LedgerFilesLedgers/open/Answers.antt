use Rattle.std.proofs.lemmas.Result.{err_from_is_err_and}
use Rattle.bag_program.proofs.FileLemmas.{adopted, not_used}
use Rattle.bag_program.proofs.ledgers.LedgerFilesLedgers.open.Goals as goal

pub returns-in_err-file : goal.returns-in_err-file
returns-in_err-file g c =
    let error = err_from_is_err_and c.from_residual.result c.from_residual.ensures.1 in
    rw (error.1, error.2) (not_used _ _ _ _ _ c.in_err-file.ensures)

pub returns : goal.returns
returns g c = adopted _ _ _ _ _ _ _ (λ seen is. is.1) (λ opened is. is) c.open.result c.open.ensures.opened
