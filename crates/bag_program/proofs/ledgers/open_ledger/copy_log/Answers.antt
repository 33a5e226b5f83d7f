use Rattle.bag_program.proofs.FileLemmas.{left_alone}
use Rattle.bag_program.proofs.ledgers.open_ledger.copy_log.Goals as goal

pub returns-in-Ok-clause-closed : goal.returns-in-Ok-clause-closed
returns-in-Ok-clause-closed g c = λ clean ledger holds image. left_alone c.args.keeper.connection c.in-Ok.files ledger image (rw c.release.ensures at (c.in-Ok.ensures.copied clean)) holds

pub returns-in-Ok-clause-copied : goal.returns-in-Ok-clause-copied
returns-in-Ok-clause-copied g c = λ clean. let copied = c.in-Ok.ensures.copied clean in (_, copied.seen, copied.left)

pub returns-in-Err-clause-closed : goal.returns-in-Err-clause-closed
returns-in-Err-clause-closed g c =
    record { same = rw c.release.ensures at c.in-Err.ensures.err.0; why = rw c.release.ensures at c.in-Err.ensures.err.1 }
