use Rattle.sqlite_wal.specs.Files.{image_at}
use Rattle.bag_program.specs.LedgerFiles.{NoAnswer}
use Rattle.bag_program.proofs.FileLemmas.{barred, unused}
use Rattle.bag_program.proofs.ledgers.locked_file.LockedFile.lock.Goals as goal

pub returns-in-Err-settle-clause-locked : goal.returns-in-Err-settle-clause-locked
returns-in-Err-settle-clause-locked g c =
    let it = c.barred-in-Err-settle.ensures in
    NoAnswer (barred _ _ it.fault.0 it.fault.1) (unused _ (image_at g.S.Start) c.in-Ok-open_locked.files _ it.left c.in-Ok-open_locked.ensures)
