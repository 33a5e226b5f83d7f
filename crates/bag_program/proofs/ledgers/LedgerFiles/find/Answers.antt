use Rattle.std.proofs.Common.{subst, sym}
use Rattle.sqlite_wal.specs.Files.{image_at}
use Rattle.bag_program.specs.LedgerFiles.{IsAsItWas, NoAnswer}
use Rattle.bag_program.proofs.FileLemmas.{barred}
use Rattle.bag_program.proofs.ledgers.LedgerFiles.find.Goals as goal

pub returns-in-Err : goal.returns-in-Err
returns-in-Err g c = NoAnswer (barred _ _ c.barred.ensures.fault.0 c.barred.ensures.fault.1) (subst (IsAsItWas _ (image_at g.S.Start)) (sym c.barred.ensures.left) tt)
