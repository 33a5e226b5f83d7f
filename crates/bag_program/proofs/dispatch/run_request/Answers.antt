use Rattle.std.proofs.Common.{refl}
use Rattle.bag_program.proofs.dispatch.run_request.Goals as goal

pub returns-in-Check : goal.returns-in-Check
returns-in-Check g c = rw c.in-Check.is (refl, c.check_folder.ensures.printed)

pub returns-in-Make : goal.returns-in-Make
returns-in-Make g c = rw c.in-Make.is c.make_folder.ensures

pub returns-in-Ledger : goal.returns-in-Ledger
returns-in-Ledger g c = rw c.in-Ledger.is c.work_on_ledger.ensures
