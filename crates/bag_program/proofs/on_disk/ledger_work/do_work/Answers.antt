use Rattle.std.proofs.Common.{refl}
use Rattle.bag_program.proofs.on_disk.ledger_work.do_work.Goals as goal

pub returns-in-Begin : goal.returns-in-Begin
returns-in-Begin g c = rw c.in-Begin.is (refl, c.begin_with_folder.ensures)

pub returns-in-Intake : goal.returns-in-Intake
returns-in-Intake g c = rw c.in-Intake.is (refl, c.intake_folders.ensures)

pub returns-in-Report : goal.returns-in-Report
returns-in-Report g c = rw (c.in-Report.is, c.plain.ensures) (refl, record { valid = c.report_to.ensures.valid; printed = c.report_to.ensures.printed; untold = refl })

pub returns-in-Audit : goal.returns-in-Audit
returns-in-Audit g c = rw (c.in-Audit.is, c.plain-in-Audit.ensures) (refl, record { valid = c.audit_to.ensures.valid; printed = c.audit_to.ensures.printed; untold = refl })

pub returns-in-Fetch : goal.returns-in-Fetch
returns-in-Fetch g c = rw c.in-Fetch.is (refl, c.fetch_from_folder.ensures)

pub returns-in-Export : goal.returns-in-Export
returns-in-Export g c = rw c.in-Export.is c.export_into_folder.ensures
