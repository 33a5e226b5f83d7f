use Rattle.std.proofs.Common.{◌∙◌}
use Rattle.sqlite_wal.specs.Files.{image_at}
use Rattle.bag_program.specs.LedgerFiles.{NoFile}
use Rattle.bag_program.proofs.FileLemmas.{unused}
use Rattle.bag_program.proofs.ledgers.locked_file.LockedFile.refuse.Goals as goal

pub returns-clause-unopened : goal.returns-clause-unopened
returns-clause-unopened g c =
    let saw = c.saw.ensures in
    NoFile c.leave_log-seen.result saw.left.1 (c.leave_log-seen.ensures ∙ c.abandon.ensures) saw.fault.0 saw.fault.1
    (unused _ (image_at g.S.Start) c.args.files _ saw.left.0 c.requires.open)
