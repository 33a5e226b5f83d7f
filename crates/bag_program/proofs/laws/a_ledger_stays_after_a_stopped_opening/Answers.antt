use Rattle.std.proofs.Common.{arith}
use Rattle.sqlite.specs.Files.{file_state, over_files}
use Rattle.sqlite.specs.State.{HasCleanDisk}
use Rattle.sqlite_wal.specs.Files.{image_at}
use Rattle.bag_program.proofs.FileLemmas.{stays}
use Rattle.bag_program.proofs.laws.a_ledger_stays_after_a_stopped_opening.Goals as goal

pub returns : goal.returns
returns g c = λ layout ledger image stored connected survives clean stop.
    let s = file_state c.args.opened.now in
    let before : HasCleanDisk s = omega (arith, survives.clean, clean) in
    let it = connected.shows before in
    let left = stays (image_at g.S.Start) s (file_state c.args.stopped.now) c.a_crash_leaves_the_last_commit.ensures it.0 it.1.0 it.1.1 clean over_files layout ledger stored survives stop.0 stop.1 in
    (left.0, left.1, (stop.0, stop.2, left.2))
