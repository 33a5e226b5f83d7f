use Rattle.std.proofs.Common.{arith, inl, inr}
use Rattle.sqlite.specs.Files.{file_state}
use Rattle.sqlite.specs.State.{HasCleanDisk}
use Rattle.sqlite_wal.specs.Files.{image_at}
use Rattle.bag_program.proofs.FileLemmas.{made_or_none}
use Rattle.bag_program.proofs.laws.a_stopped_making_leaves_a_whole_ledger_or_none.Goals as goal

pub returns : goal.returns
returns g c = λ image connected none survives clean stop.
    let s = file_state c.args.opened.now in
    let before : HasCleanDisk s = omega (arith, survives.clean, clean) in
    let it = connected.shows before in
    elim (made_or_none (image_at g.S.Start) s (file_state c.args.stopped.now) c.a_crash_leaves_the_last_commit.ensures it.0 it.1.0 it.1.1 clean none survives stop.0 stop.1) [
      | inl no_tables ↦ inl (stop.0, stop.2, no_tables)
      | inr ledger ↦ inr (stop.0, stop.2, ledger)
    ]
