use Rattle.std.proofs.Common.{IsTrue, subst}
use Rattle.sqlite_store.specs.FileStore.{view}
use Rattle.bag_program.proofs.FileLemmas.{stop_of}
use Rattle.bag_program.proofs.laws.the_disk_leaves_what_a_stop_may_leave.Goals as goal

pub returns : goal.returns
returns g c = λ clean ledger image holds may.
    let numbered = subst IsTrue c.into_store.ensures.undone.numbered (c.into_store.ensures.numbered clean) in
    stop_of c.args.stopped.connection ledger holds image (rw c.release.ensures at numbered) may
