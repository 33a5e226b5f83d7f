use Rattle.std.proofs.Common.{◌∷◌, [], ℕ, Bool, List, ap₂, cond, false, inl, inr, subst, true}
use Rattle.sqlite_disk.specs.Disk.{Only}
use Rattle.sqlite_disk.specs.Events.{Event, replay, settled}
use Rattle.sqlite_disk.specs.History.{MayLeave}
use Rattle.sqlite_wal.specs.Recovery.{Image}
use Rattle.bag_program.proofs.ledgers.locking.open_locked.Goals as goal

abbrev image : List ℕ → List ℕ → Image
image log db = record { log = log; db = db }

-- what a file shows after these events
abbrev seen : List ℕ → List ℕ → Bool → List Event → List ℕ
seen log db is_log events = (replay (cond is_log log db) events).seen

-- and what a crash may leave of it
abbrev may_leave : List ℕ → List ℕ → Bool → Bool → List Event → List ℕ → Type 0
may_leave log db mixes is_log events c =
    let m = replay (cond is_log log db) events in
    MayLeave mixes m.seen m.synced m.steps c

-- once it was settled, a crash leaves what it held
only : (start : List ℕ) (mixes : Bool) (key : ℕ) → Only start (λ c. let m = replay start (settled key ∷ []) in MayLeave mixes m.seen m.synced m.steps c)
only start mixes key c may = elim may [ inl same ↦ same | inr reached ↦ reached ]

pub returns-in-Ok : goal.returns-in-Ok
returns-in-Ok g c =
    let (log, db) = c.in-Ok.ensures.fresh in
    let files = c.in-Ok.files in
    let same = ap₂ image (ap₂ (seen g.S.Start.log g.S.Start.db) log.0 log.1) (ap₂ (seen g.S.Start.log g.S.Start.db) db.0 db.1) in
    let left = may_leave g.S.Start.log g.S.Start.db g.S.Start.is_mixing in
    record {
      log = c.in-Ok.ensures.log;
      db = c.in-Ok.ensures.db;
      holds = same;
      log_only = λ it may. only g.S.Start.log g.S.Start.is_mixing files.log.key it
          (subst (λ events. left true events it) log.1 (subst (λ is_log. left is_log files.log.calls.log.events it) log.0 may));
      db_only = λ it may. only g.S.Start.db g.S.Start.is_mixing files.db.key it
          (subst (λ events. left false events it) db.1 (subst (λ is_log. left is_log files.db.calls.log.events it) db.0 may));
    }
