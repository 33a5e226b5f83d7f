-- A transaction on the tables of a ledger is committed or rolled back.
use Rattle.std.proofs.Common.{◌≡◌, ◌⊎◌, inl, inr, false, IsTrue, sym, ap, subst, ◌∙◌, arith}
use Rattle.bag_sqlite.proofs.Words.{Database, Error, FailsToCommit, Ghosts, HasCleanDisk, Held, HoldsLedger, IsDatabaseOf, IsLedgerDatabase, IsLeft, IsUnderWay, KeepsCommit, Leaves, Ledger, MayLeaveLedger, Origin, Second, second_schema, Shows, state, State, Survives, survives_then, Trees}
use Rattle.bag_ledger.specs.Keeping.{Writes}
use Rattle.bag_sqlite.proofs.MakingLemmas.{left_by_failing}
use Rattle.bag_sqlite.proofs.OneDatabase.{one_database}

-- as long as it is open, a crash leaves the last commit
abbrev pub LeavesLastCommit : State → Type 0
LeavesLastCommit s = (trees : Trees) → IsTrue s.is_open → s.may_leave trees → trees ≡ s.committed.trees

-- what a transaction saw is committed
module _ (mid end : State) (shows : Shows mid end mid.now mid.now false) (settled : LeavesLastCommit end) where
  left_alone : (trees : Trees) → end.may_leave trees → trees ≡ mid.now.trees
  left_alone trees may = settled trees shows.is_open may ∙ ap (λ (d : Database). d.trees) shows.committed_is

  committed_holds : (o : Origin) (ledger : Ledger) → mid.now.schema ≡ second_schema o → IsDatabaseOf (Second o) mid.now.trees ledger → HoldsLedger end ledger
  committed_holds o ledger schema database = record {
    sound = database.sound;
    shows = λ _. (
      o,
      record {
        schema_is = ap (λ (d : Database). d.schema) shows.now_is ∙ schema;
        database = subst (λ (d : Database). IsDatabaseOf (Second o) d.trees ledger) (sym shows.now_is) database;
        committed = shows.committed_is ∙ sym shows.now_is;
      },
    );
    outcomes = λ trees may. (ledger, (Second o, subst (λ (t : Trees). IsDatabaseOf (Second o) t ledger) (sym (left_alone trees may)) database));
  }

-- nothing is committed
left_holds : (old end : State) (ledger : Ledger) → old.in_transaction ≡ false → IsLeft old end → HoldsLedger old ledger
    → ((trees : Trees) → end.may_leave trees → old.may_leave trees ⊎ ((left : Ledger) × IsLedgerDatabase trees left)) → HoldsLedger end ledger
left_holds old end ledger idle left holds crash = record {
  sound = holds.sound;
  shows = λ is_open.
      let (o, was) = holds.shows (left.was_open is_open) in
      let now = left.now is_open idle ∙ was.committed in (
        o,
        record {
          schema_is = ap (λ (d : Database). d.schema) now ∙ was.schema_is;
          database = subst (λ (d : Database). IsDatabaseOf (Second o) d.trees ledger) (sym now) was.database;
          committed = left.committed is_open ∙ sym (left.now is_open idle);
        },
      );
  outcomes = λ trees may. elim (crash trees may) [ inl before ↦ holds.outcomes trees before | inr made ↦ made ];
}

-- what the steps of a transaction that began at a connection did, if all of them were taken
module _ {S : Type 0} (g : Ghosts S) (such : Ledger → Type 0) (change : Ledger → Ledger) (old : Held S) where
  pub record Prepares (mid : State) : Type 0 where
    pub kept : HasCleanDisk mid → KeepsCommit (state g old) mid
    pub survives : Survives (state g old) mid (λ _. ⊥)
    pub database : HasCleanDisk mid → (ledger : Ledger) → HoldsLedger (state g old) ledger → such ledger → (o : Origin) × IsUnderWay o mid × IsDatabaseOf (Second o) mid.now.trees (change ledger)

module _ {S : Type 0} (g : Ghosts S) (such : Ledger → Type 0) (change : Ledger → Ledger) (old : Held S) (idle : (state g old).in_transaction ≡ false) (end : Held S) where
  abbrev pub WritesLedger : Type 0
  WritesLedger = Writes (λ (h : Held S). HoldsLedger (state g h)) (λ h. MayLeaveLedger (state g h)) (λ h. HasCleanDisk (state g h)) such old end change

  abbrev pub LeavesLedger : Type 0
  LeavesLedger = Leaves (λ (h : Held S). HoldsLedger (state g h)) (λ h. MayLeaveLedger (state g h)) (λ h. HasCleanDisk (state g h)) such old end change

  module _ (mid : State) (prepares : Prepares g such change old mid) (survives : Survives mid (state g end) (λ db. db ≡ mid.now.trees)) where
    mid_clean : HasCleanDisk (state g end) → HasCleanDisk mid
    mid_clean clean = omega (arith, clean, survives.clean)

    old_clean : HasCleanDisk (state g end) → HasCleanDisk (state g old)
    old_clean clean = omega (arith, clean, survives.clean, prepares.survives.clean)

    pub committed : (HasCleanDisk (state g end) → Shows mid (state g end) mid.now mid.now false) → LeavesLastCommit (state g end) → WritesLedger
    committed shows settled = record {
      was_clean = old_clean;
      held = λ clean ledger holds fits.
          let it = prepares.database (mid_clean clean) ledger holds fits in
          committed_holds mid (state g end) (shows clean) settled it.0 (change ledger) it.1.schema_is it.2;
      left = λ clean ledger crashed holds fits may.
          let it = prepares.database (mid_clean clean) ledger holds fits in
          one_database mid.now.trees crashed (change ledger) (subst (λ (t : Trees). IsLedgerDatabase t crashed) (left_alone mid (state g end) (shows clean) settled may.0 may.1) may.2) (Second it.0, it.2);
    }

    crash : HasCleanDisk (state g end) → (trees : Trees) → (state g end).may_leave trees → (state g old).may_leave trees ⊎ (trees ≡ mid.now.trees)
    crash = (survives_then (state g old) mid (state g end) _ _ (λ db. db ≡ mid.now.trees) (λ _ db none. absurd none) (λ _ db is. is) prepares.survives survives).crash

    pub failed : (e : Error) → (HasCleanDisk (state g end) → FailsToCommit mid (state g end) e) → LeavesLedger
    failed e fails = record {
      was_clean = old_clean;
      held = λ clean ledger holds fits.
          let it = prepares.database (mid_clean clean) ledger holds fits in
          let left = left_by_failing (state g old) mid (state g end) e idle it.1.mode (prepares.kept (mid_clean clean)) (fails clean) in
          left_holds (state g old) (state g end) ledger idle left holds (λ trees may. elim (crash clean trees may) [
            | inl before ↦ inl before
            | inr is ↦ inr (change ledger, (Second it.0, subst (λ (t : Trees). IsDatabaseOf (Second it.0) t (change ledger)) (sym is) it.2))
          ]);
      left = λ clean ledger crashed holds fits may.
          let it = prepares.database (mid_clean clean) ledger holds fits in
          elim (crash clean may.0 may.1) [
            | inl before ↦ inl (may.0, before, may.2)
            | inr is ↦ inr (one_database mid.now.trees crashed (change ledger) (subst (λ (t : Trees). IsLedgerDatabase t crashed) is may.2) (Second it.0, it.2))
          ];
    }
