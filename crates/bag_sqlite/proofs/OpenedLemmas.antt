-- What is known of a connection that was opened on the database of a ledger.
use Rattle.std.proofs.Common.{◌≡◌, inl, inr, IsTrue, sym, ap, subst, ◌∙◌}
use Rattle.bag_sqlite.specs.SqlKeepers.{IsOpenedOn}
use Rattle.bag_sqlite.proofs.Words.{Database, HasCleanDisk, HoldsLedger, IsDatabaseOf, IsLedgerDatabase, KeepsAlone, Layout, Ledger, Offers, Origin, Second, ShowsLedger, State, Survives, Trees}
use Rattle.bag_sqlite.proofs.CommitLemmas.{LeavesLastCommit}
use Rattle.bag_sqlite.proofs.OneDatabase.{listed_schema, one_database}

-- it shows the ledger
opened_shows : (s : State) (ledger : Ledger) → IsOpenedOn s ledger → (l : Layout) × ShowsLedger l s ledger
opened_shows s ledger it =
    let (l, stored) = it.database in
    let same : s.now.trees ≡ s.committed.trees = ap (λ (d : Database). d.trees) it.opens.clean in
    let database : IsDatabaseOf l s.now.trees ledger = subst (λ (t : Trees). IsDatabaseOf l t ledger) (sym same) stored in (
      l,
      record {
        schema_is = sym (listed_schema l s.now.schema s.now.trees database.listed (it.live it.opens.is_open).0);
        database = database;
        committed = sym it.opens.clean;
      },
    )

-- so does one that offers it
pub shows_offered : (s : State) (ledger : Ledger) → Offers s ledger → IsTrue s.is_open × (l : Layout) × ShowsLedger l s ledger
shows_offered s ledger (inl shown) = shown
shows_offered s ledger (inr opened) =
    let it = opened_shows s ledger opened in
    (opened.opens.is_open, it.0, it.1)

-- in format 2 it holds it
pub holds_shown : {o : Origin} (s : State) (ledger : Ledger) → LeavesLastCommit s → IsTrue s.is_open → ShowsLedger (Second o) s ledger → HoldsLedger s ledger
holds_shown {o} s ledger settled is_open shows = record {
  sound = shows.database.sound;
  shows = λ _. (o, shows);
  outcomes = λ trees may. (ledger, (Second o, subst (λ (t : Trees). IsDatabaseOf (Second o) t ledger) (sym (settled trees is_open may ∙ ap (λ (d : Database). d.trees) shows.committed)) shows.database));
}

-- a call that commits nothing on an open connection leaves the ledger alone
pub keeps_alone : (old new : State) (ledger : Ledger) → LeavesLastCommit old → IsTrue old.is_open → HasCleanDisk new → Survives old new (λ _. ⊥) → HoldsLedger old ledger → HoldsLedger new ledger → KeepsAlone new ledger
keeps_alone old new ledger settled is_open clean survives held holds = record {
  holds = holds;
  alone = λ crashed may.
      let (o, shows) = held.shows is_open in
      let before : old.may_leave may.0 = elim (survives.crash clean may.0 may.1) [ inl was ↦ was | inr none ↦ absurd none ] in
      let same : may.0 ≡ old.now.trees = settled may.0 is_open before ∙ ap (λ (d : Database). d.trees) shows.committed in
      one_database old.now.trees crashed ledger (subst (λ (t : Trees). IsLedgerDatabase t crashed) same may.2) (Second o, shows.database);
}
