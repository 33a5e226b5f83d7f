-- What is known of a database once it was verified, and moved to format 2 if it was of format 1.
use Rattle.std.proofs.Common.{◌≡◌, ◌∙◌, ap, arith, false, inl, inr, IsTrue, pos, subst, sym}
use Rattle.bag_sqlite.proofs.Words.{AdoptFault, AreTablesOf, Damaged, Database, First, Format, format_of, Ghosts, HasCleanDisk, HasFormat, HoldsLedger, IsDatabaseOf, IsLedgerDatabase, IsLeft, IsNoAnswer, KeepsAlone, Layout, Ledger, MigratesLedger, Migrated, MovesLedger, NotALedger, number_of, Offers, Origin, RefusesToAdopt, Second, ShowsLedger, State, Survives, Trees}
use Rattle.bag_sqlite.specs.declared.adopting.AdoptFault.TheVariants.{Memory, Store}
use Rattle.bag_sqlite.specs.declared.format.Format.TheVariants as form
use Rattle.bag_sqlite.proofs.CommitLemmas.{LeavesLastCommit}
use Rattle.bag_sqlite.proofs.NoLedgerLemmas.{one_format_named}
use Rattle.bag_sqlite.proofs.OpenedLemmas.{holds_shown, keeps_alone, shows_offered}
use Rattle.bag_sqlite.proofs.ReadingLemmas.{still_holds, still_shows}
use Rattle.bag_sqlite.proofs.SqlLemmas.{survives_same}
use Rattle.sqlite.proofs.StateLemmas.{survives_then}

module _ {S : Type 0} (g : Ghosts S) (old : State) where
  -- it shows a ledger of the format that it names
  of_format : {l : Layout} (format : Format) (ledger : Ledger) → HasFormat g old.committed (number_of format) → ShowsLedger l old ledger → format ≡ format_of l
  of_format {l} format ledger named shows =
      one_format_named g old.committed ledger (ap (λ (d : Database). d.schema) shows.committed ∙ shows.schema_is)
      (subst (λ (d : Database). AreTablesOf l d.trees ledger) (sym shows.committed) shows.database.tables) format named

  shows_first : (l : Layout) (ledger : Ledger) → HasFormat g old.committed (pos 1) → ShowsLedger l old ledger → ShowsLedger First old ledger
  shows_first First ledger named shows = shows
  shows_first (Second o) ledger named shows = absurd (let other : form.First ≡ form.Second = of_format form.First ledger named shows in cc)

  shows_second : (l : Layout) (ledger : Ledger) → HasFormat g old.committed (pos 2) → ShowsLedger l old ledger → (o : Origin) × ShowsLedger (Second o) old ledger
  shows_second First ledger named shows = absurd (let other : form.Second ≡ form.First = of_format form.Second ledger named shows in cc)
  shows_second (Second o) ledger named shows = (o, shows)

  -- a keeper is never of format 1
  pub held_first : (new : State) (ledger : Ledger) → IsTrue old.is_open → HasFormat g old.committed (pos 1) → HoldsLedger old ledger → HoldsLedger new ledger
  held_first new ledger is_open named holds =
      let (o, shows) = holds.shows is_open in
      absurd (let other : form.First ≡ form.Second = of_format form.First ledger named shows in cc)

  -- it was read
  pub kept_second : (new : State) (ledger : Ledger) → LeavesLastCommit old → HasCleanDisk new → IsLeft old new → old.in_transaction ≡ false → Survives old new (λ _. ⊥) → HasFormat g old.committed (pos 2) → Offers old ledger → KeepsAlone new ledger
  kept_second new ledger settled clean left idle survives named offers =
      let it = shows_offered old ledger offers in
      let shows = shows_second it.1 ledger named it.2 in
      let held = holds_shown old ledger settled it.0 shows.1 in
      keeps_alone old new ledger settled it.0 clean survives held (still_holds old new ledger clean left idle survives held)

  -- it was read and moved
  module _ (mid new : State) (idle : old.in_transaction ≡ false) where
    pub kept_first : (ledger : Ledger) → LeavesLastCommit new → HasCleanDisk new → IsLeft old mid → IsTrue mid.is_open → HasFormat g old.committed (pos 1)
        → ((moved : Ledger) → ShowsLedger First mid moved → IsTrue new.is_open × ShowsLedger (Second Migrated) new moved) → Offers old ledger → KeepsAlone new ledger
    kept_first ledger settled clean left is_open named moves offers =
        let it = shows_offered old ledger offers in
        let now = moves ledger (still_shows old mid ledger left idle is_open (shows_first it.1 ledger named it.2)) in
        let holds = holds_shown new ledger settled now.0 now.1 in
        keeps_alone new new ledger settled now.0 clean (survives_same new) holds holds

    pub survives_moving : (HasCleanDisk mid → HasFormat g old.committed (pos 1) × IsLeft old mid) → Survives old mid (λ _. ⊥) → Survives mid new (MovesLedger mid) → Survives old new (MigratesLedger g old)
    survives_moving known read moved =
        survives_then old mid new _ _ (MigratesLedger g old) (λ _ db none. absurd none)
        (λ clean db moves.
        let early : HasCleanDisk mid = omega (arith, clean, moved.clean) in
        let it = known early in
        (it.0, (it.1.was_open moves.0, λ ledger shows. moves.1 ledger (still_shows old mid ledger it.1 idle moves.0 shows))))
        read moved

  -- what a stop leaves
  pub left_offered : (new : State) (ledger : Ledger) → LeavesLastCommit old → HasCleanDisk new → Survives old new (MigratesLedger g old) → Offers old ledger
      → (trees : Trees) → new.may_leave trees → IsLedgerDatabase trees ledger
  left_offered new ledger settled clean survives offers trees may =
      let it = shows_offered old ledger offers in
      let shows = it.2 in
      elim (survives.crash clean trees may) [
        | inl before ↦ (it.1, subst (λ (t : Trees). IsDatabaseOf it.1 t ledger) (sym (settled trees it.0 before ∙ ap (λ (d : Database). d.trees) shows.committed)) shows.database)
        | inr moves ↦ (Second Migrated, moves.1.1 ledger (shows_first it.1 ledger moves.0 shows))
      ]

  -- it was only read
  pub survives_reading : (new : State) → Survives old new (λ _. ⊥) → Survives old new (MigratesLedger g old)
  survives_reading new read = survives_then old new new _ _ (MigratesLedger g old) (λ _ db none. absurd none) (λ _ db none. absurd none) read (survives_same new)

  -- of want of memory and the store nothing is said
  pub unanswered : (fault : AdoptFault) → IsNoAnswer fault → RefusesToAdopt g old.committed fault
  unanswered NotALedger none = absurd none
  unanswered (Damaged name path) none = absurd none
  unanswered Memory any = tt
  unanswered (Store error) any = tt
