-- Storing a payload file in one transaction.
use Rattle.std.proofs.Common.{◌≡◌, ◌≤◌, true, false, ℕ, ℤ, List, IsTrue, length, refl, subst, sym, arith}
use Rattle.bag_sqlite.proofs.Words.{AreTablesOf, Awaits, Database, Ghosts, HasCleanDisk, HasContentMore, HasTransferRow, Held, HoldsLedger, in_pieces, IsUnderWay, IsWanted, KeepsCommit, LARGEST_ITEM, Ledger, OnlyQueries, Origin, Second, sound_put, state, State, Survives, survives_begin, Trees, Want, with_item}
use Rattle.bag_sqlite.proofs.CommitLemmas.{Prepares}
use Rattle.bag_sqlite.proofs.HoldingLemmas.{put_tables}
use Rattle.bag_sqlite.proofs.MakingLemmas.{kept_since}
use Rattle.bag_sqlite.proofs.ReadingLemmas.{same_shown, still_holds}
use Rattle.bag_sqlite.proofs.SqlLemmas.{kept_then, survives_both}

more_held : {o : Origin} (old new : Trees) (ledger : Ledger) (name content : List ℕ) (want : Want) (number : ℤ) → AreTablesOf (Second o) old ledger → HasTransferRow old name number → Awaits name want ledger
    → HasContentMore o old new number want.path.now content → AreTablesOf (Second o) new (with_item ledger name want.path.now content)
more_held {o} old new ledger name content want number tables named awaits it =
    subst (λ octets. AreTablesOf (Second o) new (with_item ledger name want.path.now octets)) it.joined
    (put_tables old new ledger name number (in_pieces it.number want.path.now it.pieces) tables named it.more it.cut awaits.not_held)

-- the number of the transfer was looked up before the transaction began
module _ {S : Type 0} (g : Ghosts S) (old asked : Held S) (mid : State) (name : List ℕ) (want : Want) (number : ℤ) (content : List ℕ) where
  abbrev begun : State
  begun = state g (record asked { in_transaction = true })

  abbrev pub puts_it : Ledger → Ledger
  puts_it ledger = with_item ledger name want.path.now content

  pub prepares_put : (state g old).in_transaction ≡ false → OnlyQueries g old asked
      → (HasCleanDisk (state g asked) → (ledger : Ledger) → HoldsLedger (state g old) ledger → HasTransferRow (state g old).now.trees name number) → length content ≤ LARGEST_ITEM → IsWanted want content
      → (HasCleanDisk mid → (o : Origin) → IsUnderWay o begun → IsUnderWay o mid × HasContentMore o begun.now.trees mid.now.trees number want.path.now content) → (HasCleanDisk mid → IsTrue begun.in_transaction → IsTrue begun.is_open)
      → (HasCleanDisk mid → KeepsCommit begun mid) → Survives begun mid (λ _. ⊥) → Prepares g (Awaits name want) puts_it old mid
  prepares_put idle asks named within wanted written opened kept survives =
      let on = survives_begin g asked mid _ survives in
      let early = λ (clean : HasCleanDisk mid). let it : HasCleanDisk (state g asked) = omega (arith, clean, on.clean) in it in
      record {
        kept = λ clean.
            let was = asks.left (early clean) in
            kept_then (state g old) (state g asked) mid (record { was_open = was.was_open; committed = was.committed }) (kept_since g asked mid (kept clean));
        survives = survives_both (state g old) (state g asked) mid asks.survives on;
        database = λ clean ledger holds awaits.
            let was = asks.left (early clean) in
            let is_open = opened clean refl in
            let still = still_holds (state g old) (state g asked) ledger (early clean) was idle asks.survives holds in
            let (o, shows) = still.shows is_open in
            let same = same_shown (state g old) (state g asked) was idle is_open (holds.shows (was.was_open is_open)).1.committed in
            let row = subst (λ (d : Database). HasTransferRow d.trees name number) (sym same) (named (early clean) ledger holds) in
            let it = written clean o (record { mode = refl; schema_is = shows.schema_is; listed = shows.database.listed }) in (
              o,
              it.0,
              record {
                listed = it.0.listed;
                tables = more_held begun.now.trees mid.now.trees ledger name content want number shows.database.tables row awaits it.1;
                sound = sound_put ledger name content want holds.sound awaits within wanted;
              },
            );
      }
