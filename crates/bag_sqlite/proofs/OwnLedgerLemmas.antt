-- A database that holds a ledger is refused for no reason but want of memory and the store.
use Rattle.std.proofs.Common.{◌≡◌, ◌∙◌, ℕ, List, inl, inr, string_bytes, sym, ap, subst}
use Rattle.bag_rules.proofs.InPlace.{expected_path}
use Rattle.bag_rules.specs.Files.{IsTagFile}
use Rattle.bag_sqlite.proofs.Words.{AdoptFault, all_has, AreTablesOf, concat, Damaged, Database, Format, Ghosts, Has, has_map, HasFormat, IsDamaged, IsNoAnswer, IsNoLedger, IsSound, Layout, Ledger, NotALedger, number_of, NumberedTransfer, RefusesToAdopt, schema_of, ShowsLedger, State, without_number}
use Rattle.bag_sqlite.proofs.DamageLemmas.{in_ledger, is_undamaged, stands}
use Rattle.bag_sqlite.proofs.NoLedgerLemmas.{format_shown, is_ledger, one_format_named}
use Rattle.bag_sqlite.proofs.OneLedger.{read}
use Rattle.bag_sqlite.proofs.TextLemmas.{IsInText}
use Rattle.bag_sqlite.specs.declared.adopting.AdoptFault.TheVariants.{Memory, Store}

module _ {S : Type 0} {l : Layout} (g : Ghosts S) (db : Database) (ledger : Ledger) (has : db.schema ≡ schema_of l) (tables : AreTablesOf l db.trees ledger) (sound : IsSound ledger) where
  in_text : (t : NumberedTransfer) → Has tables.held.transfers t → IsInText t
  in_text t there =
      let it = stands g db ledger has tables.held sound t there in
      record {
        name = sound.utf8 t.name (without_number t).1 (in_ledger g db ledger has tables.held t there);
        tags = λ file owned. (all_has IsTagFile t.tags file it.tag_files.each owned).0.0.utf8;
        items = λ item owned. (expected_path t.tags item.path (it.held.passing item.path (concat item.pieces) (has_map read t.items item owned)).expected).utf8;
      }

  no_ledger_of_its_format : (format : Format) → HasFormat g db (number_of format) → ¬ IsNoLedger g db format
  no_ledger_of_its_format format named none = is_ledger g db ledger has tables in_text (subst (IsNoLedger g db) (one_format_named g db ledger has tables format named) none)

  undamaged : (format : Format) → HasFormat g db (number_of format) → (name path : List ℕ) → ¬ IsDamaged g db format name path
  undamaged format named name path damaged =
      is_undamaged g db ledger has tables.held sound name path (subst (λ f. IsDamaged g db f name path) (one_format_named g db ledger has tables format named) damaged)

  a_ledger_is_not_refused : (fault : AdoptFault) → RefusesToAdopt g db fault → IsNoAnswer fault
  a_ledger_is_not_refused NotALedger (inl none) = absurd (format_shown g db ledger has tables none)
  a_ledger_is_not_refused NotALedger (inr other) = absurd (no_ledger_of_its_format other.0 other.1 other.2)
  a_ledger_is_not_refused (Damaged name path) damaged = absurd (undamaged damaged.0 damaged.1 (string_bytes name) (string_bytes path) damaged.2.1)
  a_ledger_is_not_refused Memory any = tt
  a_ledger_is_not_refused (Store error) any = tt

-- on a connection that shows it
pub not_refused : {S : Type 0} {l : Layout} (g : Ghosts S) (s : State) (ledger : Ledger) → ShowsLedger l s ledger → (fault : AdoptFault) → RefusesToAdopt g s.committed fault → IsNoAnswer fault
not_refused {S} {l} g s ledger shows fault refused =
    a_ledger_is_not_refused g s.committed ledger (ap (λ (d : Database). d.schema) shows.committed ∙ shows.schema_is)
    (subst (λ (d : Database). AreTablesOf l d.trees ledger) (sym shows.committed) shows.database.tables) shows.database.sound fault refused
