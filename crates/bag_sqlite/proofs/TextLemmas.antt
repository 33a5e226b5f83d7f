-- A ledger has no name and no path that isn't UTF-8, so that each query for all of them shows texts.
use Rattle.std.proofs.Common.{◌≡◌, ◌∙◌, inl, inr, ℕ, List, [], ◌∷◌, drop, pos, refl, sym, ap, subst}
use Rattle.std.specs.Prelude.{IsUtf8}
use Rattle.bag_sqlite.specs.Adopting.{all_item_paths_text, all_names_text, all_tag_paths_text, names_and_paths}
use Rattle.bag_sqlite.specs.declared.format.Format.TheVariants as form
use Rattle.bag_sqlite.proofs.Words.{AreTexts, Blob, column, concat, Database, First, first_schema, flat_map, format_of, Ghosts, Has, has_from_map, has_map, held_rows, held_tree, HoldTransfers, Int, IsPermutation-sym, IsPlain, IsText, item_row, item_rows, Layout, Ledger, NumberedItem, NumberedTransfer, Origin, Row, Schema, schema_of, Second, second_schema, size_of, tag_rows, Tells, Text, understood, without_rowids}
use Rattle.bag_sqlite.proofs.LayoutLemmas.{held_seen}
use Rattle.bag_sqlite.proofs.OneLedger.{has_from_flat, has_moved}
use Rattle.bag_sqlite.proofs.TextMeanings.{all_names_is, all_names_plain, all_names_unlisted, all_tag_paths_is, all_tag_paths_plain, all_tag_paths_unlisted, held_path_column, held_paths_is, held_paths_plain, held_paths_unlisted, name_column, tag_path_column, whole_path_column, whole_paths_is, whole_paths_plain, whole_paths_unlisted}
use Rattle.bag_sqlite.proofs.ToldLemmas.{told_lists}
use Rattle.bag_sqlite.proofs.TransferLemmas.{row_of}
use Rattle.bag_sqlite.proofs.TransferRows.{later}
use Rattle.bag_sqlite.proofs.WhereLemmas.{has_from_shown}
use Rattle.bag_rules.proofs.HasLemmas.{all_of}

-- the names and paths of a transfer are UTF-8
pub record IsInText (t : NumberedTransfer) : Type 0 where
  pub name : IsUtf8 t.name
  pub tags : (file : List ℕ × List ℕ) → Has t.tags file → IsUtf8 file.0
  pub items : (item : NumberedItem) → Has t.items item → IsUtf8 item.path

-- the query can be understood, and shows texts
abbrev ShowTexts : {S : Type 0} → Ghosts S → Database → List ℕ → Type 0
ShowTexts g db sql = IsPlain (understood db.schema sql) × ((rows : List Row) → Tells g db sql [] rows → AreTexts rows)

by_schema : {S : Type 0} (g : Ghosts S) (schema : Schema) (db : Database) (sql : List ℕ) → db.schema ≡ schema → IsPlain (understood schema sql) → ((rows : List Row) → Tells g db sql [] rows → (row : Row) → Has rows row → IsText (column row 0)) → ShowTexts g db sql
by_schema g schema db sql has plain texts = (subst (λ s. IsPlain (understood s sql)) (sym has) plain, λ rows told. all_of (λ row. IsText (column row 0)) rows (texts rows told))

module _ {S : Type 0} {l : Layout} (g : Ghosts S) (db : Database) (ledger : Ledger) (has : db.schema ≡ schema_of l) (tables : HoldTransfers l db.trees ledger) (in_text : (t : NumberedTransfer) → Has tables.transfers t → IsInText t) where
  name_told : (rows : List Row) → Tells g db all_names_text [] rows → (row : Row) → Has rows row → IsText (column row 0)
  name_told rows told row here =
      let lists = told_lists g (schema_of l) db has 2 [] name_column [] all_names_text [] rows _ (all_names_is l) (all_names_plain l) (all_names_unlisted l) refl told in
      let from = has_from_shown 2 [] name_column [] [] (db.trees 2) rows lists row here in
      let it = row_of db.trees ledger tables from.0 from.1 in
      (it.0.name, ap (λ r. column r 0) (sym from.3) ∙ ap (λ r. column r 2) (sym it.2), (in_text it.0 it.1).name)

  tag_path_told : (rows : List Row) → Tells g db all_tag_paths_text [] rows → (row : Row) → Has rows row → IsText (column row 0)
  tag_path_told rows told row here =
      let lists = told_lists g (schema_of l) db has 4 [] tag_path_column [] all_tag_paths_text [] rows _ (all_tag_paths_is l) (all_tag_paths_plain l) (all_tag_paths_unlisted l) refl told in
      let from = has_from_shown 4 [] tag_path_column [] [] (db.trees 4) rows lists row here in
      let bare = has_map (drop 1) (db.trees 4) from.0 from.1 in
      let by_transfer = has_from_flat tag_rows tables.transfers (drop 1 from.0)
      (has_moved (without_rowids (db.trees 4)) (flat_map tag_rows tables.transfers) (drop 1 from.0) (IsPermutation-sym _ _ tables.rows.tags) bare) in
      let t = by_transfer.0 in
      let by_file = has_from_map (λ (file : List ℕ × List ℕ). Int t.number ∷ Text file.0 ∷ Blob file.1 ∷ []) t.tags (drop 1 from.0) by_transfer.2 in
      (by_file.0.0, ap (λ r. column r 0) (sym from.3) ∙ sym (later from.0 1) ∙ ap (λ r. column r 1) (sym by_file.2), (in_text t by_transfer.1).tags by_file.0 by_file.1)

module _ {S : Type 0} {o : Origin} (g : Ghosts S) (db : Database) (ledger : Ledger) (has : db.schema ≡ second_schema o) (tables : HoldTransfers (Second o) db.trees ledger) (in_text : (t : NumberedTransfer) → Has tables.transfers t → IsInText t) where
  held_path_told : (rows : List Row) → Tells g db (all_item_paths_text form.Second) [] rows → (row : Row) → Has rows row → IsText (column row 0)
  held_path_told rows told row here =
      let lists = told_lists g (second_schema o) db has (held_tree o) [] held_path_column [] (all_item_paths_text form.Second) [] rows _ (held_paths_is o) (held_paths_plain o) (held_paths_unlisted o) (held_seen o db.trees) told in
      let from = has_from_shown (held_tree o) [] held_path_column [] [] (db.trees (held_tree o)) rows lists row here in
      let by_transfer = has_from_flat held_rows tables.transfers from.0 (has_moved (db.trees (held_tree o)) (flat_map held_rows tables.transfers) from.0 (IsPermutation-sym _ _ tables.rows.items.held) from.1) in
      let t = by_transfer.0 in
      let by_item = has_from_map (λ (item : NumberedItem). item_row item.number t.number item.path (size_of item)) t.items from.0 by_transfer.2 in
      (by_item.0.path, ap (λ r. column r 0) (sym from.3) ∙ ap (λ r. column r 3) (sym by_item.2), (in_text t by_transfer.1).items by_item.0 by_item.1)

module _ {S : Type 0} (g : Ghosts S) (db : Database) (ledger : Ledger) (has : db.schema ≡ first_schema) (tables : HoldTransfers First db.trees ledger) (in_text : (t : NumberedTransfer) → Has tables.transfers t → IsInText t) where
  abbrev row_of_item : NumberedTransfer → NumberedItem → Row
  row_of_item t item = Int item.number ∷ Int t.number ∷ Text item.path ∷ Int (pos (size_of item)) ∷ Blob (concat item.pieces) ∷ []

  whole_path_told : (rows : List Row) → Tells g db (all_item_paths_text form.First) [] rows → (row : Row) → Has rows row → IsText (column row 0)
  whole_path_told rows told row here =
      let lists = told_lists g first_schema db has 6 [] whole_path_column [] (all_item_paths_text form.First) [] rows _ whole_paths_is whole_paths_plain whole_paths_unlisted refl told in
      let from = has_from_shown 6 [] whole_path_column [] [] (db.trees 6) rows lists row here in
      let by_transfer = has_from_flat item_rows tables.transfers from.0 (has_moved (db.trees 6) (flat_map item_rows tables.transfers) from.0 (IsPermutation-sym _ _ tables.rows.items) from.1) in
      let t = by_transfer.0 in
      let by_item = has_from_map (row_of_item t) t.items from.0 by_transfer.2 in
      (by_item.0.path, ap (λ r. column r 0) (sym from.3) ∙ ap (λ r. column r 2) (sym by_item.2), (in_text t by_transfer.1).items by_item.0 by_item.1)

-- the query for the paths of payload files
item_paths_told : {S : Type 0} {l : Layout} (g : Ghosts S) (db : Database) (ledger : Ledger) (has : db.schema ≡ schema_of l) (tables : HoldTransfers l db.trees ledger) → ((t : NumberedTransfer) → Has tables.transfers t → IsInText t)
    → ShowTexts g db (all_item_paths_text (format_of l))
item_paths_told {S} {l = First} g db ledger has tables in_text = by_schema g first_schema db (all_item_paths_text form.First) has whole_paths_plain (whole_path_told g db ledger has tables in_text)
item_paths_told {S} {l = Second o} g db ledger has tables in_text = by_schema g (second_schema o) db (all_item_paths_text form.Second) has (held_paths_plain o) (held_path_told g db ledger has tables in_text)

-- each of these queries can be understood, and shows texts
pub text_told : {S : Type 0} {l : Layout} (g : Ghosts S) (db : Database) (ledger : Ledger) (has : db.schema ≡ schema_of l) (tables : HoldTransfers l db.trees ledger) → ((t : NumberedTransfer) → Has tables.transfers t → IsInText t)
    → (text : List ℕ) → Has (names_and_paths (format_of l)) text → ShowTexts g db text
text_told {S} {l} g db ledger has tables in_text text (inl is) = subst (ShowTexts g db) is (by_schema g (schema_of l) db all_names_text has (all_names_plain l) (name_told g db ledger has tables in_text))
text_told {S} {l} g db ledger has tables in_text text (inr (inl is)) = subst (ShowTexts g db) is (by_schema g (schema_of l) db all_tag_paths_text has (all_tag_paths_plain l) (tag_path_told g db ledger has tables in_text))
text_told {S} {l} g db ledger has tables in_text text (inr (inr (inl is))) = subst (ShowTexts g db) is (item_paths_told g db ledger has tables in_text)
text_told {S} {l} g db ledger has tables in_text text (inr (inr (inr none))) = absurd none
