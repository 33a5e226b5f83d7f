-- What a database with the tables of a ledger tells: the rows that its queries show.
use Rattle.std.proofs.Common.{◌≡◌, ℕ, ℤ, List, [], ◌∷◌, false, true, drop, map, pos, refl, sym, ap, subst, ◌∙◌}
use Rattle.sqlite.specs.Effect.{Reads}
use Rattle.bag_sqlite.proofs.Words.{AreTablesOf, ascending, Binary, Blob, col, column, Command, command_of, concat, Database, Decides-int_eq, filter, First, first_schema, flat_map, format_of, format_row, format_text, Ghosts, Has, has_from_map, has_map, held_rows, held_tree, HoldTransfers, Int, IsPermutation-sym, IsPlain, item_row, item_rows, items_text, Key, Layout, Ledger, Null, number_of, NumberedItem, NumberedTransfer, one_permutation, Origin, Output, overlay, reads_as, reads_listing, Row, Schema, schema_of, Second, second_schema, Select, size_of, state, tag_files_text, tag_rows, tag_shown, Tells, Term, Text, transfers_text, Trees, understood, without_rowids}
use Rattle.std.specs.Prelude.{IsPermutation}
use Rattle.bag_sqlite.specs.declared.format.Format.TheVariants as form
use Rattle.bag_sqlite.proofs.AdoptingMeanings.{whole_columns, whole_is, whole_plain, whole_unlisted, whole_where, format_columns, format_is, format_plain, format_unlisted, items_columns, items_is, items_plain, items_unlisted, items_where, transfers_columns, transfers_is, transfers_plain, transfers_unlisted}
use Rattle.bag_sqlite.proofs.LayoutLemmas.{held_seen}
use Rattle.bag_sqlite.proofs.OneLedger.{has_from_flat, has_moved}
use Rattle.bag_sqlite.proofs.TransferLemmas.{row_of}
use Rattle.bag_sqlite.proofs.TransferMeanings.{tags_is, tags_plain, tags_unlisted}
use Rattle.bag_sqlite.proofs.TransferRows.{later}
use Rattle.bag_sqlite.proofs.WhereLemmas.{Lists, answer_lists, equal_numbers, equals, has_from_shown, over, passes}
use Rattle.std.proofs.Math.Bool.{and-true}

-- WHAT IS TOLD, BY THE MEANING OF THE QUERY

module _ {S : Type 0} (g : Ghosts S) (schema : Schema) (db : Database) (has : db.schema ≡ schema) where
  pub told_reads : (sql : List ℕ) (params : Row) (rows : List Row) (command : Command) → command_of (understood schema sql) ≡ command → IsPlain (understood schema sql)
      → reads_listing schema sql ≡ false → Tells g db sql params rows → Reads command db params rows
  told_reads sql params rows command is plain unlisted told =
      let start = state g (record told.at { in_transaction = true }) in
      subst (λ (d : Database). Reads command d params rows) told.is
      (reads_as sql params start (state g told.shown.then) schema (ap (λ (d : Database). d.schema) told.is ∙ has) command is plain unlisted rows told.shown.shown)

  -- a query on the rows of one table
  pub told_lists : (tree : ℕ) (conditions project : List Term) (order : List (Term × Key)) (sql : List ℕ) (params : Row) (rows : List Row) (names : List (List ℕ))
      → command_of (understood schema sql) ≡ Select (record { lets = []; body = over tree conditions project order }) names → IsPlain (understood schema sql)
      → reads_listing schema sql ≡ false → overlay db.trees [] tree ≡ db.trees tree → Tells g db sql params rows → Lists tree conditions project order params (db.trees tree) rows
  told_lists tree conditions project order sql params rows names is plain unlisted same told =
      let got = told_reads sql params rows (Select (record { lets = []; body = over tree conditions project order }) names) is plain unlisted told in
      answer_lists tree conditions project order params db.trees rows (got.answer Null) same

abbrev by_path : Term → List (Term × Key)
by_path path = (path, ascending Binary) ∷ []

module _ {S : Type 0} {l : Layout} (g : Ghosts S) (db : Database) (ledger : Ledger) (has : db.schema ≡ schema_of l) (tables : HoldTransfers l db.trees ledger) where
  -- TRANSFERS

  -- the row of a transfer, as it is shown
  pub record IsTransferShown (row : Row) : Type 0 where
    pub transfer : NumberedTransfer
    pub there : Has tables.transfers transfer
    pub is : row ≡ Int transfer.number ∷ Text transfer.name ∷ []

  pub transfer_told : (rows : List Row) → Tells g db transfers_text [] rows → (row : Row) → Has rows row → IsTransferShown row
  transfer_told rows told row here =
      let lists = told_lists g (schema_of l) db has 2 [] transfers_columns (by_path (col 1 2)) transfers_text [] rows _ (transfers_is l) (transfers_plain l) (transfers_unlisted l) refl told in
      let from = has_from_shown 2 [] transfers_columns (by_path (col 1 2)) [] (db.trees 2) rows lists row here in
      let it = row_of db.trees ledger tables from.0 from.1 in
      record {
        transfer = it.0;
        there = it.1;
        is = sym from.3 ∙ ap (λ r. column r 0 ∷ column r 2 ∷ []) (sym it.2);
      }

  -- TAG FILES

  pub record IsTagShown (row : Row) : Type 0 where
    pub transfer : NumberedTransfer
    pub there : Has tables.transfers transfer
    pub file : List ℕ × List ℕ
    pub owned : Has transfer.tags file
    pub is : row ≡ tag_shown file

  -- whichever number is asked for
  pub tag_told : (number : ℤ) (rows : List Row) → Tells g db tag_files_text (Int number ∷ []) rows → (row : Row) → Has rows row → IsTagShown row
  tag_told number rows told row here =
      let conditions : List Term = equals (col 1 1) (col 0 0) ∷ [] in
      let shown : List Term = col 1 2 ∷ col 1 3 ∷ [] in
      let lists = told_lists g (schema_of l) db has 4 conditions shown (by_path (col 1 2)) tag_files_text (Int number ∷ []) rows _ (tags_is l) (tags_plain l) (tags_unlisted l) refl told in
      let from = has_from_shown 4 conditions shown (by_path (col 1 2)) (Int number ∷ []) (db.trees 4) rows lists row here in
      let bare = has_map (drop 1) (db.trees 4) from.0 from.1 in
      let by_transfer = has_from_flat tag_rows tables.transfers (drop 1 from.0)
      (has_moved (without_rowids (db.trees 4)) (flat_map tag_rows tables.transfers) (drop 1 from.0) (IsPermutation-sym _ _ tables.rows.tags) bare) in
      let t = by_transfer.0 in
      let by_file = has_from_map (λ (file : List ℕ × List ℕ). Int t.number ∷ Text file.0 ∷ Blob file.1 ∷ []) t.tags (drop 1 from.0) by_transfer.2 in
      record {
        transfer = t;
        there = by_transfer.1;
        file = by_file.0;
        owned = by_file.1;
        is = sym from.3 ∙ (λ i. sym (later from.0 1) i ∷ sym (later from.0 2) i ∷ []) ∙ ap (λ r. column r 1 ∷ column r 2 ∷ []) (sym by_file.2);
      }

-- PAYLOAD FILES

pub record IsItemShown {l : Layout} {trees : Trees} {ledger : Ledger} (tables : HoldTransfers l trees ledger) (number : ℤ) (row : Row) : Type 0 where
  pub transfer : NumberedTransfer
  pub there : Has tables.transfers transfer
  pub number_is : transfer.number ≡ number
  pub item : NumberedItem
  pub owned : Has transfer.items item
  pub is : row ≡ Int item.number ∷ Text item.path ∷ Int (pos (size_of item)) ∷ []

module _ {S : Type 0} {o : Origin} (g : Ghosts S) (db : Database) (ledger : Ledger) (has : db.schema ≡ second_schema o) (tables : HoldTransfers (Second o) db.trees ledger) where
  held_told : (number : ℤ) (rows : List Row) → Tells g db (items_text form.Second) (Int number ∷ []) rows → (row : Row) → Has rows row → IsItemShown tables number row
  held_told number rows told row here =
      let lists = told_lists g (second_schema o) db has (held_tree o) items_where items_columns (by_path (col 1 3)) (items_text form.Second) (Int number ∷ []) rows _ (items_is o) (items_plain o) (items_unlisted o) (held_seen o db.trees) told in
      let from = has_from_shown (held_tree o) items_where items_columns (by_path (col 1 3)) (Int number ∷ []) (db.trees (held_tree o)) rows lists row here in
      let by_transfer = has_from_flat held_rows tables.transfers from.0 (has_moved (db.trees (held_tree o)) (flat_map held_rows tables.transfers) from.0 (IsPermutation-sym _ _ tables.rows.items.held) from.1) in
      let t = by_transfer.0 in
      let by_item = has_from_map (λ (item : NumberedItem). item_row item.number t.number item.path (size_of item)) t.items from.0 by_transfer.2 in
      let tested : passes items_where (Int number ∷ []) (item_row by_item.0.number t.number by_item.0.path (size_of by_item.0)) ≡ true = ap (passes items_where (Int number ∷ [])) by_item.2 ∙ from.2 in
      record {
        transfer = t;
        there = by_transfer.1;
        number_is = (Decides-int_eq t.number number).0 (sym (and-true _ ∙ equal_numbers t.number number) ∙ tested);
        item = by_item.0;
        owned = by_item.1;
        is = sym from.3 ∙ ap (λ r. column r 0 ∷ column r 3 ∷ column r 4 ∷ []) (sym by_item.2);
      }

module _ {S : Type 0} (g : Ghosts S) (db : Database) (ledger : Ledger) (has : db.schema ≡ first_schema) (tables : HoldTransfers First db.trees ledger) where
  abbrev row_of_item : NumberedTransfer → NumberedItem → Row
  row_of_item t item = Int item.number ∷ Int t.number ∷ Text item.path ∷ Int (pos (size_of item)) ∷ Blob (concat item.pieces) ∷ []

  whole_told : (number : ℤ) (rows : List Row) → Tells g db (items_text form.First) (Int number ∷ []) rows → (row : Row) → Has rows row → IsItemShown tables number row
  whole_told number rows told row here =
      let lists = told_lists g first_schema db has 6 whole_where whole_columns (by_path (col 1 2)) (items_text form.First) (Int number ∷ []) rows _ whole_is whole_plain whole_unlisted refl told in
      let from = has_from_shown 6 whole_where whole_columns (by_path (col 1 2)) (Int number ∷ []) (db.trees 6) rows lists row here in
      let by_transfer = has_from_flat item_rows tables.transfers from.0 (has_moved (db.trees 6) (flat_map item_rows tables.transfers) from.0 (IsPermutation-sym _ _ tables.rows.items) from.1) in
      let t = by_transfer.0 in
      let by_item = has_from_map (row_of_item t) t.items from.0 by_transfer.2 in
      let tested : passes whole_where (Int number ∷ []) (row_of_item t by_item.0) ≡ true = ap (passes whole_where (Int number ∷ [])) by_item.2 ∙ from.2 in
      record {
        transfer = t;
        there = by_transfer.1;
        number_is = (Decides-int_eq t.number number).0 (sym (and-true _ ∙ equal_numbers t.number number) ∙ tested);
        item = by_item.0;
        owned = by_item.1;
        is = sym from.3 ∙ ap (λ r. column r 0 ∷ column r 2 ∷ column r 3 ∷ []) (sym by_item.2);
      }

-- in either format
pub item_told : {S : Type 0} {l : Layout} (g : Ghosts S) (db : Database) (ledger : Ledger) (has : db.schema ≡ schema_of l) (tables : HoldTransfers l db.trees ledger) (number : ℤ) (rows : List Row)
    → Tells g db (items_text (format_of l)) (Int number ∷ []) rows → (row : Row) → Has rows row → IsItemShown tables number row
item_told {S} {l = First} g db ledger has tables = whole_told g db ledger has tables
item_told {S} {l = Second o} g db ledger has tables = held_told g db ledger has tables

-- a query without conditions is passed by all rows
pub unasked : (table : List Row) → filter (passes [] []) table ≡ table
unasked [] = refl
unasked (row ∷ table) = ap (λ rows. row ∷ rows) (unasked table)

-- THE FORMAT

module _ {S : Type 0} {l : Layout} (g : Ghosts S) (db : Database) (ledger : Ledger) (has : db.schema ≡ schema_of l) (tables : AreTablesOf l db.trees ledger) where
  one_row : (table : List Row) (shown : List Output) → without_rowids table ≡ format_row (number_of (format_of l)) ∷ [] → IsPermutation (map (λ row. ([], column row 1 ∷ column row 2 ∷ [])) table) shown
      → map (λ (o : Output). o.1) shown ≡ format_row (number_of (format_of l)) ∷ []
  one_row [] shown is moves = absurd cc
  one_row (row ∷ []) shown is moves =
      let bare : drop 1 row ≡ format_row (number_of (format_of l)) = cc in
      let one : Output = ([], column row 1 ∷ column row 2 ∷ []) in
      ap (map (λ (o : Output). o.1)) (one_permutation one shown moves)
      ∙ (λ i. (sym (later row 0) i ∷ sym (later row 1) i ∷ []) ∷ []) ∙ ap (λ r. (column r 0 ∷ column r 1 ∷ []) ∷ []) bare
  one_row (row ∷ next ∷ more) shown is moves = absurd cc

  -- the only row that names a format
  pub format_told : (rows : List Row) → Tells g db format_text [] rows → rows ≡ format_row (number_of (format_of l)) ∷ []
  format_told rows told =
      let lists = told_lists g (schema_of l) db has 0 [] format_columns [] format_text [] rows _ (format_is l) (format_plain l) (format_unlisted l) refl told in
      lists.shown ∙ one_row (db.trees 0) lists.ordered (ap without_rowids tables.format.1) (subst (λ l. IsPermutation (map (λ row. ([], column row 1 ∷ column row 2 ∷ [])) l) lists.ordered) (unasked (db.trees 0)) lists.same)
