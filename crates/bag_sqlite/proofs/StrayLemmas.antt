-- A ledger has no stray rows: each row has values of its types, and an owner.
use Rattle.std.proofs.Common.{◌≡◌, ◌≤◌, ◌&&◌, ◌++◌, inl, inr, ℕ, ℤ, List, [], ◌∷◌, arith, codes, drop, false, length, length-append, map, min, pos, refl, sym, true, ap, subst, ◌∙◌}
use Rattle.std.specs.Prelude.{IsPermutation}
use Rattle.sqlite_sql.specs.Query.{counted, matches}
use Rattle.bag_sqlite.specs.Adopting.{stray_items_text, stray_pieces_text, stray_tag_files_text, stray_transfers_text, stray_whole_items_text}
use Rattle.bag_sqlite.proofs.Words.{binary, Binary, Blob, col, column, command_of, Compare, concat, Database, end, enumerate_from, Eq, First, first_schema, flat_map, format_of, Ghosts, Has, has_from_map, has_map, held_rows, held_tree, holds, HoldTransfers, inner, Int, is_true, IsAnswer, IsPermutation-sym, IsPlain, item_row, item_rows, items_in, Layout, Ledger, list_all, Null, NumberedItem, NumberedTransfer, Origin, output, Output, overlay, piece_rows, piece_tree, reads_listing, Row, Schema, schema_of, Second, second_schema, size_of, stray_item_texts, stray_texts, tag_rows, Tells, Term, Text, transfer_row, Trees, unary, understood, value_cmp-Text, without_rowids}
use Rattle.bag_sqlite.proofs.LayoutLemmas.{held_seen, piece_seen}
use Rattle.bag_sqlite.proofs.NamesLemmas.{drop_zero}
use Rattle.bag_sqlite.proofs.OneLedger.{has_flat, has_from_flat, has_moved}
use Rattle.bag_sqlite.proofs.PieceTold.{none_moved}
use Rattle.bag_sqlite.proofs.StrayMeanings.{item_owner, just_one, meant, over_owned, piece_names, piece_owner, piece_shown, stray_items, stray_items_is, stray_items_plain, stray_items_unlisted, stray_pieces, stray_pieces_is, stray_pieces_plain, stray_pieces_unlisted, stray_tag_files, stray_tag_files_is, stray_tag_files_plain, stray_tag_files_unlisted, stray_transfers, stray_transfers_is, stray_transfers_plain, stray_transfers_unlisted, stray_whole_items, stray_whole_items_is, stray_whole_items_plain, stray_whole_items_unlisted, tag_owner, the_one, whole_names, whole_owner, whole_shown, with_owners}
use Rattle.bag_sqlite.proofs.ToldLemmas.{told_lists, told_reads}
use Rattle.bag_sqlite.proofs.TransferLemmas.{row_of, row_there}
use Rattle.bag_sqlite.proofs.TransferRows.{later}
use Rattle.bag_sqlite.proofs.WhereLemmas.{Lists, equal_numbers, equals, has_from_shown, passes, same_number}

-- LISTS

some_in_flat : {X Y : Type 0} (f : X → List Y) (xs : List X) (x : X) → Has xs x → 1 ≤ length (f x) → 1 ≤ length (flat_map f xs)
some_in_flat f [] x has some = absurd has
some_in_flat f (first ∷ xs) x (inl is) some = omega (arith, length-append (f first) (flat_map f xs), subst (λ y. 1 ≤ length (f y)) (sym is) some)
some_in_flat f (first ∷ xs) x (inr has) some = omega (arith, length-append (f first) (flat_map f xs), some_in_flat f xs x has some)

none_in_flat : {X Y : Type 0} (f : X → List Y) (xs : List X) → ((x : X) → Has xs x → f x ≡ []) → flat_map f xs ≡ []
none_in_flat f [] none = refl
none_in_flat f (x ∷ xs) none = ap (λ ys. ys ++ flat_map f xs) (none x (inl refl)) ∙ none_in_flat f xs (λ y has. none y (inr has))

-- ROWS WITH AN OWNER

-- the row passes no test for a stray row, once an owner was counted
abbrev IsProper : List Term → Row → Type 0
IsProper stray row = list_all (holds ([] ∷ row ∷ (Int (pos 1) ∷ []) ∷ [])) stray ≡ false

-- the row is the owner of the other one
abbrev Owns : List Term → Row → Row → Type 0
Owns owner row parent = list_all (holds ([] ∷ row ∷ parent ∷ [])) owner ≡ true

-- it has an owner among these rows
record IsOwned (parents : List Row) (owner stray : List Term) (row : Row) : Type 0 where
  pub proper : IsProper stray row
  pub by : Row
  pub there : Has parents by
  pub owns : Owns owner row by

module _ (trees : Trees) (tree parent : ℕ) (owner stray : List Term) where
  abbrev owners : Row → ℕ
  owners row = length (matches trees owner (inner parent end) ([] ∷ row ∷ []))

  has_owner : (row : Row) → IsOwned (trees parent) owner stray row → 1 ≤ owners row
  has_owner row owned =
      some_in_flat (λ r. matches trees owner end ([] ∷ row ∷ r ∷ [])) (trees parent) owned.by owned.there (let pass = owned.owns in rw pass (omega arith))

  not_stray : (row : Row) → IsOwned (trees parent) owner stray row → matches trees stray (counted 1 (inner parent end) owner end) ([] ∷ row ∷ []) ≡ []
  not_stray row owned =
      let one : min 1 (owners row) ≡ 1 = omega (arith, has_owner row owned) in
      let proper = owned.proper in
      rw (one, proper) refl

  none_stray : ((row : Row) → Has (trees tree) row → IsOwned (trees parent) owner stray row) → matches trees stray (with_owners tree parent owner) ([] ∷ []) ≡ []
  none_stray owned = none_in_flat (λ row. matches trees stray (counted 1 (inner parent end) owner end) ([] ∷ row ∷ [])) (trees tree) (λ row has. not_stray row (owned row has))

  -- so the query shows nothing
  nothing_shown : (shown : List Term) (rows : List Row) → ((row : Row) → Has (trees tree) row → IsOwned (trees parent) owner stray row) → IsAnswer (over_owned tree parent owner shown stray) trees [] rows → rows ≡ []
  nothing_shown shown rows owned a =
      let query = over_owned tree parent owner shown stray in
      let kept : a.kept ≡ [] = a.distinct ∙ ap (map (output query)) (a.grouped ∙ none_stray owned) in
      let ordered : a.ordered ≡ [] = none_moved a.ordered (subst (λ k. IsPermutation k a.ordered) kept a.same) in
      a.shown ∙ drop_zero (map (λ (o : Output). o.1) a.ordered) ∙ ap (map (λ (o : Output). o.1)) ordered

-- THE ROWS OF A LEDGER

-- a row is owned by the one with the number that it names
owns_at : (place : ℕ) (number : ℤ) (row parent : Row) → column parent 0 ≡ Int number → column row place ≡ Int number → Owns (equals (col 2 0) (col 1 place) ∷ []) row parent
owns_at place number row parent of at =
    ap (λ b. b && true) ((λ i. is_true (binary (Compare Eq Binary) (of i) (at i))) ∙ equal_numbers number number ∙ same_number number number refl)

transfer_proper : (t : NumberedTransfer) → passes stray_transfers [] (transfer_row t) ≡ false
unfolding binary unary
transfer_proper t = rw (value_cmp-Text (codes "integer") (codes "integer"), value_cmp-Text (codes "text") (codes "text")) refl

tag_proper : (row : Row) (transfer : ℤ) (path body : List ℕ) → column row 1 ≡ Int transfer → column row 2 ≡ Text path → column row 3 ≡ Blob body → IsProper stray_tag_files row
unfolding binary unary
tag_proper row transfer path body owner text blob =
    rw (owner, text, blob, value_cmp-Text (codes "integer") (codes "integer"), value_cmp-Text (codes "text") (codes "text"), value_cmp-Text (codes "blob") (codes "blob")) refl

item_proper : (item : NumberedItem) (t : NumberedTransfer) → IsProper stray_items (item_row item.number t.number item.path (size_of item))
unfolding binary unary
item_proper item t = rw (value_cmp-Text (codes "integer") (codes "integer"), value_cmp-Text (codes "text") (codes "text")) refl

whole_proper : (item : NumberedItem) (t : NumberedTransfer) → IsProper stray_whole_items (Int item.number ∷ Int t.number ∷ Text item.path ∷ Int (pos (size_of item)) ∷ Blob (concat item.pieces) ∷ [])
unfolding binary unary
whole_proper item t = rw (value_cmp-Text (codes "integer") (codes "integer"), value_cmp-Text (codes "text") (codes "text")) refl

piece_proper : (row : Row) (item n : ℤ) → column row 1 ≡ Int item → column row 2 ≡ Int n → IsProper stray_pieces row
unfolding binary unary
piece_proper row item n owner number = rw (owner, number, value_cmp-Text (codes "integer") (codes "integer")) refl

module _ {l : Layout} (trees : Trees) (ledger : Ledger) (tables : HoldTransfers l trees ledger) where
  tag_owned : (row : Row) → Has (trees 4) row → IsOwned (trees 2) tag_owner stray_tag_files row
  tag_owned row has =
      let by_transfer = has_from_flat tag_rows tables.transfers (drop 1 row)
      (has_moved (without_rowids (trees 4)) (flat_map tag_rows tables.transfers) (drop 1 row) (IsPermutation-sym _ _ tables.rows.tags) (has_map (drop 1) (trees 4) row has)) in
      let t = by_transfer.0 in
      let by_file = has_from_map (λ (file : List ℕ × List ℕ). Int t.number ∷ Text file.0 ∷ Blob file.1 ∷ []) t.tags (drop 1 row) by_transfer.2 in
      let owner : column row 1 ≡ Int t.number = sym (later row 0) ∙ ap (λ r. column r 0) (sym by_file.2) in
      record {
        proper = tag_proper row t.number by_file.0.0 by_file.0.1 owner (sym (later row 1) ∙ ap (λ r. column r 1) (sym by_file.2)) (sym (later row 2) ∙ ap (λ r. column r 2) (sym by_file.2));
        by = transfer_row t;
        there = row_there trees ledger tables t by_transfer.1;
        owns = owns_at 1 t.number row (transfer_row t) refl owner;
      }

module _ {o : Origin} (trees : Trees) (ledger : Ledger) (tables : HoldTransfers (Second o) trees ledger) where
  item_owned : (row : Row) → Has (trees (held_tree o)) row → IsOwned (trees 2) item_owner stray_items row
  item_owned row has =
      let by_transfer = has_from_flat held_rows tables.transfers row (has_moved (trees (held_tree o)) (flat_map held_rows tables.transfers) row (IsPermutation-sym _ _ tables.rows.items.held) has) in
      let t = by_transfer.0 in
      let by_item = has_from_map (λ (item : NumberedItem). item_row item.number t.number item.path (size_of item)) t.items row by_transfer.2 in
      record {
        proper = subst (IsProper stray_items) by_item.2 (item_proper by_item.0 t);
        by = transfer_row t;
        there = row_there trees ledger tables t by_transfer.1;
        owns = owns_at 2 t.number row (transfer_row t) refl (ap (λ r. column r 2) (sym by_item.2));
      }

  piece_owned : (row : Row) → Has (trees (piece_tree o)) row → IsOwned (trees (held_tree o)) piece_owner stray_pieces row
  piece_owned row has =
      let by_item = has_from_flat piece_rows (items_in tables.transfers) (drop 1 row)
      (has_moved (without_rowids (trees (piece_tree o))) (flat_map piece_rows (items_in tables.transfers)) (drop 1 row) (IsPermutation-sym _ _ tables.rows.items.pieces) (has_map (drop 1) (trees (piece_tree o)) row has)) in
      let item = by_item.0 in
      let by_piece = has_from_map (λ (piece : ℕ × List ℕ). Int item.number ∷ Int (pos piece.0) ∷ Blob piece.1 ∷ []) (enumerate_from 0 item.pieces) (drop 1 row) by_item.2 in
      let by_transfer = has_from_flat (λ (t : NumberedTransfer). t.items) tables.transfers item by_item.1 in
      let t = by_transfer.0 in
      let held = item_row item.number t.number item.path (size_of item) in
      let owner : column row 1 ≡ Int item.number = sym (later row 0) ∙ ap (λ r. column r 0) (sym by_piece.2) in
      record {
        proper = piece_proper row item.number (pos by_piece.0.0) owner (sym (later row 1) ∙ ap (λ r. column r 1) (sym by_piece.2));
        by = held;
        there = has_moved (flat_map held_rows tables.transfers) (trees (held_tree o)) held tables.rows.items.held
            (has_flat held_rows tables.transfers t held by_transfer.1 (has_map (λ (i : NumberedItem). item_row i.number t.number i.path (size_of i)) t.items item by_transfer.2));
        owns = owns_at 1 item.number row held refl owner;
      }

module _ (trees : Trees) (ledger : Ledger) (tables : HoldTransfers First trees ledger) where
  whole_owned : (row : Row) → Has (trees 6) row → IsOwned (trees 2) whole_owner stray_whole_items row
  whole_owned row has =
      let by_transfer = has_from_flat item_rows tables.transfers row (has_moved (trees 6) (flat_map item_rows tables.transfers) row (IsPermutation-sym _ _ tables.rows.items) has) in
      let t = by_transfer.0 in
      let by_item = has_from_map (λ (item : NumberedItem). Int item.number ∷ Int t.number ∷ Text item.path ∷ Int (pos (size_of item)) ∷ Blob (concat item.pieces) ∷ []) t.items row by_transfer.2 in
      record {
        proper = subst (IsProper stray_whole_items) by_item.2 (whole_proper by_item.0 t);
        by = transfer_row t;
        there = row_there trees ledger tables t by_transfer.1;
        owns = owns_at 1 t.number row (transfer_row t) refl (ap (λ r. column r 1) (sym by_item.2));
      }

-- WHAT IS TOLD

module _ {S : Type 0} {l : Layout} (g : Ghosts S) (db : Database) (ledger : Ledger) (has : db.schema ≡ schema_of l) (tables : HoldTransfers l db.trees ledger) where
  no_transfer : (rows : List Row) → Lists 2 stray_transfers just_one [] [] (db.trees 2) rows → rows ≡ []
  no_transfer [] lists = refl
  no_transfer (row ∷ rows) lists =
      let from = has_from_shown 2 stray_transfers just_one [] [] (db.trees 2) (row ∷ rows) lists row (inl refl) in
      let it = row_of db.trees ledger tables from.0 from.1 in
      let no : passes stray_transfers [] from.0 ≡ false = ap (passes stray_transfers []) (sym it.2) ∙ transfer_proper it.0 in
      absurd (let e : true ≡ false = sym from.2 ∙ no in cc)

  no_strays : (sql : List ℕ) (names : List (List ℕ)) (tree parent : ℕ) (owner shown stray : List Term) → command_of (understood (schema_of l) sql) ≡ meant names (over_owned tree parent owner shown stray) → IsPlain (understood (schema_of l) sql)
      → reads_listing (schema_of l) sql ≡ false → ((row : Row) → Has (overlay db.trees [] tree) row → IsOwned (overlay db.trees [] parent) owner stray row) → (rows : List Row) → Tells g db sql [] rows → rows ≡ []
  no_strays sql names tree parent owner shown stray is plain unlisted owned rows told =
      let got = told_reads g (schema_of l) db has sql [] rows (meant names (over_owned tree parent owner shown stray)) is plain unlisted told in
      nothing_shown (overlay db.trees []) tree parent owner stray shown rows owned (got.answer Null)

-- the query can be understood, and shows nothing
abbrev ShowsNone : {S : Type 0} → Ghosts S → Database → List ℕ → Type 0
ShowsNone g db sql = IsPlain (understood db.schema sql) × ((rows : List Row) → Tells g db sql [] rows → rows ≡ [])

by_schema : {S : Type 0} (g : Ghosts S) (schema : Schema) (db : Database) (sql : List ℕ) → db.schema ≡ schema → IsPlain (understood schema sql) → ((rows : List Row) → Tells g db sql [] rows → rows ≡ []) → ShowsNone g db sql
by_schema g schema db sql has plain none = (subst (λ s. IsPlain (understood s sql)) (sym has) plain, none)

-- the queries for the rows of payload files
items_told : {S : Type 0} {l : Layout} (g : Ghosts S) (db : Database) (ledger : Ledger) (has : db.schema ≡ schema_of l) (tables : HoldTransfers l db.trees ledger) (text : List ℕ) → Has (stray_item_texts (format_of l)) text → ShowsNone g db text
items_told {S} {l = First} g db ledger has tables text (inl is) = subst (ShowsNone g db) is (by_schema g first_schema db stray_whole_items_text has stray_whole_items_plain
    (no_strays g db ledger has tables stray_whole_items_text whole_names 6 2 whole_owner whole_shown stray_whole_items stray_whole_items_is stray_whole_items_plain stray_whole_items_unlisted (whole_owned db.trees ledger tables)))
items_told {S} {l = First} g db ledger has tables text (inr none) = absurd none
items_told {S} {l = Second o} g db ledger has tables text (inl is) = subst (ShowsNone g db) is (by_schema g (second_schema o) db stray_items_text has (stray_items_plain o)
    (no_strays g db ledger has tables stray_items_text the_one (held_tree o) 2 item_owner just_one stray_items (stray_items_is o) (stray_items_plain o) (stray_items_unlisted o)
    (λ row there. item_owned db.trees ledger tables row (subst (λ rows. Has rows row) (held_seen o db.trees) there))))
items_told {S} {l = Second o} g db ledger has tables text (inr (inl is)) = subst (ShowsNone g db) is (by_schema g (second_schema o) db stray_pieces_text has (stray_pieces_plain o)
    (no_strays g db ledger has tables stray_pieces_text piece_names (piece_tree o) (held_tree o) piece_owner piece_shown stray_pieces (stray_pieces_is o) (stray_pieces_plain o) (stray_pieces_unlisted o)
    (λ row there. subst (λ rows. IsOwned rows piece_owner stray_pieces row) (sym (held_seen o db.trees)) (piece_owned db.trees ledger tables row (subst (λ rows. Has rows row) (piece_seen o db.trees) there)))))
items_told {S} {l = Second o} g db ledger has tables text (inr (inr none)) = absurd none

-- each of these queries can be understood, and shows nothing
pub stray_told : {S : Type 0} {l : Layout} (g : Ghosts S) (db : Database) (ledger : Ledger) (has : db.schema ≡ schema_of l) (tables : HoldTransfers l db.trees ledger) (text : List ℕ) → Has (stray_texts (format_of l)) text → ShowsNone g db text
stray_told {S} {l} g db ledger has tables text (inl is) = subst (ShowsNone g db) is (by_schema g (schema_of l) db stray_transfers_text has (stray_transfers_plain l)
    (λ rows told. no_transfer g db ledger has tables rows (told_lists g (schema_of l) db has 2 stray_transfers just_one [] stray_transfers_text [] rows _ (stray_transfers_is l) (stray_transfers_plain l) (stray_transfers_unlisted l) refl told)))
stray_told {S} {l} g db ledger has tables text (inr (inl is)) = subst (ShowsNone g db) is (by_schema g (schema_of l) db stray_tag_files_text has (stray_tag_files_plain l)
    (no_strays g db ledger has tables stray_tag_files_text the_one 4 2 tag_owner just_one stray_tag_files (stray_tag_files_is l) (stray_tag_files_plain l) (stray_tag_files_unlisted l) (tag_owned db.trees ledger tables)))
stray_told {S} {l} g db ledger has tables text (inr (inr one)) = items_told g db ledger has tables text one
