-- What the queries for one payload file show.
use Rattle.std.proofs.Common.{◌≡◌, ◌&&◌, inl, ℕ, ℤ, List, [], ◌∷◌, Bool, true, false, Option, Some, None, drop, pos, refl, sym, ap, subst, ◌∙◌, slice_index_or, MatchOption, Vec}
use Rattle.bag_sqlite.proofs.Words.{Blob, bytes_eq-Decides, column, Decides-int_eq, enumerate_from, flat_map, Global, Has, has_from_map, has_map, HasItemRow, HasPieceRow, held_rows, held_tree, HeldFile, HoldTransfers, Int, IsPermutation-sym, item_row, items_in, Ledger, Null, NumberedItem, Origin, piece_rows, piece_text, piece_tree, reads_as, Row, Second, second_schema, Shown, size_of, State, Text, Value, without_rowids}
use Rattle.bag_sqlite.proofs.ItemMeanings.{item_columns, item_command, item_is, item_plain, item_terms, item_text, item_unlisted, piece_columns, piece_command, piece_is, piece_plain, piece_terms, piece_unlisted}
use Rattle.bag_sqlite.proofs.LayoutLemmas.{held_seen, piece_seen}
use Rattle.bag_sqlite.proofs.NamesLemmas.{drop_zero}
use Rattle.bag_sqlite.proofs.OneLedger.{has_from_flat, has_moved}
use Rattle.bag_sqlite.proofs.WhereLemmas.{Lists, answer_lists, equal_numbers, equal_texts, has_from_shown, has_shown, passes, same_number}

both_from : (a b : Bool) → (a && (b && true)) ≡ true → (a ≡ true) × (b ≡ true)
both_from true true e = (refl, refl)
both_from true false e = absurd cc
both_from false b e = absurd cc

both : (a b : Bool) → a ≡ true → b ≡ true → (a && (b && true)) ≡ true
both a b p q = rw (p, q)

with_rowid : (row : Row) (item : ℤ) (n : ℕ) (body : List ℕ) → drop 1 row ≡ (Int item ∷ Int (pos n) ∷ Blob body ∷ []) → (rowid : Value) × (row ≡ (rowid ∷ Int item ∷ Int (pos n) ∷ Blob body ∷ []))
with_rowid [] item n body is = absurd cc
with_rowid (rowid ∷ rest) item n body is = (rowid, ap (λ r. rowid ∷ r) (sym (drop_zero rest) ∙ is))

module _ {o : Origin} (s new : State) (rows : List Row) (ledger : Ledger) (has : s.now.schema ≡ second_schema o) (tables : HoldTransfers (Second o) s.now.trees ledger) where
  -- THE ROW OF A PAYLOAD FILE

  module _ (transfer : ℤ) (path : List ℕ) (shown : Shown item_text (Int transfer ∷ Text path ∷ []) s new rows) where
    abbrev item_params : Row
    item_params = Int transfer ∷ Text path ∷ []

    items : Lists (held_tree o) item_terms item_columns [] item_params (s.now.trees (held_tree o)) rows
    items =
        let got = reads_as item_text item_params s new (second_schema o) has (item_command o) (item_is o) (item_plain o) (item_unlisted o) rows shown in
        answer_lists (held_tree o) item_terms item_columns [] item_params s.now.trees rows (got.answer Null) (held_seen o s.now.trees)

    same_item : (item : NumberedItem) (t number : ℤ) (size : ℕ) → passes item_terms item_params (item_row item.number t item.path (size_of item)) ≡ true
        → Int item.number ≡ Int number → Int (pos (size_of item)) ≡ Int (pos size) → item_row item.number t item.path (size_of item) ≡ item_row number transfer path size
    same_item item t number size pass first second =
        let tests = both_from _ _ pass in
        let a : t ≡ transfer = (Decides-int_eq t transfer).0 (sym (equal_numbers t transfer) ∙ tests.0) in
        let b : item.path ≡ path = (bytes_eq-Decides item.path path).0 (sym (equal_texts item.path path) ∙ tests.1) in
        λ i. first i ∷ Null ∷ Int (a i) ∷ Text (b i) ∷ second i ∷ []

    item_found : (row : Row) (number : ℤ) (size : ℕ) → Has rows row → column row 0 ≡ Int number → column row 1 ≡ Int (pos size) → HasItemRow o s.now.trees number transfer path size
    item_found row number size here first second =
        let from = has_from_shown (held_tree o) item_terms item_columns [] item_params (s.now.trees (held_tree o)) rows items row here in
        let listed = has_from_flat held_rows tables.transfers from.0 (has_moved (s.now.trees (held_tree o)) (flat_map held_rows tables.transfers) from.0 (IsPermutation-sym _ _ tables.rows.items.held) from.1) in
        let t = listed.0 in
        let it = has_from_map (λ (item : NumberedItem). item_row item.number t.number item.path (size_of item)) t.items from.0 listed.2 in
        let same = same_item it.0 t.number number size (ap (passes item_terms item_params) it.2 ∙ from.2)
        (ap (λ r. column r 0) it.2 ∙ ap (λ r. column r 0) from.3 ∙ first) (ap (λ r. column r 4) it.2 ∙ ap (λ r. column r 1) from.3 ∙ second) in
        subst (Has (s.now.trees (held_tree o))) (sym it.2 ∙ same) from.1

    item_missing : rows ≡ [] → (number : ℤ) (size : ℕ) → ¬ HasItemRow o s.now.trees number transfer path size
    item_missing none number size there =
        let row = item_row number transfer path size in
        let pass : passes item_terms item_params row ≡ true =
        both _ _ (equal_numbers transfer transfer ∙ same_number transfer transfer refl) (equal_texts path path ∙ (bytes_eq-Decides path path).1 refl) in
        subst (λ r. Has r (Int number ∷ Int (pos size) ∷ [])) none (has_shown (held_tree o) item_terms item_columns [] item_params (s.now.trees (held_tree o)) rows items row there pass)

    first_item : (number : ℤ) (size : ℕ) (all : List Row) → all ≡ rows → column (slice_index_or all 0 []) 0 ≡ Int number → column (slice_index_or all 0 []) 1 ≡ Int (pos size)
        → HasItemRow o s.now.trees number transfer path size
    first_item number size [] is first second = absurd (let e : Null ≡ Int number = first in cc)
    first_item number size (row ∷ more) is first second = item_found row number size (subst (λ r. Has r row) is (inl refl)) first second

    pub item_shown : (it : Option HeldFile) → MatchOption it (rows ≡ []) (λ item. (column (slice_index_or rows 0 []) 0 ≡ Int item.number) × (column (slice_index_or rows 0 []) 1 ≡ Int (pos item.size)))
        → MatchOption it ((number : ℤ) (size : ℕ) → ¬ HasItemRow o s.now.trees number transfer path size) (λ item. HasItemRow o s.now.trees item.number transfer path item.size)
    item_shown None none = item_missing none
    item_shown (Some item) first = first_item item.number item.size rows refl first.0 first.1

  -- THE ROW OF A PIECE

  module _ (item : ℤ) (n : ℕ) (shown : Shown piece_text (Int item ∷ Int (pos n) ∷ []) s new rows) where
    abbrev piece_params : Row
    piece_params = Int item ∷ Int (pos n) ∷ []

    pieces : Lists (piece_tree o) piece_terms piece_columns [] piece_params (s.now.trees (piece_tree o)) rows
    pieces =
        let got = reads_as piece_text piece_params s new (second_schema o) has (piece_command o) (piece_is o) (piece_plain o) (piece_unlisted o) rows shown in
        answer_lists (piece_tree o) piece_terms piece_columns [] piece_params s.now.trees rows (got.answer Null) (piece_seen o s.now.trees)

    piece_found : (row : Row) (body : List ℕ) → Has rows row → column row 0 ≡ Blob body → HasPieceRow o s.now.trees item n body
    piece_found row body here first =
        let from = has_from_shown (piece_tree o) piece_terms piece_columns [] piece_params (s.now.trees (piece_tree o)) rows pieces row here in
        let cut : Has (without_rowids (s.now.trees (piece_tree o))) (drop 1 from.0) = has_map (drop 1) (s.now.trees (piece_tree o)) from.0 from.1 in
        let listed = has_from_flat piece_rows (items_in tables.transfers) (drop 1 from.0)
        (has_moved (without_rowids (s.now.trees (piece_tree o))) (flat_map piece_rows (items_in tables.transfers)) (drop 1 from.0) (IsPermutation-sym _ _ tables.rows.items.pieces) cut) in
        let number = listed.0.number in
        let it = has_from_map (λ (piece : ℕ × List ℕ). Int number ∷ Int (pos piece.0) ∷ Blob piece.1 ∷ []) (enumerate_from 0 listed.0.pieces) (drop 1 from.0) listed.2 in
        let full = with_rowid from.0 number it.0.0 it.0.1 (sym it.2) in
        let tests = both_from _ _ (ap (passes piece_terms piece_params) (sym full.1) ∙ from.2) in
        let a : number ≡ item = (Decides-int_eq number item).0 (sym (equal_numbers number item) ∙ tests.0) in
        let b : pos it.0.0 ≡ pos n = (Decides-int_eq (pos it.0.0) (pos n)).0 (sym (equal_numbers (pos it.0.0) (pos n)) ∙ tests.1) in
        let c : Blob it.0.1 ≡ Blob body = ap (λ r. column r 3) (sym full.1) ∙ ap (λ r. column r 0) from.3 ∙ first in
        subst (Has (without_rowids (s.now.trees (piece_tree o)))) (sym it.2 ∙ (λ i. Int (a i) ∷ Int (b i) ∷ c i ∷ [])) cut

    piece_missing : rows ≡ [] → (body : List ℕ) → ¬ HasPieceRow o s.now.trees item n body
    piece_missing none body there =
        let from = has_from_map (drop 1) (s.now.trees (piece_tree o)) (Int item ∷ Int (pos n) ∷ Blob body ∷ []) there in
        let full = with_rowid from.0 item n body from.2 in
        let row : Row = full.0 ∷ Int item ∷ Int (pos n) ∷ Blob body ∷ [] in
        let pass : passes piece_terms piece_params row ≡ true =
        both _ _ (equal_numbers item item ∙ same_number item item refl) (equal_numbers (pos n) (pos n) ∙ same_number (pos n) (pos n) refl) in
        subst (λ r. Has r (Blob body ∷ [])) none (has_shown (piece_tree o) piece_terms piece_columns [] piece_params (s.now.trees (piece_tree o)) rows pieces row (subst (Has (s.now.trees (piece_tree o))) full.1 from.1) pass)

    first_piece : (body : List ℕ) (all : List Row) → all ≡ rows → column (slice_index_or all 0 []) 0 ≡ Blob body → HasPieceRow o s.now.trees item n body
    first_piece body [] is first = absurd (let e : Null ≡ Blob body = first in cc)
    first_piece body (row ∷ more) is first = piece_found row body (subst (λ r. Has r row) is (inl refl)) first

    pub piece_shown : (it : Option (Vec ℕ Global)) → MatchOption it (rows ≡ []) (λ octets. column (slice_index_or rows 0 []) 0 ≡ Blob octets.items)
        → MatchOption it ((body : List ℕ) → ¬ HasPieceRow o s.now.trees item n body) (λ octets. HasPieceRow o s.now.trees item n octets.items)
    piece_shown None none = piece_missing none
    piece_shown (Some octets) first = first_piece octets.items rows refl first
