-- What a ledger holds for a path, according to the rows of its tables.
use Rattle.std.proofs.Common.{◌+◌, ◌*◌, ◌≡◌, ◌≤◌, ◌/◌, ◌%◌, ℕ, ℤ, List, [], ◌∷◌, Option, Some, None, arith, length, map, pos, refl, slice_get, sym, ap, subst, ◌∙◌, MatchOption, unwrap_or}
use Rattle.bag_sqlite.proofs.Words.{all_has, AreCut, Blob, bytes_eq, concat, content_of, div-add-mod, enumerate_from, flat_map, Has, has_from_map, has_map, HasItem, HasItemRow, HasPieceRow, HasTransferRow, held_rows, held_tree, HeldFile, HoldTransfers, Int, IsPermutation-sym, IsPieceAt, item_row, items_in, Ledger, lookup, NumberedItem, NumberedTransfer, option_map, Origin, PIECE, piece_rows, piece_tree, Row, Second, size_of, Transfer, transfer_of, Trees, without_rowids}
use Rattle.bag_sqlite.proofs.CutLemmas.{is_numbered, length_concat, no_number, numbered_is, past_pieces, piece_in}
use Rattle.bag_sqlite.proofs.OneLedger.{has_flat, has_from_flat, has_moved, items_rise, one_of, read, same_held_row, same_piece_row}
use Rattle.bag_sqlite.proofs.TransferLemmas.{entry_found, found_entry, transfer_at}

module _ {o : Origin} (trees : Trees) (ledger : Ledger) (tables : HoldTransfers (Second o) trees ledger) (name path : List ℕ) where
  -- of a transfer that exists
  held_by : (t : NumberedTransfer) → transfer_of ledger name ≡ Some (record { tags = t.tags; items = map read t.items }) → content_of ledger name path ≡ lookup (bytes_eq path) (map read t.items)
  held_by t there = ap (λ o. lookup (bytes_eq path) (unwrap_or (option_map (λ (transfer : Transfer). transfer.items) o) [])) there

  pub no_transfer : transfer_of ledger name ≡ None → content_of ledger name path ≡ None
  no_transfer none = ap (λ o. lookup (bytes_eq path) (unwrap_or (option_map (λ (transfer : Transfer). transfer.items) o) [])) none

  -- the transfer has no row for the path
  pub no_item : (transfer : ℤ) → HasTransferRow trees name transfer → ((number : ℤ) (size : ℕ) → ¬ HasItemRow o trees number transfer path size) → content_of ledger name path ≡ None
  no_item transfer named none = go (content_of ledger name path) refl
    where
      row_there : (content : List ℕ) → content_of ledger name path ≡ Some content → (number : ℤ) × (size : ℕ) × HasItemRow o trees number transfer path size
      row_there content here =
          let t = transfer_at trees ledger tables name transfer named in
          let found = has_from_map read t.0.items (path, content) (entry_found (map read t.0.items) path content (sym (held_by t.0 t.3) ∙ here)) in
          let item = found.0 in
          let row = item_row item.number t.0.number item.path (size_of item) in
          let listed = has_flat held_rows tables.transfers t.0 row t.1 (has_map (λ (x : NumberedItem). item_row x.number t.0.number x.path (size_of x)) t.0.items item found.1) in
          let same : item.path ≡ path = ap (λ (e : List ℕ × List ℕ). e.0) found.2 in
          (item.number, size_of item, subst (Has (trees (held_tree o))) (λ i. item_row item.number (t.2 i) (same i) (size_of item)) (has_moved (flat_map held_rows tables.transfers) (trees (held_tree o)) row tables.rows.items.held listed))

      go : (o : Option (List ℕ)) → content_of ledger name path ≡ o → content_of ledger name path ≡ None
      go None here = here
      go (Some content) here = absurd (let it = row_there content here in none it.0 it.1 it.2)

  pub item_told : (transfer : ℤ) → HasTransferRow trees name transfer → (it : Option HeldFile)
      → MatchOption it ((number : ℤ) (size : ℕ) → ¬ HasItemRow o trees number transfer path size) (λ item. HasItemRow o trees item.number transfer path item.size)
      → MatchOption it (content_of ledger name path ≡ None) (λ item. HasItem o trees name path item.number item.size)
  item_told transfer named None none = no_item transfer named none
  item_told transfer named (Some item) row = record { transfer = transfer; named = named; held = row }

  -- the payload file that the rows belong to
  pub record IsNumbered (number : ℤ) (size : ℕ) : Type 0 where
    pub item : NumberedItem
    pub there : Has (items_in tables.transfers) item
    pub number_is : item.number ≡ number
    pub size_is : size_of item ≡ size
    pub content : content_of ledger name path ≡ Some (concat item.pieces)

  pub numbered_item : (number : ℤ) (size : ℕ) → HasItem o trees name path number size → IsNumbered number size
  numbered_item number size rows =
      let t = transfer_at trees ledger tables name rows.transfer rows.named in
      let row = item_row number rows.transfer path size in
      let listed = has_from_flat held_rows tables.transfers row (has_moved (trees (held_tree o)) (flat_map held_rows tables.transfers) row (IsPermutation-sym _ _ tables.rows.items.held) rows.held) in
      let v = listed.0 in
      let it = has_from_map (λ (x : NumberedItem). item_row x.number v.number x.path (size_of x)) v.items row listed.2 in
      let item = it.0 in
      let same = same_held_row item.number number v.number rows.transfer item.path path (size_of item) size it.2 in
      let one : v ≡ t.0 = one_of (λ (x : NumberedTransfer). x.number) tables.transfers v t.0 tables.numbers listed.1 t.1 (same.1 ∙ sym t.2) in
      let here : Has t.0.items item = subst (λ (x : NumberedTransfer). Has x.items item) one it.1 in
      let found = found_entry (map read t.0.items) (read item) (items_rise trees ledger tables t.0 t.1) (has_map read t.0.items item here) in
      record {
        item = item;
        there = has_flat (λ (x : NumberedTransfer). x.items) tables.transfers t.0 item t.1 here;
        number_is = same.0;
        size_is = same.3;
        content = held_by t.0 t.3 ∙ subst (λ p. lookup (bytes_eq p) (map read t.0.items) ≡ Some (concat item.pieces)) same.2 found;
      }

  -- ITS SIZE

  pub size_held : (number : ℤ) (size : ℕ) → HasItem o trees name path number size → Some size ≡ option_map length (content_of ledger name path)
  size_held number size rows =
      let it = numbered_item number size rows in
      ap Some (sym it.size_is ∙ sym (length_concat it.item.pieces)) ∙ sym (ap (option_map length) it.content)

  -- ITS PIECES

  piece_there : (item : NumberedItem) → Has (items_in tables.transfers) item → (n : ℕ) (body : List ℕ) → HasPieceRow o trees item.number n body → slice_get item.pieces n ≡ Some body
  piece_there item there n body row_there =
      let row : Row = Int item.number ∷ Int (pos n) ∷ Blob body ∷ [] in
      let rows = flat_map piece_rows (items_in tables.transfers) in
      let listed = has_from_flat piece_rows (items_in tables.transfers) row (has_moved (without_rowids (trees (piece_tree o))) rows row (IsPermutation-sym _ _ tables.rows.items.pieces) row_there) in
      let v = listed.0 in
      let it = has_from_map (λ (piece : ℕ × List ℕ). Int v.number ∷ Int (pos piece.0) ∷ Blob piece.1 ∷ []) (enumerate_from 0 v.pieces) row listed.2 in
      let same = same_piece_row v.number item.number it.0.0 n it.0.1 body it.2 in
      let one : v ≡ item = one_of (λ (x : NumberedItem). x.number) (items_in tables.transfers) v item tables.item_numbers listed.1 there same.0 in
      let is : it.0 ≡ (n, body) = λ i. (same.1 i, same.2 i) in
      numbered_is n item.pieces body (subst (λ (x : NumberedItem). Has (enumerate_from 0 x.pieces) (n, body)) one (subst (Has (enumerate_from 0 v.pieces)) is it.1))

  row_of_piece : (item : NumberedItem) → Has (items_in tables.transfers) item → (n : ℕ) (body : List ℕ) → slice_get item.pieces n ≡ Some body → HasPieceRow o trees item.number n body
  row_of_piece item there n body at =
      let row : Row = Int item.number ∷ Int (pos n) ∷ Blob body ∷ [] in
      let numbered = has_map (λ (piece : ℕ × List ℕ). Int item.number ∷ Int (pos piece.0) ∷ Blob piece.1 ∷ []) (enumerate_from 0 item.pieces) (n, body) (is_numbered n item.pieces body at) in
      has_moved (flat_map piece_rows (items_in tables.transfers)) (without_rowids (trees (piece_tree o))) row tables.rows.items.pieces (has_flat piece_rows (items_in tables.transfers) item row there numbered)

  abbrev held : List ℕ
  held = unwrap_or (content_of ledger name path) []

  module _ (number : ℤ) (size offset : ℕ) (buffer : List ℕ) (rows : HasItem o trees name path number size) where
    it : IsNumbered number size
    it = numbered_item number size rows

    cut : AreCut it.item.pieces
    cut = all_has (λ (item : NumberedItem). AreCut item.pieces) (items_in tables.transfers) it.item tables.cut it.there

    as_held : (m n : ℕ) → m ≡ offset → IsPieceAt (concat it.item.pieces) m n buffer → IsPieceAt held offset n buffer
    as_held m n place at = subst (λ content. IsPieceAt content offset n buffer) (sym (ap (λ o. unwrap_or o []) it.content)) (subst (λ k. IsPieceAt (concat it.item.pieces) k n buffer) place at)

    -- the piece that its row gives
    pub piece_held : (body : List ℕ) (n : ℕ) → HasPieceRow o trees number (offset / PIECE) body → IsPieceAt body (offset % PIECE) n buffer → IsPieceAt held offset n buffer
    piece_held body n row at =
        let here = piece_there it.item it.there (offset / PIECE) body (subst (λ k. HasPieceRow o trees k (offset / PIECE) body) (sym it.number_is) row) in
        as_held (PIECE * (offset / PIECE) + offset % PIECE) n (div-add-mod offset PIECE) (piece_in it.item.pieces cut (offset / PIECE) (offset % PIECE) n body buffer (omega arith) here at)

    -- there is no row past the end
    pub no_piece_held : ((body : List ℕ) → ¬ HasPieceRow o trees number (offset / PIECE) body) → IsPieceAt held offset 0 buffer
    no_piece_held none = as_held offset 0 refl (past_pieces it.item.pieces cut offset buffer (past (offset / PIECE) none))
      where
        past : (n : ℕ) → ((body : List ℕ) → ¬ HasPieceRow o trees number n body) → length it.item.pieces ≤ n
        past n none = no_number n it.item.pieces (λ body at. none body (subst (λ k. HasPieceRow o trees k n body) it.number_is (row_of_piece it.item it.there n body at)))
