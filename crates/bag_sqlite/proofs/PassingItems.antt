-- A payload file of a ledger is not found to be damaged: what is told of its pieces is what it has.
use Rattle.std.proofs.Common.{◌≡◌, ◌≤◌, ◌-◌, inl, inr, ℕ, List, [], ◌∷◌, None, Option, Some, arith, length, min, pos, refl, slice_get, sym, ap, subst, ◌∙◌}
use Rattle.bag_path.specs.Paths.{IsPath}
use Rattle.bag_rules.specs.Transfers.{Passes}
use Rattle.bag_sqlite.specs.Refusing.{ArePieces, HasMorePieces, LacksPiece}
use Rattle.bag_sqlite.specs.declared.format.Format.TheVariants as form
use Rattle.bag_sqlite.proofs.Words.{all_has, AreCut, Blob, body_text, column, concat, Database, Files, First, first_schema, format_of, Ghosts, Has, has_from_map, HasContent, HoldTransfers, Int, ItemFails, items_in, LacksContent, LARGEST_ITEM, Layout, Ledger, NumberedItem, Origin, PIECE, Row, schema_of, Second, second_schema, size_of, Tells}
use Rattle.bag_sqlite.proofs.AdoptingMeanings.{body_columns, body_is, body_plain, body_unlisted, body_where}
use Rattle.bag_sqlite.proofs.BodyLemmas.{Owned, has_body, one_body, owned, owned_items}
use Rattle.bag_sqlite.proofs.CutLemmas.{all_pieces, AreFirstOf, few_pieces, length_concat, next_piece}
use Rattle.bag_sqlite.proofs.PieceTold.{piece_shown, piece_told, pieces_counted}
use Rattle.bag_sqlite.proofs.ToldLemmas.{told_lists}
use Rattle.bag_sqlite.proofs.WhereLemmas.{Lists}

-- the one row that is told is that of a piece
only_piece : (o : Option (List ℕ)) (row : Row) (piece : List ℕ) → row ∷ [] ≡ piece_shown o → column row 0 ≡ Blob piece → o ≡ Some piece
only_piece None row piece is value = absurd cc
only_piece (Some body) row piece is value =
    let same : row ≡ Blob body ∷ [] = cc in
    let first : Blob body ≡ Blob piece = ap (λ r. column r 0) (sym same) ∙ value in
    let octets : body ≡ piece = cc in
    ap Some octets

-- IN FORMAT 2

module _ {S : Type 0} {o : Origin} (g : Ghosts S) (db : Database) (ledger : Ledger) (has : db.schema ≡ second_schema o) (tables : HoldTransfers (Second o) db.trees ledger)
    (item : NumberedItem) (there : Has (items_in tables.transfers) item) where
  abbrev whole : List ℕ
  whole = concat item.pieces

  cut : AreCut item.pieces
  cut = all_has (λ (i : NumberedItem). AreCut i.pieces) (items_in tables.transfers) item tables.cut there

  first_told : (pieces : List (List ℕ)) → ArePieces g db item.number pieces → AreFirstOf pieces item.pieces
  first_told pieces each n piece at =
      let one = each n piece at in
      only_piece (slice_get item.pieces n) one.row piece (piece_told g db has ledger tables item there n (one.row ∷ []) one.told) one.value_is

  module _ (octets : ℕ) (size : octets ≡ length whole) where
    lacks_none : ¬ LacksPiece g db item.number octets
    lacks_none lacks =
        let next = next_piece lacks.pieces item.pieces (first_told lacks.pieces lacks.each) cut (omega (arith, lacks.more, size)) in
        let shown = piece_told g db has ledger tables item there (length lacks.pieces) lacks.rows lacks.told ∙ ap piece_shown next.1 in
        lacks.other (_, shown, next.0, refl, next.2 ∙ ap (λ all. min (all - length (concat lacks.pieces)) PIECE) (sym size))

    has_no_more : length whole ≤ LARGEST_ITEM → ¬ HasMorePieces g db item.number octets
    has_no_more within more =
        let all = all_pieces more.pieces item.pieces (first_told more.pieces more.each) cut (sym more.size_is ∙ size) in
        let few : length item.pieces ≤ 9223372036854775807 = omega (arith, within, few_pieces item.pieces cut) in
        let one = more.count in
        let row = pieces_counted g db has ledger tables item there (one.row ∷ []) few one.told in
        let first : one.row ≡ Int (pos (length item.pieces)) ∷ [] = cc in
        let number : Int more.number ≡ Int (pos (length item.pieces)) = sym one.value_is ∙ ap (λ r. column r 0) first in
        let same : more.number ≡ pos (length item.pieces) = cc in
        more.other (same ∙ ap (λ pieces. pos (length pieces)) (sym all))

    -- its pieces are those of its size
    second_lacks_none : length whole ≤ LARGEST_ITEM → ¬ LacksContent g db form.Second item.number octets
    second_lacks_none within (inl lacks) = lacks_none lacks
    second_lacks_none within (inr more) = has_no_more within more

    second_same : (content : List ℕ) → HasContent g db form.Second item.number content → octets ≡ length content → content ≡ whole
    second_same content has is = has.2 ∙ ap concat (all_pieces has.0 item.pieces (first_told has.0 has.1.each) cut (ap length (sym has.2) ∙ sym is ∙ size))

-- IN FORMAT 1

module _ {S : Type 0} (g : Ghosts S) (db : Database) (ledger : Ledger) (has : db.schema ≡ first_schema) (tables : HoldTransfers First db.trees ledger) (item : NumberedItem) (there : Has (items_in tables.transfers) item) where
  body_told : (rows : List Row) → Tells g db body_text (Int item.number ∷ []) rows → rows ≡ (Blob (concat item.pieces) ∷ []) ∷ []
  body_told rows told =
      let from = has_from_map (λ (o : Owned). o.1) (owned tables.transfers) item (subst (λ l. Has l item) (sym (owned_items tables.transfers)) there) in
      let o = from.0 in
      let body = has_body db.trees ledger tables o from.1 in
      let lists = told_lists g first_schema db has 6 body_where body_columns [] body_text (Int item.number ∷ []) rows _ body_is body_plain body_unlisted refl told in
      one_body db.trees o.1.number o.0 o.1.path (concat o.1.pieces) body rows (subst (λ n. Lists 6 body_where body_columns [] (Int n ∷ []) (db.trees 6) rows) (ap (λ (i : NumberedItem). i.number) (sym from.2)) lists)
      ∙ ap (λ (i : NumberedItem). (Blob (concat i.pieces) ∷ []) ∷ []) from.2

  module _ (octets : ℕ) (size : octets ≡ length (concat item.pieces)) where
    first_lacks_none : ¬ LacksContent g db form.First item.number octets
    first_lacks_none lacks = lacks.other (_, body_told lacks.rows lacks.told, concat item.pieces, refl, sym size)

    first_same : (content : List ℕ) → HasContent g db form.First item.number content → content ≡ concat item.pieces
    first_same content one =
        let is = body_told (one.row ∷ []) one.told in
        let row : one.row ≡ Blob (concat item.pieces) ∷ [] = cc in
        let same : Blob content ≡ Blob (concat item.pieces) = sym one.value_is ∙ ap (λ r. column r 0) row in
        cc

-- IN EITHER FORMAT

lacks_nothing : {S : Type 0} {l : Layout} (g : Ghosts S) (db : Database) (ledger : Ledger) (has : db.schema ≡ schema_of l) (tables : HoldTransfers l db.trees ledger) (item : NumberedItem) → Has (items_in tables.transfers) item
    → (octets : ℕ) → octets ≡ length (concat item.pieces) → length (concat item.pieces) ≤ LARGEST_ITEM → ¬ LacksContent g db (format_of l) item.number octets
lacks_nothing {S} {l = First} g db ledger has tables item there octets size within = first_lacks_none g db ledger has tables item there octets size
lacks_nothing {S} {l = Second o} g db ledger has tables item there octets size within = second_lacks_none g db ledger has tables item there octets size within

same_content : {S : Type 0} {l : Layout} (g : Ghosts S) (db : Database) (ledger : Ledger) (has : db.schema ≡ schema_of l) (tables : HoldTransfers l db.trees ledger) (item : NumberedItem) → Has (items_in tables.transfers) item
    → (octets : ℕ) → octets ≡ length (concat item.pieces) → (content : List ℕ) → HasContent g db (format_of l) item.number content → octets ≡ length content → content ≡ concat item.pieces
same_content {S} {l = First} g db ledger has tables item there octets size content is long = first_same g db ledger has tables item there octets size content is
same_content {S} {l = Second o} g db ledger has tables item there octets size content is long = second_same g db ledger has tables item there octets size content is long

module _ {S : Type 0} {l : Layout} (g : Ghosts S) (db : Database) (ledger : Ledger) (has : db.schema ≡ schema_of l) (tables : HoldTransfers l db.trees ledger) (item : NumberedItem) (there : Has (items_in tables.transfers) item) where
  pub item_stands : (tags : Files) → IsPath item.path → Passes tags item.path (concat item.pieces) → ¬ ItemFails g db (format_of l) tags item.number item.path (pos (size_of item))
  item_stands tags path passes (inl unlisted) = unlisted (path, passes.expected)
  item_stands tags path passes (inr (inl large)) = large (size_of item, refl, omega (arith, passes.within, length_concat item.pieces))
  item_stands tags path passes (inr (inr it)) =
      let same : size_of item ≡ it.0 = let is = it.1 in cc in
      let size : it.0 ≡ length (concat item.pieces) = sym same ∙ sym (length_concat item.pieces) in
      elim it.2 [
        | inl lacks ↦ lacks_nothing g db ledger has tables item there it.0 size passes.within lacks
        | inr other ↦ other.other (subst (Passes tags item.path) (sym (same_content g db ledger has tables item there it.0 size other.content other.has other.size_is)) passes)
      ]
