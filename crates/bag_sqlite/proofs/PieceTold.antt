-- The pieces of a payload file that a database tells: exactly those of the ledger, and their number.
use Rattle.std.proofs.Common.{◌≡◌, ◌≢◌, ◌+◌, ◌≤◌, ◌&&◌, cond, ℕ, zero, suc, ℤ, List, [], ◌∷◌, Bool, None, Option, Some, arith, drop, false, length, map, min, pos, refl, slice_get, sym, true, ap, subst, ◌∙◌}
use Rattle.std.proofs.lemmas.List.FromFn.{length-enumerate_from}
use Rattle.std.specs.Prelude.{IsPermutation}
use Rattle.sqlite_sql.specs.Aggregate.{count}
use Rattle.sqlite_sql.specs.Query.{matches}
use Rattle.bag_sqlite.proofs.Words.{all_map, AllByRecursion, binary, Binary, Blob, col, column, Compare, count_text, Database, end, enumerate_from, Eq, filter, filter-map, filter_all, filter_none, filter_same, flat_map, Ghosts, Has, HoldTransfers, inner, Int, int_eq, is_true, IsInt, IsPermutation-filter, IsPermutation-map, IsPermutation-trans, items_in, Ledger, length-map, length_permutation, map_same, map_twice, Null, NumberedItem, one_permutation, Origin, Output, overlay, piece_rows, piece_text, piece_tree, Row, Second, second_schema, Select, Tells, Term, Trees, without_rowids}
use Rattle.bag_sqlite.proofs.AdoptingMeanings.{count_is, count_plain, count_query, count_unlisted, count_where}
use Rattle.bag_sqlite.proofs.CountLemmas.{counted}
use Rattle.bag_sqlite.proofs.ItemMeanings.{piece_columns, piece_is, piece_plain, piece_terms, piece_unlisted}
use Rattle.bag_sqlite.proofs.LayoutLemmas.{piece_seen}
use Rattle.bag_sqlite.proofs.OneLedger.{numbered_from}
use Rattle.bag_sqlite.proofs.ToldLemmas.{told_lists, told_reads}
use Rattle.bag_sqlite.proofs.TransferRows.{later, one_kept}
use Rattle.bag_sqlite.proofs.WhereLemmas.{equal_numbers, equals, flat_kept, made, other_number, passes, same_number}
use Rattle.bag_rules.proofs.HasLemmas.{all_of}
use Rattle.std.proofs.Math.Bool.{and-true}

-- THE ONE WITH A NUMBER

abbrev pub as_list : {X : Type 0} → Option X → List X
as_list None = []
as_list (Some x) = x ∷ []

abbrev numbered_as : {X : Type 0} → ℕ → ℕ × X → Bool
numbered_as n e = int_eq (pos e.0) (pos n)

-- of numbered pieces, at most one has a number
one_numbered : {X : Type 0} (k n : ℕ) (xs : List X) → map (λ (e : ℕ × X). e.1) (filter (numbered_as (k + n)) (enumerate_from k xs)) ≡ as_list (slice_get xs n)
one_numbered k n [] = refl
one_numbered {X} k zero (x ∷ xs) =
    let here : k ≡ k + 0 = omega arith in
    let yes : numbered_as (k + 0) (k, x) ≡ true = same_number (pos k) (pos (k + 0)) (ap pos here) in
    let later : AllByRecursion (λ (e : ℕ × X). numbered_as (k + 0) e ≡ false) (enumerate_from (k + 1) xs) = all_of (λ e. numbered_as (k + 0) e ≡ false) (enumerate_from (k + 1) xs)
    (λ e has. other_number (pos e.0) (pos (k + 0)) (λ same. let at : e.0 ≡ k + 0 = cc in omega (arith, numbered_from (k + 1) xs e has, at))) in
    rw (yes, filter_none (numbered_as (k + 0)) (enumerate_from (k + 1) xs) later) refl
one_numbered k (suc n) (x ∷ xs) =
    let next : k + 1 + n ≡ k + suc n = omega arith in
    let no : numbered_as (k + suc n) (k, x) ≡ false = other_number (pos k) (pos (k + suc n)) (λ same. let at : k ≡ k + suc n = cc in omega (arith, at)) in
    rw no (subst (λ m. map (λ (e : ℕ × _). e.1) (filter (numbered_as m) (enumerate_from (k + 1) xs)) ≡ as_list (slice_get xs n)) next (one_numbered (k + 1) n xs))

pub none_moved : {X : Type 0} (ys : List X) → IsPermutation [] ys → ys ≡ []
none_moved [] moves = refl
none_moved (y ∷ ys) moves = absurd (omega (arith, length_permutation [] (y ∷ ys) moves))

-- what is shown of a piece, if there is one
abbrev pub piece_shown : Option (List ℕ) → List Row
piece_shown o = map (λ body. Blob body ∷ []) (as_list o)

abbrev piece_out : List ℕ → Output
piece_out body = ([], Blob body ∷ [])

at_most_one : (o : Option (List ℕ)) (outs : List Output) → IsPermutation (map piece_out (as_list o)) outs → map (λ (out : Output). out.1) outs ≡ piece_shown o
at_most_one None outs moves = ap (map (λ (out : Output). out.1)) (none_moved outs moves)
at_most_one (Some body) outs moves = ap (map (λ (out : Output). out.1)) (one_permutation (piece_out body) outs moves)

-- THE ROWS OF ONE PAYLOAD FILE

abbrev piece_row : ℤ → ℕ × List ℕ → Row
piece_row number piece = Int number ∷ Int (pos piece.0) ∷ Blob piece.1 ∷ []

-- the conditions for a row without its rowid
abbrev bare_piece : List Term
bare_piece = equals (col 1 0) (col 0 0) ∷ equals (col 1 1) (col 0 1) ∷ []

abbrev bare_count : List Term
bare_count = equals (col 1 0) (col 0 0) ∷ []

abbrev bare_made : Row → Output
bare_made row = ([], column row 2 ∷ [])

module _ {o : Origin} (trees : Trees) (ledger : Ledger) (tables : HoldTransfers (Second o) trees ledger) (item : NumberedItem) (there : Has (items_in tables.transfers) item) where
  -- the rows of other payload files don't pass
  rows_apart : (conditions : List Term) (params : Row) → ((number : ℤ) (piece : ℕ × List ℕ) → number ≢ item.number → passes conditions params (piece_row number piece) ≡ false)
      → filter (passes conditions params) (flat_map piece_rows (items_in tables.transfers)) ≡ filter (passes conditions params) (piece_rows item)
  rows_apart conditions params fails =
      one_kept (λ (i : NumberedItem). i.number) piece_rows (passes conditions params) item.number
      (λ other apart. all_map (λ row. passes conditions params row ≡ false) (piece_row other.number) (enumerate_from 0 other.pieces)
      (all_of (λ piece. passes conditions params (piece_row other.number piece) ≡ false) (enumerate_from 0 other.pieces) (λ piece has. fails other.number piece apart)))
      (items_in tables.transfers) item tables.item_numbers there refl

  -- A PIECE

  module _ (n : ℕ) where
    abbrev at_piece : Row
    at_piece = Int item.number ∷ Int (pos n) ∷ []

    piece_tested : (number : ℤ) (piece : ℕ × List ℕ) (b : Bool) → int_eq number item.number ≡ b → passes bare_piece at_piece (piece_row number piece) ≡ (b && (int_eq (pos piece.0) (pos n) && true))
    piece_tested number piece b is = λ i. (equal_numbers number item.number ∙ is) i && (equal_numbers (pos piece.0) (pos n) i && true)

    -- what is computed from the rows of the pieces
    pieces_made : map bare_made (filter (passes bare_piece at_piece) (flat_map piece_rows (items_in tables.transfers))) ≡ map piece_out (as_list (slice_get item.pieces n))
    pieces_made =
        let numbered = enumerate_from 0 item.pieces in
        let zero_on : 0 + n ≡ n = omega arith in
        let test : (piece : ℕ × List ℕ) → passes bare_piece at_piece (piece_row item.number piece) ≡ numbered_as n piece =
        λ piece. piece_tested item.number piece true (same_number item.number item.number refl) ∙ and-true (numbered_as n piece) in
        let few : map (λ (e : ℕ × List ℕ). e.1) (filter (numbered_as n) numbered) ≡ as_list (slice_get item.pieces n) =
        subst (λ m. map (λ (e : ℕ × List ℕ). e.1) (filter (numbered_as m) numbered) ≡ as_list (slice_get item.pieces n)) zero_on (one_numbered 0 n item.pieces) in
        ap (map bare_made) (rows_apart bare_piece at_piece (λ number piece apart. piece_tested number piece false (other_number number item.number apart))
        ∙ filter-map (passes bare_piece at_piece) (piece_row item.number) numbered
        ∙ ap (map (piece_row item.number)) (filter_same (λ piece. passes bare_piece at_piece (piece_row item.number piece)) (numbered_as n) test numbered))
        ∙ map_twice (piece_row item.number) bare_made (filter (numbered_as n) numbered)
        ∙ sym (map_twice (λ (e : ℕ × List ℕ). e.1) piece_out (filter (numbered_as n) numbered))
        ∙ ap (map piece_out) few

    -- the query computes the same from the rows with and without their rowids
    bare_pieces : (table : List Row) → map (made (piece_tree o) piece_terms piece_columns [] at_piece) (filter (passes piece_terms at_piece) table) ≡ map bare_made (filter (passes bare_piece at_piece) (without_rowids table))
    bare_pieces table =
        let test = passes bare_piece at_piece in
        let same_test : (row : Row) → passes piece_terms at_piece row ≡ test (drop 1 row) =
        λ row i. is_true (binary (Compare Eq Binary) (sym (later row 0) i) (Int item.number)) && (is_true (binary (Compare Eq Binary) (sym (later row 1) i) (Int (pos n))) && true) in
        let same_made : (row : Row) → made (piece_tree o) piece_terms piece_columns [] at_piece row ≡ bare_made (drop 1 row) = λ row i. ([], sym (later row 2) i ∷ []) in
        ap (map (made (piece_tree o) piece_terms piece_columns [] at_piece)) (filter_same (passes piece_terms at_piece) (λ row. test (drop 1 row)) same_test table)
        ∙ map_same _ (λ row. bare_made (drop 1 row)) same_made (filter (λ row. test (drop 1 row)) table)
        ∙ sym (map_twice (drop 1) bare_made (filter (λ row. test (drop 1 row)) table))
        ∙ ap (map bare_made) (sym (filter-map test (drop 1) table))

  -- THE NUMBER OF PIECES

  abbrev of_item : Row
  of_item = Int item.number ∷ []

  count_tested : (number : ℤ) (piece : ℕ × List ℕ) (b : Bool) → int_eq number item.number ≡ b → passes bare_count of_item (piece_row number piece) ≡ b
  count_tested number piece b is = and-true _ ∙ equal_numbers number item.number ∙ is

  rows_counted : length (filter (passes count_where of_item) (trees (piece_tree o))) ≡ length item.pieces
  rows_counted =
      let test = passes bare_count of_item in
      let table = trees (piece_tree o) in
      let same_test : (row : Row) → passes count_where of_item row ≡ test (drop 1 row) = λ row i. is_true (binary (Compare Eq Binary) (sym (later row 0) i) (Int item.number)) && true in
      let numbered = enumerate_from 0 item.pieces in
      let own = all_map (λ row. test row ≡ true) (piece_row item.number) numbered
      (all_of (λ piece. test (piece_row item.number piece) ≡ true) numbered (λ piece has. count_tested item.number piece true (same_number item.number item.number refl))) in
      let bare : length (filter (passes count_where of_item) table) ≡ length (filter test (without_rowids table)) =
      ap length (filter_same (passes count_where of_item) (λ row. test (drop 1 row)) same_test table)
      ∙ sym (length-map (filter (λ row. test (drop 1 row)) table) (drop 1)) ∙ ap length (sym (filter-map test (drop 1) table)) in
      bare
      ∙ length_permutation _ _ (IsPermutation-filter test (flat_map piece_rows (items_in tables.transfers)) (without_rowids table) tables.rows.items.pieces)
      ∙ ap length (rows_apart bare_count of_item (λ number piece apart. count_tested number piece false (other_number number item.number apart)) ∙ filter_all test (piece_rows item) own)
      ∙ length-map numbered (piece_row item.number) ∙ length-enumerate_from 0 item.pieces

-- WHAT IS TOLD

module _ {S : Type 0} (o : Origin) (g : Ghosts S) (db : Database) (has : db.schema ≡ second_schema o) where
  count_is_told : (number : ℤ) (rows : List Row) → Tells g db count_text (Int number ∷ []) rows
      → rows ≡ (count (length (filter (passes count_where (Int number ∷ [])) (db.trees (piece_tree o)))) ∷ []) ∷ []
  count_is_told number rows told =
      let params : Row = Int number ∷ [] in
      let got = told_reads g (second_schema o) db has count_text params rows (Select (record { lets = []; body = count_query o }) _) (count_is o) (count_plain o) (count_unlisted o) told in
      let kept = filter (passes count_where params) (db.trees (piece_tree o)) in
      let all : matches (overlay db.trees []) count_where (inner (piece_tree o) end) (params ∷ []) ≡ map (λ row. params ∷ row ∷ []) kept =
      ap (flat_map (λ row. cond (passes count_where params row) ((params ∷ row ∷ []) ∷ []) [])) (piece_seen o db.trees) ∙ flat_kept (passes count_where params) (λ row. params ∷ row ∷ []) (db.trees (piece_tree o)) in
      counted o (overlay db.trees []) params rows (got.answer Null) ∙ ap (λ n. (count n ∷ []) ∷ []) (ap length all ∙ length-map kept (λ row. params ∷ row ∷ []))

  -- one row with a number
  pub count_told : (number : ℤ) (rows : List Row) → Tells g db count_text (Int number ∷ []) rows → (row : Row) × (rows ≡ row ∷ []) × IsInt (column row 0)
  count_told number rows told = (_, count_is_told number rows told, (_, refl))

module _ {S : Type 0} {o : Origin} (g : Ghosts S) (db : Database) (has : db.schema ≡ second_schema o) (ledger : Ledger) (tables : HoldTransfers (Second o) db.trees ledger) (item : NumberedItem) (there : Has (items_in tables.transfers) item) where
  pub pieces_counted : (rows : List Row) → length item.pieces ≤ 9223372036854775807 → Tells g db count_text (Int item.number ∷ []) rows → rows ≡ (Int (pos (length item.pieces)) ∷ []) ∷ []
  pieces_counted rows few told =
      let exact : min (length item.pieces) 9223372036854775807 ≡ length item.pieces = omega (arith, few) in
      count_is_told o g db has item.number rows told ∙ ap (λ n. (count n ∷ []) ∷ []) (rows_counted db.trees ledger tables item there) ∙ ap (λ n. (Int (pos n) ∷ []) ∷ []) exact

  pub piece_told : (n : ℕ) (rows : List Row) → Tells g db piece_text (Int item.number ∷ Int (pos n) ∷ []) rows → rows ≡ piece_shown (slice_get item.pieces n)
  piece_told n rows told =
      let params : Row = Int item.number ∷ Int (pos n) ∷ [] in
      let lists = told_lists g (second_schema o) db has (piece_tree o) piece_terms piece_columns [] piece_text params rows _ (piece_is o) (piece_plain o) (piece_unlisted o) (piece_seen o db.trees) told in
      let test = passes bare_piece params in
      let moves = IsPermutation-map bare_made _ _ (IsPermutation-filter test (flat_map piece_rows (items_in tables.transfers)) (without_rowids (db.trees (piece_tree o))) tables.rows.items.pieces) in
      let same = subst (λ l. IsPermutation l lists.ordered) (bare_pieces db.trees ledger tables item there n (db.trees (piece_tree o))) lists.same in
      let all = IsPermutation-trans _ _ lists.ordered moves same in
      lists.shown ∙ at_most_one (slice_get item.pieces n) lists.ordered (subst (λ l. IsPermutation l lists.ordered) (pieces_made db.trees ledger tables item there n) all)
