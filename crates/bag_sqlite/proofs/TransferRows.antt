-- The rows of a transfer's tag files and payload files, as they are shown and as they are read in sequence.
use Rattle.std.proofs.Common.{◌≡◌, ◌≢◌, ◌<◌, ◌+◌, ◌&&◌, ℕ, suc, List, [], ◌∷◌, ◌++◌, Bool, true, false, Some, Less, Greater, append-nil, drop, get_or, inl, inr, length, map, take, pos, refl, sym, ap, ap₂, subst, ◌∙◌, arith, ℤ, unwrap_or}
use Rattle.bag_sqlite.proofs.Words.{all_has, all_map, all_weaker, AllByRecursion, AreApart, AreRising, ascending, binary, Binary, Blob, bytes, col, column, Compare, concat, Eq, Files, filter, filter-append, filter-map, filter_all, filter_none, filter_same, flat_map, Has, has_map, HasTransferRow, held_rows, held_tree, HoldTransfers, insert_entry, Int, int_eq, is_true, IsPermutation-filter, IsPermutation-map, IsStrictlySortedBy, items_of, ItemSize, keys_of, Layout, Ledger, map_same, map_twice, match_ordering, nat_cmp, nat_list_cmp_total, Null, NumberedItem, NumberedTransfer, option_map, ordering_reverse, Origin, Output, reads_as, Row, schema_of, Second, second_schema, Shown, size_of, size_shown, sizes_of, slice_cmp, State, tag_files_text, tag_rows, tag_shown, tags_of, take-suc, Term, Text, Transfer, Value, without_rowids}
use Rattle.std.specs.Prelude.{IsPermutation}
use Rattle.bag_sqlite.proofs.CutLemmas.{length_concat}
use Rattle.bag_sqlite.proofs.LayoutLemmas.{held_seen}
use Rattle.bag_sqlite.proofs.NamesLemmas.{drop_zero}
use Rattle.bag_sqlite.proofs.OneLedger.{items_rise, tags_rise}
use Rattle.bag_sqlite.proofs.TransferLemmas.{transfer_at}
use Rattle.bag_sqlite.proofs.TransferMeanings.{sizes_command, sizes_is, sizes_plain, sizes_text, sizes_unlisted, tags_command, tags_is, tags_plain, tags_unlisted}
use Rattle.bag_sqlite.proofs.WhereLemmas.{answer_lists, by_text, equal_numbers, equals, made, other_number, passes, same_number}
use Rattle.bag_rules.proofs.HasLemmas.{has_right}
use Rattle.std.proofs.Math.Bool.{and-true}

-- READING ROWS IN SEQUENCE

abbrev pub two_of : Row → Row
two_of row = column row 0 ∷ column row 1 ∷ []

-- the files, with those of the rows inserted at their places
abbrev pub files_put : Files → List Row → Files
files_put files [] = files
files_put files (row ∷ rows) = files_put (insert_entry (slice_cmp nat_cmp) files (bytes (column row 0)) (bytes (column row 1))) rows

put_last : (files : Files) (rows : List Row) (row : Row) → files_put files (rows ++ row ∷ []) ≡ insert_entry (slice_cmp nat_cmp) (files_put files rows) (bytes (column row 0)) (bytes (column row 1))
put_last files [] row = refl
put_last files (r ∷ rows) row = put_last (insert_entry (slice_cmp nat_cmp) files (bytes (column r 0)) (bytes (column r 1))) rows row

-- one more row
pub put_more : (rows : List Row) (i : ℕ) (row : Row) (old new : Files) (path body : List ℕ) → i < length rows → row ≡ get_or rows i row → column row 0 ≡ Text path → column row 1 ≡ Blob body
    → old ≡ files_put [] (take i rows) → new ≡ insert_entry (slice_cmp nat_cmp) old path body → new ≡ files_put [] (take (i + 1) rows)
put_more rows i row old new path body low at named read so_far added =
    let next : i + 1 ≡ suc i = omega arith in
    let split : take (i + 1) rows ≡ take i rows ++ row ∷ [] = rw next (take-suc rows i row low) ∙ ap (λ r. take i rows ++ r ∷ []) (sym at) in
    added ∙ (λ t. insert_entry (slice_cmp nat_cmp) (so_far t) (bytes (sym named t)) (bytes (sym read t))) ∙ sym (put_last [] (take i rows) row) ∙ ap (files_put []) (sym split)

-- a file after all others is inserted at the end
put_after : (front : Files) (file : List ℕ × List ℕ) → AllByRecursion (λ (f : List ℕ × List ℕ). slice_cmp nat_cmp f.0 file.0 ≡ Less) front → insert_entry (slice_cmp nat_cmp) front file.0 file.1 ≡ front ++ file ∷ []
put_after [] file before = refl
put_after (f ∷ fs) file before =
    let after : slice_cmp nat_cmp file.0 f.0 ≡ Greater = nat_list_cmp_total.antisymm file.0 f.0 ∙ ap ordering_reverse before.0 in
    ap (λ o. match_ordering o (file ∷ f ∷ fs) ((f.0, file.1) ∷ fs) (f ∷ insert_entry (slice_cmp nat_cmp) fs file.0 file.1)) after ∙ ap (λ rest. f ∷ rest) (put_after fs file before.1)

before_it : (front : Files) (file : List ℕ × List ℕ) (back : Files) → AreRising (keys_of (front ++ file ∷ back)) → AllByRecursion (λ (f : List ℕ × List ℕ). slice_cmp nat_cmp f.0 file.0 ≡ Less) front
unfolding IsStrictlySortedBy
before_it [] file back rising = tt
before_it (f ∷ fs) file back rising =
    let has = has_map (λ (g : List ℕ × List ℕ). g.0) (fs ++ file ∷ back) file (has_right fs (file ∷ back) file (inl refl)) in
    (all_has (λ key. slice_cmp nat_cmp f.0 key ≡ Less) (keys_of (fs ++ file ∷ back)) file.0 rising.0 has, before_it fs file back rising.1)

joined : (front : Files) (file : List ℕ × List ℕ) (back : Files) → (front ++ file ∷ []) ++ back ≡ front ++ file ∷ back
joined [] file back = refl
joined (f ∷ fs) file back = ap (λ rest. f ∷ rest) (joined fs file back)

files_follow : (front back : Files) → AreRising (keys_of (front ++ back)) → files_put front (map tag_shown back) ≡ front ++ back
files_follow front [] rising = sym (append-nil front)
files_follow front (file ∷ back) rising =
    let longer = joined front file back in
    ap (λ files. files_put files (map tag_shown back)) (put_after front file (before_it front file back rising))
    ∙ files_follow (front ++ file ∷ []) back (subst (λ files. AreRising (keys_of files)) (sym longer) rising) ∙ longer

-- rows of files in order give those files
pub files_read : (files : Files) (rows : List Row) (tags : Files) → AreRising (keys_of files) → rows ≡ map tag_shown files → tags ≡ files_put [] rows → tags ≡ files
files_read files rows tags rising is read = read ∙ ap (files_put []) is ∙ files_follow [] files rising

same_size : (a b : ItemSize) → size_shown a ≡ size_shown b → a ≡ b
same_size a b e = λ t. record { path = bytes (column (e t) 0); octets = number_in (column (e t) 1) }
  where
    number_in : Value → ℕ
    number_in (Int (pos n)) = n
    number_in _ = 0

-- payload files read from their rows
pub sizes_read : (sizes wanted : List ItemSize) (rows : List Row) → rows ≡ map size_shown wanted → map size_shown sizes ≡ map two_of rows → sizes ≡ wanted
sizes_read [] [] rows is read = refl
sizes_read [] (w ∷ ws) rows is read = absurd (let e = read ∙ ap (map two_of) is in cc)
sizes_read (s ∷ ss) [] rows is read = absurd (let e = read ∙ ap (map two_of) is in cc)
sizes_read (s ∷ ss) (w ∷ ws) rows is read =
    let e : map size_shown (s ∷ ss) ≡ map two_of (map size_shown (w ∷ ws)) = read ∙ ap (map two_of) is in
    let first : size_shown s ≡ size_shown w = cc in
    let more : map size_shown ss ≡ map two_of (map size_shown ws) = cc in
    ap₂ ◌∷◌ (same_size s w first) (sizes_read ss ws (map size_shown ws) refl more)

-- THE ROWS OF ONE TRANSFER

all_each : {X : Type 0} (P : X → Type 0) → ((x : X) → P x) → (xs : List X) → AllByRecursion P xs
all_each P f [] = tt
all_each P f (x ∷ xs) = (f x, all_each P f xs)

-- a condition that keeps no rows but those of the one with a number
module _ {X : Type 0} (number : X → ℤ) (rows_of : X → List Row) (p : Row → Bool) (n : ℤ) (no : (x : X) → number x ≢ n → AllByRecursion (λ row. p row ≡ false) (rows_of x)) where
  none_kept : (xs : List X) → AllByRecursion (λ x. number x ≢ n) xs → filter p (flat_map rows_of xs) ≡ []
  none_kept [] others = refl
  none_kept (x ∷ xs) others = filter-append p (rows_of x) (flat_map rows_of xs) ∙ ap₂ ◌++◌ (filter_none p (rows_of x) (no x others.0)) (none_kept xs others.1)

  pub one_kept : (xs : List X) (x : X) → AreApart number xs → Has xs x → number x ≡ n → filter p (flat_map rows_of xs) ≡ filter p (rows_of x)
  one_kept [] x apart has at = absurd has
  one_kept (first ∷ xs) x apart (inl is) at =
      let here : number first ≡ n = ap number is ∙ at in
      let others = all_weaker (λ y. number first ≢ number y) (λ y. number y ≢ n) (λ y other same. other (here ∙ sym same)) xs apart.0 in
      filter-append p (rows_of first) (flat_map rows_of xs) ∙ ap (λ rows. filter p (rows_of first) ++ rows) (none_kept xs others) ∙ append-nil (filter p (rows_of first)) ∙ ap (λ y. filter p (rows_of y)) is
  one_kept (first ∷ xs) x apart (inr has) at =
      let other : number first ≢ n = λ same. all_has (λ y. number first ≢ number y) xs x apart.0 has (same ∙ sym at) in
      filter-append p (rows_of first) (flat_map rows_of xs) ∙ ap₂ ◌++◌ (filter_none p (rows_of first) (no first other)) (one_kept xs x apart.1 has at)

-- THE TAG FILES THAT ARE SHOWN

pub later : (row : Row) (i : ℕ) → column (drop 1 row) i ≡ column row (suc i)
later [] i = refl
later (v ∷ row) i = ap (λ r. column r i) (drop_zero row)

abbrev tags_where : List Term
tags_where = equals (col 1 1) (col 0 0) ∷ []

-- the same for a row without its rowid
abbrev tag_where : List Term
tag_where = equals (col 1 0) (col 0 0) ∷ []

abbrev tag_made : Row → Output
tag_made row = (column row 1 ∷ [], column row 1 ∷ column row 2 ∷ [])

number_tested : (t : NumberedTransfer) (n : ℤ) (path body : List ℕ) (b : Bool) → int_eq t.number n ≡ b → passes tag_where (Int n ∷ []) (Int t.number ∷ Text path ∷ Blob body ∷ []) ≡ b
number_tested t n path body b is = and-true _ ∙ equal_numbers t.number n ∙ is

abbrev tags_shown_of : List Term
tags_shown_of = col 1 2 ∷ col 1 3 ∷ []

module _ {l : Layout} (s new : State) (rows : List Row) (ledger : Ledger) (name : List ℕ) (n : ℤ) (has : s.now.schema ≡ schema_of l) (tables : HoldTransfers l s.now.trees ledger)
    (there : HasTransferRow s.now.trees name n) where
  tag_kept : (t : NumberedTransfer) (b : Bool) → int_eq t.number n ≡ b → AllByRecursion (λ row. passes tag_where (Int n ∷ []) row ≡ b) (tag_rows t)
  tag_kept t b is =
      all_map (λ row. passes tag_where (Int n ∷ []) row ≡ b) (λ (file : List ℕ × List ℕ). Int t.number ∷ Text file.0 ∷ Blob file.1 ∷ []) t.tags
      (all_each (λ (file : List ℕ × List ℕ). passes tag_where (Int n ∷ []) (Int t.number ∷ Text file.0 ∷ Blob file.1 ∷ []) ≡ b) (λ file. number_tested t n file.0 file.1 b is) t.tags)

  -- the query computes the same from the rows with and without their rowids
  tags_made : (table : List Row) → map (made 4 tags_where tags_shown_of ((col 1 2, ascending Binary) ∷ []) (Int n ∷ [])) (filter (passes tags_where (Int n ∷ [])) table)
      ≡ map tag_made (filter (passes tag_where (Int n ∷ [])) (without_rowids table))
  tags_made table =
      let test = passes tag_where (Int n ∷ []) in
      let same_test : (row : Row) → passes tags_where (Int n ∷ []) row ≡ test (drop 1 row) = λ row. ap (λ v. is_true (binary (Compare Eq Binary) v (Int n)) && true) (sym (later row 0)) in
      let same_made : (row : Row) → made 4 tags_where tags_shown_of ((col 1 2, ascending Binary) ∷ []) (Int n ∷ []) row ≡ tag_made (drop 1 row) = λ row t. (sym (later row 1) t ∷ [], sym (later row 1) t ∷ sym (later row 2) t ∷ []) in
      ap (map (made 4 tags_where tags_shown_of ((col 1 2, ascending Binary) ∷ []) (Int n ∷ []))) (filter_same (passes tags_where (Int n ∷ [])) (λ row. test (drop 1 row)) same_test table)
      ∙ map_same _ (λ row. tag_made (drop 1 row)) same_made (filter (λ row. test (drop 1 row)) table)
      ∙ sym (map_twice (drop 1) tag_made (filter (λ row. test (drop 1 row)) table))
      ∙ ap (map tag_made) (sym (filter-map test (drop 1) table))

  pub tags_shown : Shown tag_files_text (Int n ∷ []) s new rows → (files : Files) × (tags_of ledger name ≡ Some files) × AreRising (keys_of files) × (rows ≡ map tag_shown files)
  tags_shown shown =
      let it = transfer_at s.now.trees ledger tables name n there in
      let t = it.0 in
      let test = passes tag_where (Int n ∷ []) in
      let table = s.now.trees 4 in
      let got = reads_as tag_files_text (Int n ∷ []) s new (schema_of l) has tags_command (tags_is l) (tags_plain l) (tags_unlisted l) rows shown in
      let lists = answer_lists 4 tags_where tags_shown_of ((col 1 2, ascending Binary) ∷ []) (Int n ∷ []) s.now.trees rows (got.answer Null) refl in
      let kept : filter test (flat_map tag_rows tables.transfers) ≡ tag_rows t =
      one_kept (λ (u : NumberedTransfer). u.number) tag_rows test n (λ u other. tag_kept u false (other_number u.number n other)) tables.transfers t tables.numbers it.1 it.2
      ∙ filter_all test (tag_rows t) (tag_kept t true (same_number t.number n it.2)) in
      let moved = subst (λ l. IsPermutation l (filter test (without_rowids table))) kept (IsPermutation-filter test (flat_map tag_rows tables.transfers) (without_rowids table) tables.rows.tags) in
      let start : map tag_made (tag_rows t) ≡ map (λ (file : List ℕ × List ℕ). (Text file.0 ∷ [], tag_shown file)) t.tags = map_twice (λ (file : List ℕ × List ℕ). Int t.number ∷ Text file.0 ∷ Blob file.1 ∷ []) tag_made t.tags in
      let moves = subst (λ l. IsPermutation l (map tag_made (filter test (without_rowids table)))) start (IsPermutation-map tag_made (tag_rows t) (filter test (without_rowids table)) moved) in
      let rising = tags_rise s.now.trees ledger tables t it.1 in
      let all = by_text 4 tags_where tags_shown_of (col 1 2) (λ (file : List ℕ × List ℕ). file.0) tag_shown (Int n ∷ []) table rows t.tags rising
      (subst (IsPermutation (map (λ (file : List ℕ × List ℕ). (Text file.0 ∷ [], tag_shown file)) t.tags)) (sym (tags_made table)) moves) lists in
      (t.tags, ap (option_map (λ (transfer : Transfer). transfer.tags)) it.3, rising, all)

-- THE SIZES THAT ARE SHOWN

abbrev sizes_where : List Term
sizes_where = equals (col 1 2) (col 0 0) ∷ []

abbrev sizes_shown_of : List Term
sizes_shown_of = col 1 3 ∷ col 1 4 ∷ []

abbrev size_made : NumberedItem → ItemSize
size_made item = record { path = item.path; octets = size_of item }

-- the size of a payload file is that of its pieces
size_is : (item : NumberedItem) → size_made item ≡ record { path = item.path; octets = length (concat item.pieces) }
size_is item = λ t. record { path = item.path; octets = sym (length_concat item.pieces) t }

module _ {o : Origin} (s new : State) (rows : List Row) (ledger : Ledger) (name : List ℕ) (n : ℤ) (has : s.now.schema ≡ second_schema o) (tables : HoldTransfers (Second o) s.now.trees ledger)
    (there : HasTransferRow s.now.trees name n) where
  abbrev row_of : NumberedTransfer → NumberedItem → Row
  row_of t item = Int item.number ∷ Null ∷ Int t.number ∷ Text item.path ∷ Int (pos (size_of item)) ∷ []

  size_kept : (t : NumberedTransfer) (b : Bool) → int_eq t.number n ≡ b → AllByRecursion (λ row. passes sizes_where (Int n ∷ []) row ≡ b) (held_rows t)
  size_kept t b is =
      all_map (λ row. passes sizes_where (Int n ∷ []) row ≡ b) (row_of t) t.items
      (all_each (λ (item : NumberedItem). passes sizes_where (Int n ∷ []) (row_of t item) ≡ b) (λ item. and-true _ ∙ equal_numbers t.number n ∙ is) t.items)

  pub sizes_shown : Shown sizes_text (Int n ∷ []) s new rows → rows ≡ map size_shown (sizes_of (items_of ledger name))
  sizes_shown shown =
      let it = transfer_at s.now.trees ledger tables name n there in
      let t = it.0 in
      let test = passes sizes_where (Int n ∷ []) in
      let table = s.now.trees (held_tree o) in
      let query_made = made (held_tree o) sizes_where sizes_shown_of ((col 1 3, ascending Binary) ∷ []) (Int n ∷ []) in
      let show : NumberedItem → Row = λ item. size_shown (size_made item) in
      let out : NumberedItem → Output = λ item. (Text item.path ∷ [], show item) in
      let got = reads_as sizes_text (Int n ∷ []) s new (second_schema o) has (sizes_command o) (sizes_is o) (sizes_plain o) (sizes_unlisted o) rows shown in
      let lists = answer_lists (held_tree o) sizes_where sizes_shown_of ((col 1 3, ascending Binary) ∷ []) (Int n ∷ []) s.now.trees rows (got.answer Null) (held_seen o s.now.trees) in
      let kept : filter test (flat_map held_rows tables.transfers) ≡ held_rows t =
      one_kept (λ (u : NumberedTransfer). u.number) held_rows test n (λ u other. size_kept u false (other_number u.number n other)) tables.transfers t tables.numbers it.1 it.2
      ∙ filter_all test (held_rows t) (size_kept t true (same_number t.number n it.2)) in
      let moved = subst (λ l. IsPermutation l (filter test table)) kept (IsPermutation-filter test (flat_map held_rows tables.transfers) table tables.rows.items.held) in
      let start : map query_made (held_rows t) ≡ map out t.items = map_twice (row_of t) query_made t.items in
      let moves = subst (λ l. IsPermutation l (map query_made (filter test table))) start (IsPermutation-map query_made (held_rows t) (filter test table) moved) in
      let rising = subst AreRising (map_twice (λ (item : NumberedItem). (item.path, concat item.pieces)) (λ (e : List ℕ × List ℕ). e.0) t.items) (items_rise s.now.trees ledger tables t it.1) in
      let all = by_text (held_tree o) sizes_where sizes_shown_of (col 1 3) (λ (item : NumberedItem). item.path) show (Int n ∷ []) table rows t.items rising moves lists in
      let items : items_of ledger name ≡ map (λ (item : NumberedItem). (item.path, concat item.pieces)) t.items = ap (λ o. unwrap_or (option_map (λ (transfer : Transfer). transfer.items) o) []) it.3 in
      let sizes : sizes_of (items_of ledger name) ≡ map size_made t.items =
      ap sizes_of items ∙ map_twice (λ (item : NumberedItem). (item.path, concat item.pieces)) (λ (e : List ℕ × List ℕ). record { path = e.0; octets = length e.1 }) t.items ∙ sym (map_same size_made _ size_is t.items) in
      all ∙ sym (map_twice size_made size_shown t.items) ∙ ap (map size_shown) (sym sizes)
