-- Tables hold at most one ledger.
use Rattle.std.proofs.Common.{◌≡◌, ◌≢◌, ◌≤◌, ◌+◌, inl, inr, ℕ, List, [], ◌∷◌, map, refl, sym, ap, subst, ◌∙◌, arith, pos, ℤ}
use Rattle.bag_sqlite.proofs.Words.{all_has, AllByRecursion, AreApart, AreRising, asymmetric, Blob, concat, Contains-permutation, contains_from_has, enumerate_from, First, flat_map, Has, has_from_contains, has_from_map, has_map, held_rows, held_tree, HoldTransfers, Int, IsPermutation, IsPermutation-sym, item_rows, item_tree, items_in, keys_of, Layout, Ledger, nat_cmp, nat_list_cmp_total, Null, NumberedItem, NumberedTransfer, Origin, piece_rows, piece_tree, Row, same_list, Second, size_of, slice_cmp, sorted_by_key, tag_rows, Text, Transfer, transfer_row, Trees, without_number, without_rowids}
use Rattle.bag_rules.proofs.HasLemmas.{has_left, has_right, has_either}

-- MEMBERS

pub has_flat : {X Y : Type 0} (f : X → List Y) (xs : List X) (x : X) (y : Y) → Has xs x → Has (f x) y → Has (flat_map f xs) y
has_flat f [] x y h k = absurd h
has_flat f (first ∷ xs) x y (inl e) k = has_left (f first) (flat_map f xs) y (subst (λ w. Has (f w) y) (sym e) k)
has_flat f (first ∷ xs) x y (inr h) k = has_right (f first) (flat_map f xs) y (has_flat f xs x y h k)

pub has_from_flat : {X Y : Type 0} (f : X → List Y) (xs : List X) (y : Y) → Has (flat_map f xs) y → (x : X) × Has xs x × Has (f x) y
has_from_flat f [] y h = absurd h
has_from_flat f (first ∷ xs) y h = elim (has_either (f first) (flat_map f xs) y h) [
  | inl here ↦ (first, inl refl, here)
  | inr there ↦ (let r = has_from_flat f xs y there in (r.0, inr r.1, r.2))
]

pub has_moved : {X : Type 0} (xs ys : List X) (x : X) → IsPermutation xs ys → Has xs x → Has ys x
has_moved xs ys x moves h = has_from_contains ys x (Contains-permutation xs ys x moves (contains_from_has xs x h))

-- what is in one list of rows is in a permutation of it
has_through : {X : Type 0} (xs rows ys : List X) (x : X) → IsPermutation xs rows → IsPermutation ys rows → Has xs x → Has ys x
has_through xs rows ys x p q h = has_moved rows ys x (IsPermutation-sym ys rows q) (has_moved xs rows x p h)

pub one_of : {X : Type 0} (number : X → ℤ) (xs : List X) (x y : X) → AreApart number xs → Has xs x → Has xs y → number x ≡ number y → x ≡ y
one_of number [] x y apart h k same = absurd h
one_of number (first ∷ xs) x y apart (inl e) (inl f) same = sym e ∙ f
one_of number (first ∷ xs) x y apart (inl e) (inr k) same = absurd (all_has (λ z. number first ≢ number z) xs y apart.0 k (ap number e ∙ same))
one_of number (first ∷ xs) x y apart (inr h) (inl f) same = absurd (all_has (λ z. number first ≢ number z) xs x apart.0 h (ap number f ∙ sym same))
one_of number (first ∷ xs) x y apart (inr h) (inr k) same = one_of number xs x y apart.1 h k same

-- NUMBERED PIECES

pub numbered_from : {X : Type 0} (n : ℕ) (xs : List X) (e : ℕ × X) → Has (enumerate_from n xs) e → n ≤ e.0
numbered_from n [] e h = absurd h
numbered_from n (x ∷ xs) e (inl is) = let at : n ≡ e.0 = ap (λ (p : ℕ × _). p.0) is in omega (arith, at)
numbered_from n (x ∷ xs) e (inr h) = let later = numbered_from (n + 1) xs e h in omega (arith, later)

-- what is after the first
pub after_first : {X : Type 0} (n : ℕ) (y : X) (ys : List X) (e : ℕ × X) → n + 1 ≤ e.0 → Has (enumerate_from n (y ∷ ys)) e → Has (enumerate_from (n + 1) ys) e
after_first n y ys e later (inl is) = absurd (let at : n ≡ e.0 = ap (λ (p : ℕ × _). p.0) is in omega (arith, later, at))
after_first n y ys e later (inr h) = h

same_pieces : {X : Type 0} (n : ℕ) (xs ys : List X) → ((e : ℕ × X) → Has (enumerate_from n xs) e → Has (enumerate_from n ys) e)
    → ((e : ℕ × X) → Has (enumerate_from n ys) e → Has (enumerate_from n xs) e) → xs ≡ ys
same_pieces n [] [] to from = refl
same_pieces n [] (y ∷ ys) to from = absurd (from (n, y) (inl refl))
same_pieces n (x ∷ xs) [] to from = absurd (to (n, x) (inl refl))
same_pieces {X} n (x ∷ xs) (y ∷ ys) to from =
    let first : y ≡ x = elim (to (n, x) (inl refl)) [
      | inl is ↦ ap (λ (p : ℕ × X). p.1) is
      | inr h ↦ absurd (let later = numbered_from (n + 1) ys (n, x) h in omega (arith, later))
    ] in
    let rest = same_pieces (n + 1) xs ys
    (λ e h. after_first n y ys e (numbered_from (n + 1) xs e h) (to e (inr h)))
    (λ e h. after_first n x xs e (numbered_from (n + 1) ys e h) (from e (inr h))) in
    ap (λ w. w ∷ xs) (sym first) ∙ ap (λ ws. y ∷ ws) rest

-- FILES

same_files : {X : Type 0} (a b : List (List ℕ × X)) → AreRising (keys_of a) → AreRising (keys_of b) → ((e : List ℕ × X) → Has a e → Has b e) → ((e : List ℕ × X) → Has b e → Has a e) → a ≡ b
same_files {X} a b rising rises to from =
    let key = λ (entry : List ℕ × X). entry.0 in
    same_list (λ x y. slice_cmp nat_cmp (key x) (key y)) (λ x y. asymmetric nat_list_cmp_total (key x) (key y)) a b
    (sorted_by_key key (slice_cmp nat_cmp) a rising) (sorted_by_key key (slice_cmp nat_cmp) b rises) to from

-- THE SAME ROWS

pub same_transfer_row : (a b : ℤ) (s t : List ℕ) → ◌≡◌ {A = Row} (Int a ∷ Null ∷ Text s ∷ []) (Int b ∷ Null ∷ Text t ∷ []) → (a ≡ b) × (s ≡ t)
same_transfer_row a b s t e = (cc, cc)

same_tag_row : (a b : ℤ) (s t u v : List ℕ) → ◌≡◌ {A = Row} (Int a ∷ Text s ∷ Blob u ∷ []) (Int b ∷ Text t ∷ Blob v ∷ []) → (a ≡ b) × (s ≡ t) × (u ≡ v)
same_tag_row a b s t u v e = (cc, cc, cc)

pub same_held_row : (a b c d : ℤ) (s t : List ℕ) (m n : ℕ) → ◌≡◌ {A = Row} (Int a ∷ Null ∷ Int c ∷ Text s ∷ Int (pos m) ∷ []) (Int b ∷ Null ∷ Int d ∷ Text t ∷ Int (pos n) ∷ []) → (a ≡ b) × (c ≡ d) × (s ≡ t) × (m ≡ n)
same_held_row a b c d s t m n e = (cc, cc, cc, cc)

same_item_row : (a b c d : ℤ) (s t u v : List ℕ) (m n : ℕ) → ◌≡◌ {A = Row} (Int a ∷ Int c ∷ Text s ∷ Int (pos m) ∷ Blob u ∷ []) (Int b ∷ Int d ∷ Text t ∷ Int (pos n) ∷ Blob v ∷ []) → (a ≡ b) × (c ≡ d) × (s ≡ t) × (u ≡ v)
same_item_row a b c d s t u v m n e = (cc, cc, cc, cc)

pub same_piece_row : (a b : ℤ) (m n : ℕ) (s t : List ℕ) → ◌≡◌ {A = Row} (Int a ∷ Int (pos m) ∷ Blob s ∷ []) (Int b ∷ Int (pos n) ∷ Blob t ∷ []) → (a ≡ b) × (m ≡ n) × (s ≡ t)
same_piece_row a b m n s t e = (cc, cc, cc)

-- LEDGERS ON THE SAME TABLES

abbrev number_of : NumberedTransfer → ℤ
number_of transfer = transfer.number

abbrev item_number : NumberedItem → ℤ
item_number item = item.number

abbrev pub read : NumberedItem → List ℕ × List ℕ
read item = (item.path, concat item.pieces)

module _ {l : Layout} (trees : Trees) (a b : Ledger) (p : HoldTransfers l trees a) (q : HoldTransfers l trees b) where
  tags_inside : (t u : NumberedTransfer) → Has p.transfers t → Has q.transfers u → t.number ≡ u.number → (file : List ℕ × List ℕ) → Has t.tags file → Has u.tags file
  tags_inside t u in_p in_q same file has =
      let row : Row = Int t.number ∷ Text file.0 ∷ Blob file.1 ∷ [] in
      let mine = has_flat tag_rows p.transfers t row in_p (has_map (λ (f : List ℕ × List ℕ). Int t.number ∷ Text f.0 ∷ Blob f.1 ∷ []) t.tags file has) in
      let yours = has_from_flat tag_rows q.transfers row (has_through (flat_map tag_rows p.transfers) (without_rowids (trees 4)) (flat_map tag_rows q.transfers) row p.rows.tags q.rows.tags mine) in
      let v = yours.0 in
      let found = has_from_map (λ (f : List ℕ × List ℕ). Int v.number ∷ Text f.0 ∷ Blob f.1 ∷ []) v.tags row yours.2 in
      let rows = same_tag_row v.number t.number found.0.0 file.0 found.0.1 file.1 found.2 in
      let is : found.0 ≡ file = λ i. (rows.1 i, rows.2 i) in
      let one : v ≡ u = one_of number_of q.transfers v u q.numbers yours.1 in_q (rows.0 ∙ same) in
      subst (λ (w : NumberedTransfer). Has w.tags file) one (subst (Has v.tags) is found.1)

  -- the transfer of the other ledger with the same number
  other_of : (t : NumberedTransfer) → Has p.transfers t → (u : NumberedTransfer) × Has q.transfers u × (u.number ≡ t.number) × (u.name ≡ t.name)
  other_of t in_p =
      let mine = has_map transfer_row p.transfers t in_p in
      let yours = has_from_map transfer_row q.transfers (transfer_row t) (has_through (map transfer_row p.transfers) (trees 2) (map transfer_row q.transfers) (transfer_row t) p.rows.transfers q.rows.transfers mine) in
      let rows = same_transfer_row yours.0.number t.number yours.0.name t.name yours.2 in
      (yours.0, yours.1, rows.0, rows.1)

-- IN FORMAT 2

module _ {o : Origin} (trees : Trees) (a b : Ledger) (p : HoldTransfers (Second o) trees a) (q : HoldTransfers (Second o) trees b) where
  pieces_inside : (i j : NumberedItem) → Has (items_in p.transfers) i → Has (items_in q.transfers) j → i.number ≡ j.number
      → (piece : ℕ × List ℕ) → Has (enumerate_from 0 i.pieces) piece → Has (enumerate_from 0 j.pieces) piece
  pieces_inside i j in_p in_q same piece has =
      let row : Row = Int i.number ∷ Int (pos piece.0) ∷ Blob piece.1 ∷ [] in
      let mine = has_flat piece_rows (items_in p.transfers) i row in_p (has_map (λ (x : ℕ × List ℕ). Int i.number ∷ Int (pos x.0) ∷ Blob x.1 ∷ []) (enumerate_from 0 i.pieces) piece has) in
      let yours = has_from_flat piece_rows (items_in q.transfers) row
      (has_through (flat_map piece_rows (items_in p.transfers)) (without_rowids (trees (piece_tree o))) (flat_map piece_rows (items_in q.transfers)) row p.rows.items.pieces q.rows.items.pieces mine) in
      let v = yours.0 in
      let found = has_from_map (λ (x : ℕ × List ℕ). Int v.number ∷ Int (pos x.0) ∷ Blob x.1 ∷ []) (enumerate_from 0 v.pieces) row yours.2 in
      let rows = same_piece_row v.number i.number found.0.0 piece.0 found.0.1 piece.1 found.2 in
      let is : found.0 ≡ piece = λ k. (rows.1 k, rows.2 k) in
      let one : v ≡ j = one_of item_number (items_in q.transfers) v j q.item_numbers yours.1 in_q (rows.0 ∙ same) in
      subst (λ (w : NumberedItem). Has (enumerate_from 0 w.pieces) piece) one (subst (Has (enumerate_from 0 v.pieces)) is found.1)

module _ {o : Origin} (trees : Trees) (a b : Ledger) (p : HoldTransfers (Second o) trees a) (q : HoldTransfers (Second o) trees b) where
  second_inside : (t u : NumberedTransfer) → Has p.transfers t → Has q.transfers u → t.number ≡ u.number → (i : NumberedItem) → Has t.items i → Has (map read u.items) (read i)
  second_inside t u in_p in_q same i has =
      let row : Row = Int i.number ∷ Null ∷ Int t.number ∷ Text i.path ∷ Int (pos (size_of i)) ∷ [] in
      let mine = has_flat held_rows p.transfers t row in_p (has_map (λ (x : NumberedItem). Int x.number ∷ Null ∷ Int t.number ∷ Text x.path ∷ Int (pos (size_of x)) ∷ []) t.items i has) in
      let yours = has_from_flat held_rows q.transfers row (has_through (flat_map held_rows p.transfers) (trees (held_tree o)) (flat_map held_rows q.transfers) row p.rows.items.held q.rows.items.held mine) in
      let v = yours.0 in
      let found = has_from_map (λ (x : NumberedItem). Int x.number ∷ Null ∷ Int v.number ∷ Text x.path ∷ Int (pos (size_of x)) ∷ []) v.items row yours.2 in
      let j = found.0 in
      let rows = same_held_row j.number i.number v.number t.number j.path i.path (size_of j) (size_of i) found.2 in
      let one : v ≡ u = one_of number_of q.transfers v u q.numbers yours.1 in_q (rows.1 ∙ same) in
      let i_in : Has (items_in p.transfers) i = has_flat (λ (x : NumberedTransfer). x.items) p.transfers t i in_p has in
      let j_in : Has (items_in q.transfers) j = has_flat (λ (x : NumberedTransfer). x.items) q.transfers v j yours.1 found.1 in
      let pieces : i.pieces ≡ j.pieces = same_pieces 0 i.pieces j.pieces (pieces_inside trees a b p q i j i_in j_in (sym rows.0)) (pieces_inside trees b a q p j i j_in i_in rows.0) in
      let is : read j ≡ read i = λ k. (rows.2 k, concat (sym pieces k)) in
      subst (λ (w : NumberedTransfer). Has (map read w.items) (read i)) one (subst (Has (map read v.items)) is (has_map read v.items j found.1))

-- IN FORMAT 1

module _ (trees : Trees) (a b : Ledger) (p : HoldTransfers First trees a) (q : HoldTransfers First trees b) where
  first_inside : (t u : NumberedTransfer) → Has p.transfers t → Has q.transfers u → t.number ≡ u.number → (i : NumberedItem) → Has t.items i → Has (map read u.items) (read i)
  first_inside t u in_p in_q same i has =
      let row : Row = Int i.number ∷ Int t.number ∷ Text i.path ∷ Int (pos (size_of i)) ∷ Blob (concat i.pieces) ∷ [] in
      let mine = has_flat item_rows p.transfers t row in_p (has_map (λ (x : NumberedItem). Int x.number ∷ Int t.number ∷ Text x.path ∷ Int (pos (size_of x)) ∷ Blob (concat x.pieces) ∷ []) t.items i has) in
      let yours = has_from_flat item_rows q.transfers row (has_through (flat_map item_rows p.transfers) (trees item_tree) (flat_map item_rows q.transfers) row p.rows.items q.rows.items mine) in
      let v = yours.0 in
      let found = has_from_map (λ (x : NumberedItem). Int x.number ∷ Int v.number ∷ Text x.path ∷ Int (pos (size_of x)) ∷ Blob (concat x.pieces) ∷ []) v.items row yours.2 in
      let j = found.0 in
      let rows = same_item_row j.number i.number v.number t.number j.path i.path (concat j.pieces) (concat i.pieces) (size_of j) (size_of i) found.2 in
      let one : v ≡ u = one_of number_of q.transfers v u q.numbers yours.1 in_q (rows.1 ∙ same) in
      let is : read j ≡ read i = λ k. (rows.2 k, rows.3 k) in
      subst (λ (w : NumberedTransfer). Has (map read w.items) (read i)) one (subst (Has (map read v.items)) is (has_map read v.items j found.1))

-- EACH ENTRY OF ONE LEDGER IS IN THE OTHER

-- in either format
item_inside : {l : Layout} (trees : Trees) (a b : Ledger) (p : HoldTransfers l trees a) (q : HoldTransfers l trees b) (t u : NumberedTransfer) → Has p.transfers t → Has q.transfers u → t.number ≡ u.number
    → (i : NumberedItem) → Has t.items i → Has (map read u.items) (read i)
item_inside {l = First} trees a b p q = first_inside trees a b p q
item_inside {l = Second o} trees a b p q = second_inside trees a b p q

module _ {l : Layout} (trees : Trees) (a b : Ledger) (p : HoldTransfers l trees a) (q : HoldTransfers l trees b) where
  items_inside : (t u : NumberedTransfer) → Has p.transfers t → Has q.transfers u → t.number ≡ u.number → (e : List ℕ × List ℕ) → Has (map read t.items) e → Has (map read u.items) e
  items_inside t u in_p in_q same e has =
      let found = has_from_map read t.items e has in
      subst (Has (map read u.items)) found.2 (item_inside trees a b p q t u in_p in_q same found.0 found.1)

-- the files of a transfer in a ledger are in order
pub tags_rise : {l : Layout} (trees : Trees) (a : Ledger) (p : HoldTransfers l trees a) (t : NumberedTransfer) → Has p.transfers t → AreRising (keys_of t.tags)
tags_rise trees a p t has =
    all_has (λ (e : List ℕ × Transfer). AreRising (keys_of e.1.tags)) (map without_number p.transfers) (without_number t)
    (subst (AllByRecursion (λ (e : List ℕ × Transfer). AreRising (keys_of e.1.tags))) p.is p.order.tags) (has_map without_number p.transfers t has)

pub items_rise : {l : Layout} (trees : Trees) (a : Ledger) (p : HoldTransfers l trees a) (t : NumberedTransfer) → Has p.transfers t → AreRising (keys_of (map read t.items))
items_rise trees a p t has =
    all_has (λ (e : List ℕ × Transfer). AreRising (keys_of e.1.items)) (map without_number p.transfers) (without_number t)
    (subst (AllByRecursion (λ (e : List ℕ × Transfer). AreRising (keys_of e.1.items))) p.is p.order.items) (has_map without_number p.transfers t has)

entry_inside : {l : Layout} (trees : Trees) (a b : Ledger) → HoldTransfers l trees a → HoldTransfers l trees b → (e : List ℕ × Transfer) → Has a e → Has b e
entry_inside trees a b p q e has =
    let mine = has_from_map without_number p.transfers e (subst (λ l. Has l e) p.is has) in
    let t = mine.0 in
    let other = other_of trees a b p q t mine.1 in
    let u = other.0 in
    let tags : t.tags ≡ u.tags = same_files t.tags u.tags (tags_rise trees a p t mine.1) (tags_rise trees b q u other.1)
    (tags_inside trees a b p q t u mine.1 other.1 (sym other.2)) (tags_inside trees b a q p u t other.1 mine.1 other.2) in
    let items : map read t.items ≡ map read u.items = same_files (map read t.items) (map read u.items) (items_rise trees a p t mine.1) (items_rise trees b q u other.1)
    (items_inside trees a b p q t u mine.1 other.1 (sym other.2)) (items_inside trees b a q p u t other.1 mine.1 other.2) in
    let same : without_number u ≡ without_number t = λ i. (other.3 i, record { tags = sym tags i; items = sym items i }) in
    subst (λ l. Has l e) (sym q.is) (subst (Has (map without_number q.transfers)) (same ∙ mine.2) (has_map without_number q.transfers u other.1))

pub one_ledger : {l : Layout} (trees : Trees) (a b : Ledger) → HoldTransfers l trees a → HoldTransfers l trees b → a ≡ b
one_ledger trees a b p q = same_files a b p.order.names q.order.names (entry_inside trees a b p q) (entry_inside trees b a q p)
