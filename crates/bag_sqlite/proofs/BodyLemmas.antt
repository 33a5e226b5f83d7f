-- The content of a payload file in format 1, in its row.
use Rattle.std.proofs.Common.{◌≡◌, ◌≢◌, ◌∙◌, ℕ, ℤ, List, [], ◌∷◌, ◌++◌, false, true, ap, inl, inr, is_eq, map, pos, refl, subst, sym}
use Rattle.bag_sqlite.proofs.Words.{all_weaker, AllByRecursion, AreApart, Blob, column, concat, filter, filter_none, First, flat_map, Has, has_rowid, HasBody, HoldTransfers, Int, IsFree, IsPermutation, IsPermutation-filter, IsPermutation-middle, IsPermutation-sym, IsPermutation-trans, item_rows, item_tree, items_in, Ledger, map_twice, map-append, none_from_any, NumberedItem, NumberedTransfer, one_permutation, Output, Row, size_of, Text, Trees, value_cmp-Int, whole_row}
use Rattle.bag_sqlite.proofs.AdoptingMeanings.{body_columns, body_where}
use Rattle.bag_sqlite.proofs.CutLemmas.{length_concat}
use Rattle.bag_sqlite.proofs.RowLemmas.{untested}
use Rattle.bag_sqlite.proofs.WhereLemmas.{Lists, equal_numbers, made, other_number, passes, same_number}
use Rattle.std.proofs.Math.Bool.{and-true}

-- THE QUERY FOR A CONTENT

module _ (trees : Trees) (item transfer : ℤ) (path content : List ℕ) (body : HasBody trees item transfer path content) where
  abbrev was : Row
  was = whole_row item transfer path content

  -- it shows the content of the row with this number
  pub one_body : (rows : List Row) → Lists 6 body_where body_columns [] (Int item ∷ []) (trees 6) rows → rows ≡ (Blob content ∷ []) ∷ []
  one_body rows lists =
      let test = passes body_where (Int item ∷ []) in
      let here : test was ≡ true = and-true _ ∙ equal_numbers item item ∙ same_number item item refl in
      let apart : AllByRecursion (λ (row : Row). has_rowid item row ≡ false) body.others = none_from_any (has_rowid item) body.others body.free in
      let none = filter_none test body.others (all_weaker (λ (row : Row). has_rowid item row ≡ false) (λ (row : Row). test row ≡ false) (λ row other. and-true _ ∙ untested (column row 0) item other) body.others apart) in
      let kept : filter test (was ∷ body.others) ≡ was ∷ [] = rw (here, none) refl in
      let moved = subst (λ l. IsPermutation l (filter test (trees 6))) kept (IsPermutation-filter test (was ∷ body.others) (trees 6) body.rows) in
      let one = one_permutation was (filter test (trees 6)) moved in
      let show = made 6 body_where body_columns [] (Int item ∷ []) in
      let ordered = one_permutation (show was) lists.ordered (subst (λ l. IsPermutation (map show l) lists.ordered) one lists.same) in
      lists.shown ∙ ap (map (λ (o : Output). o.1)) ordered

-- THE PAYLOAD FILES WITH THE NUMBERS OF THEIR TRANSFERS

abbrev pub Owned : Type 0
Owned = ℤ × NumberedItem

abbrev owned_by : NumberedTransfer → List Owned
owned_by t = map (λ (item : NumberedItem). (t.number, item)) t.items

abbrev pub owned : List NumberedTransfer → List Owned
owned ts = flat_map owned_by ts

-- what is computed from a payload file and the number of its transfer
pub owned_map : {X : Type 0} (f : ℤ → NumberedItem → X) (ts : List NumberedTransfer) → map (λ (o : Owned). f o.0 o.1) (owned ts) ≡ flat_map (λ (t : NumberedTransfer). map (f t.number) t.items) ts
owned_map f [] = refl
owned_map f (t ∷ ts) =
    map-append (λ (o : Owned). f o.0 o.1) (owned_by t) (owned ts)
    ∙ ap (λ l. l ++ map (λ (o : Owned). f o.0 o.1) (owned ts)) (map_twice (λ (item : NumberedItem). (t.number, item)) (λ (o : Owned). f o.0 o.1) t.items)
    ∙ ap (λ l. map (f t.number) t.items ++ l) (owned_map f ts)

map_itself : {X : Type 0} (xs : List X) → map (λ x. x) xs ≡ xs
map_itself [] = refl
map_itself (x ∷ xs) = ap (λ l. x ∷ l) (map_itself xs)

flat_same : {X Y : Type 0} (f g : X → List Y) → ((x : X) → f x ≡ g x) → (xs : List X) → flat_map f xs ≡ flat_map g xs
flat_same f g same [] = refl
flat_same f g same (x ∷ xs) = ap (λ l. l ++ flat_map f xs) (same x) ∙ ap (λ l. g x ++ l) (flat_same f g same xs)

pub owned_items : (ts : List NumberedTransfer) → map (λ (o : Owned). o.1) (owned ts) ≡ items_in ts
owned_items ts = owned_map (λ n item. item) ts ∙ flat_same (λ (t : NumberedTransfer). map (λ item. item) t.items) (λ (t : NumberedTransfer). t.items) (λ t. map_itself t.items) ts

-- THE ROW OF EACH

abbrev pub row_of_whole : Owned → Row
row_of_whole o = Int o.1.number ∷ Int o.0 ∷ Text o.1.path ∷ Int (pos (size_of o.1)) ∷ Blob (concat o.1.pieces) ∷ []

pub whole_rows : (ts : List NumberedTransfer) → map row_of_whole (owned ts) ≡ flat_map item_rows ts
whole_rows ts = owned_map (λ n item. row_of_whole (n, item)) ts

as_whole : (o : Owned) → row_of_whole o ≡ whole_row o.1.number o.0 o.1.path (concat o.1.pieces)
as_whole o = ap (λ size. Int o.1.number ∷ Int o.0 ∷ Text o.1.path ∷ Int (pos size) ∷ Blob (concat o.1.pieces) ∷ []) (sym (length_concat o.1.pieces))

split_at : {X : Type 0} (xs : List X) (x : X) → Has xs x → (fore : List X) × (back : List X) × (xs ≡ fore ++ x ∷ back)
split_at [] x has = absurd has
split_at (y ∷ xs) x (inl is) = ([], xs, ap (λ z. z ∷ xs) is)
split_at (y ∷ xs) x (inr has) = let it = split_at xs x has in (y ∷ it.0, it.1, ap (λ zs. y ∷ zs) it.2)

abbrev number_in : Owned → ℤ
number_in o = o.1.number

module _ (x : Owned) where
  -- the others have other numbers
  apart_around : (fore back : List Owned) → AreApart number_in (fore ++ x ∷ back) → AllByRecursion (λ o. number_in o ≢ number_in x) (fore ++ back)
  apart_around [] back apart = all_weaker (λ o. number_in x ≢ number_in o) (λ o. number_in o ≢ number_in x) (λ o other same. other (sym same)) back apart.0
  apart_around (o ∷ fore) back apart = (first fore back apart.0, apart_around fore back apart.1)
    where
      first : (fore back : List Owned) → AllByRecursion (λ p. number_in o ≢ number_in p) (fore ++ x ∷ back) → number_in o ≢ number_in x
      first [] back all = all.0
      first (p ∷ fore) back all = first fore back all.1

  free_among : (os : List Owned) → AllByRecursion (λ o. number_in o ≢ number_in x) os → IsFree (number_in x) (map row_of_whole os)
  free_among [] all = refl
  free_among (o ∷ os) all = rw (ap is_eq (value_cmp-Int (number_in o) (number_in x)) ∙ other_number (number_in o) (number_in x) all.0) (free_among os all.1)

apart_owned : (os : List Owned) → AreApart (λ (item : NumberedItem). item.number) (map (λ (o : Owned). o.1) os) → AreApart number_in os
apart_owned [] apart = tt
apart_owned (o ∷ os) apart = (below os apart.0, apart_owned os apart.1)
  where
    below : (os : List Owned) → AllByRecursion (λ (item : NumberedItem). o.1.number ≢ item.number) (map (λ (p : Owned). p.1) os) → AllByRecursion (λ p. number_in o ≢ number_in p) os
    below [] all = tt
    below (p ∷ os) all = (all.0, below os all.1)

module _ (trees : Trees) (ledger : Ledger) (tables : HoldTransfers First trees ledger) where
  pub whole_permuted : IsPermutation (map row_of_whole (owned tables.transfers)) (trees item_tree)
  whole_permuted = subst (λ l. IsPermutation l (trees item_tree)) (sym (whole_rows tables.transfers)) tables.rows.items

  pub has_body : (o : Owned) → Has (owned tables.transfers) o → HasBody trees o.1.number o.0 o.1.path (concat o.1.pieces)
  has_body o has =
      let (fore, back, split) = split_at (owned tables.transfers) o has in
      let apart = subst (AreApart number_in) split (apart_owned (owned tables.transfers) (subst (AreApart (λ (item : NumberedItem). item.number)) (sym (owned_items tables.transfers)) tables.item_numbers)) in
      let others = map row_of_whole (fore ++ back) in
      let front = map row_of_whole fore in
      let rest = map row_of_whole back in
      let many : map row_of_whole (owned tables.transfers) ≡ front ++ row_of_whole o ∷ rest = ap (map row_of_whole) split ∙ map-append row_of_whole fore (o ∷ back) in
      let moved : IsPermutation (row_of_whole o ∷ (front ++ rest)) (trees item_tree) =
      IsPermutation-trans _ _ (trees item_tree) (IsPermutation-sym _ _ (IsPermutation-middle front (row_of_whole o) rest)) (subst (λ l. IsPermutation l (trees item_tree)) many whole_permuted) in
      record {
        others = others;
        free = free_among o (fore ++ back) (apart_around o fore back apart);
        rows = subst (λ l. IsPermutation (whole_row o.1.number o.0 o.1.path (concat o.1.pieces) ∷ l) (trees item_tree)) (sym (map-append row_of_whole fore back))
            (subst (λ r. IsPermutation (r ∷ (front ++ rest)) (trees item_tree)) (as_whole o) moved);
      }
