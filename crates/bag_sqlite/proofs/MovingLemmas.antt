-- The payload files of a ledger of format 1, moved one after another.
use Rattle.std.proofs.Common.{◌≡◌, ◌≢◌, ◌∙◌, ◌<◌, ◌+◌, ℕ, ℤ, suc, List, [], ◌∷◌, ◌++◌, append-nil, ap, arith, get_or, length, map, refl, subst, sym, take}
use Rattle.bag_sqlite.proofs.Words.{AllByRecursion, AreApart, AreCut, column, concat, First, flat_map, HasContentMore, held_rows, held_tree, HoldTransfers, Int, IsFree, IsPermutation, IsPermutation-append_right, IsPermutation-cons, IsPermutation-flat_map, IsPermutation-map, IsPermutation-middle, IsPermutation-refl, IsPermutation-sym, IsPermutation-trans, item_row, items_in, KeepsTransfers, Ledger, map-append, Migrated, NumberedItem, NumberedTransfer, piece_rows, piece_tree, Row, Second, size_of, tag_rows, take-suc, transfer_row, Trees, without_number, without_rowids}
use Rattle.bag_sqlite.proofs.BodyLemmas.{Owned, owned, owned_items, owned_map}
use Rattle.bag_sqlite.proofs.InsertLemmas.{apart_from}
use Rattle.bag_sqlite.proofs.LayoutLemmas.{keeps_transfers_same, keeps_transfers_then}
use Rattle.bag_sqlite.proofs.OneLedger.{read}
use Rattle.bag_sqlite.proofs.PermutationLemmas.{all_permuted, apart_permuted, lifted}

-- MOVED PAYLOAD FILES

-- one as it was and as it is now: of the same transfer, with the same path and content
abbrev pub Pair : Type 0
Pair = Owned × Owned

abbrev pub IsSame : Pair → Type 0
IsSame p = (p.1.0 ≡ p.0.0) × (read p.1.1 ≡ read p.0.1)

abbrev pub befores : List Pair → List Owned
befores pairs = map (λ (p : Pair). p.0) pairs

abbrev pub afters : List Pair → List Owned
afters pairs = map (λ (p : Pair). p.1) pairs

abbrev held_of : Owned → Row
held_of o = item_row o.1.number o.0 o.1.path (size_of o.1)

abbrev pieces_of : Owned → List Row
pieces_of o = piece_rows o.1

abbrev number_in : Owned → ℤ
number_in o = o.1.number

-- these were moved so far
pub record HaveMoved (old now : Trees) (taken : List Owned) : Type 0 where
  pub pairs : List Pair
  pub same : AllByRecursion IsSame pairs
  pub taken_are : IsPermutation (befores pairs) taken
  pub apart : AreApart number_in (afters pairs)
  pub cut : AllByRecursion (λ (o : Owned). AreCut o.1.pieces) (afters pairs)
  pub kept : KeepsTransfers Migrated old now
  pub held : IsPermutation (map held_of (afters pairs)) (now (held_tree Migrated))
  pub pieces : IsPermutation (flat_map pieces_of (afters pairs)) (without_rowids (now (piece_tree Migrated)))

pub none_moved : (old : Trees) → old (held_tree Migrated) ≡ [] → old (piece_tree Migrated) ≡ [] → HaveMoved old old []
none_moved old no_held no_pieces = record {
  pairs = [];
  same = tt;
  taken_are = IsPermutation-refl [];
  apart = tt;
  cut = tt;
  kept = keeps_transfers_same Migrated old;
  held = subst (IsPermutation []) (sym no_held) (IsPermutation-refl []);
  pieces = subst (λ rows. IsPermutation [] (without_rowids rows)) (sym no_pieces) (IsPermutation-refl []);
}

-- no payload file that was moved has a free number
unlike : (number : ℤ) (rows : List Row) (os : List Owned) → IsFree number rows → IsPermutation (map held_of os) rows → AllByRecursion (λ (o : Owned). number ≢ number_in o) os
unlike number rows os free moves = go os (all_permuted (λ row. column row 0 ≢ Int number) rows (map held_of os) (IsPermutation-sym _ _ moves) (apart_from number rows free))
  where
    go : (os : List Owned) → AllByRecursion (λ row. column row 0 ≢ Int number) (map held_of os) → AllByRecursion (λ (o : Owned). number ≢ number_in o) os
    go [] all = tt
    go (o ∷ os) all = ((λ same. all.0 (ap Int (sym same))), go os all.1)

pub one_moved : (old mid now : Trees) (taken : List Owned) (o : Owned) → HaveMoved old mid taken → HasContentMore Migrated mid now o.0 o.1.path (concat o.1.pieces) → HaveMoved old now (taken ++ o ∷ [])
one_moved old mid now taken o so_far more =
    let item : NumberedItem = record { number = more.number; path = o.1.path; pieces = more.pieces } in
    let new : Owned = (o.0, item) in
    let rest = afters so_far.pairs in
    let back = IsPermutation-sym (taken ++ o ∷ []) (o ∷ (taken ++ [])) (IsPermutation-middle taken o []) in
    let front : IsPermutation (o ∷ taken) (taken ++ o ∷ []) = subst (λ l. IsPermutation (o ∷ l) (taken ++ o ∷ [])) (append-nil taken) back in
    record {
      pairs = (o, new) ∷ so_far.pairs;
      same = ((refl, λ i. (o.1.path, more.joined i)), so_far.same);
      taken_are = IsPermutation-trans _ (o ∷ taken) (taken ++ o ∷ []) (IsPermutation-cons o (befores so_far.pairs) taken so_far.taken_are) front;
      apart = (unlike more.number (mid (held_tree Migrated)) rest more.more.fresh so_far.held, so_far.apart);
      cut = (more.cut, so_far.cut);
      kept = keeps_transfers_then Migrated old mid now so_far.kept more.more.kept;
      held = IsPermutation-trans _ _ (now (held_tree Migrated)) (IsPermutation-cons (held_of new) (map held_of rest) (mid (held_tree Migrated)) so_far.held) more.more.held;
      pieces = IsPermutation-trans _ _ (without_rowids (now (piece_tree Migrated))) (IsPermutation-append_right (pieces_of new) (flat_map pieces_of rest) (without_rowids (mid (piece_tree Migrated))) so_far.pieces) more.more.pieces;
    }

-- THE TRANSFERS OF MOVED PAYLOAD FILES

-- what was computed from two lists in sequence
split_map : {X Y : Type 0} (f : X → Y) (ls ms : List Y) (xs : List X) → map f xs ≡ ls ++ ms → (ys : List X) × (zs : List X) × (xs ≡ ys ++ zs) × (map f ys ≡ ls) × (map f zs ≡ ms)
split_map f [] ms xs is = ([], xs, refl, refl, is)
split_map f (a ∷ ls) ms [] is = absurd cc
split_map f (a ∷ ls) ms (x ∷ xs) is =
    let first : f x ≡ a = cc in
    let rest : map f xs ≡ ls ++ ms = cc in
    let it = split_map f ls ms xs rest in
    (x ∷ it.0, it.1, ap (λ l. x ∷ l) it.2, (λ i. first i ∷ it.3 i), it.4)

all_split : {X : Type 0} (P : X → Type 0) (xs ys : List X) → AllByRecursion P (xs ++ ys) → AllByRecursion P xs × AllByRecursion P ys
all_split P [] ys all = (tt, all)
all_split P (x ∷ xs) ys all = let it = all_split P xs ys all.1 in ((all.0, it.0), it.1)

-- the payload files as they are now
abbrev items_now : List Pair → List NumberedItem
items_now pairs = map (λ (p : Pair). p.1.1) pairs

-- those of one transfer
one_group : (n : ℤ) (items : List NumberedItem) (pairs : List Pair) → befores pairs ≡ map (λ (item : NumberedItem). (n, item)) items → AllByRecursion IsSame pairs
    → (map (λ (item : NumberedItem). (n, item)) (items_now pairs) ≡ afters pairs) × (map read (items_now pairs) ≡ map read items)
one_group n [] [] is same = (refl, refl)
one_group n [] (p ∷ pairs) is same = absurd cc
one_group n (item ∷ items) [] is same = absurd cc
one_group n (item ∷ items) (p ∷ pairs) is same =
    let first : p.0 ≡ (n, item) = cc in
    let rest : befores pairs ≡ map (λ (i : NumberedItem). (n, i)) items = cc in
    let it = one_group n items pairs rest same.1 in
    let number : p.1.0 ≡ n = same.0.0 ∙ ap (λ (o : Owned). o.0) first in
    let reads : read p.1.1 ≡ read item = same.0.1 ∙ ap (λ (o : Owned). read o.1) first in
    ((λ i. (sym number i, p.1.1) ∷ it.0 i), (λ i. reads i ∷ it.1 i))

-- transfers with these payload files in place of the others
pub record AreRegrouped (ts : List NumberedTransfer) (moved : List Owned) : Type 0 where
  pub transfers : List NumberedTransfer
  pub owned_are : owned transfers ≡ moved
  pub numbers : map (λ (t : NumberedTransfer). t.number) transfers ≡ map (λ (t : NumberedTransfer). t.number) ts
  pub rows : map transfer_row transfers ≡ map transfer_row ts
  pub tags : flat_map tag_rows transfers ≡ flat_map tag_rows ts
  pub ledger : map without_number transfers ≡ map without_number ts

regrouped : (ts : List NumberedTransfer) (pairs : List Pair) → befores pairs ≡ owned ts → AllByRecursion IsSame pairs → AreRegrouped ts (afters pairs)
regrouped [] [] is same = record { transfers = []; owned_are = refl; numbers = refl; rows = refl; tags = refl; ledger = refl }
regrouped [] (p ∷ pairs) is same = absurd cc
regrouped (t ∷ ts) pairs is same =
    let (here, later, split, own, others) = split_map (λ (p : Pair). p.0) (map (λ (item : NumberedItem). (t.number, item)) t.items) (owned ts) pairs is in
    let both = all_split IsSame here later (subst (AllByRecursion IsSame) split same) in
    let group = one_group t.number t.items here own both.0 in
    let rest = regrouped ts later others both.1 in
    let u : NumberedTransfer = record t { items = items_now here } in
    let entry : without_number u ≡ without_number t = λ i. (t.name, record { tags = t.tags; items = group.1 i }) in
    record {
      transfers = u ∷ rest.transfers;
      owned_are = (λ i. group.0 i ++ rest.owned_are i) ∙ sym (map-append (λ (p : Pair). p.1) here later) ∙ ap afters (sym split);
      numbers = ap (λ l. t.number ∷ l) rest.numbers;
      rows = ap (λ l. transfer_row t ∷ l) rest.rows;
      tags = ap (λ l. tag_rows t ++ l) rest.tags;
      ledger = λ i. entry i ∷ rest.ledger i;
    }

same_apart : {X : Type 0} (number : X → ℤ) (xs ys : List X) → map number xs ≡ map number ys → AreApart number ys → AreApart number xs
same_apart number [] ys is apart = tt
same_apart number (x ∷ xs) [] is apart = absurd cc
same_apart number (x ∷ xs) (y ∷ ys) is apart =
    let first : number x ≡ number y = cc in
    let rest : map number xs ≡ map number ys = cc in
    (below first xs ys rest apart.0, same_apart number xs ys rest apart.1)
  where
    below : number x ≡ number y → (xs ys : List _) → map number xs ≡ map number ys → AllByRecursion (λ z. number y ≢ number z) ys → AllByRecursion (λ z. number x ≢ number z) xs
    below first [] ys is all = tt
    below first (z ∷ zs) [] is all = absurd cc
    below first (z ∷ zs) (w ∷ ws) is all =
        let one : number z ≡ number w = cc in
        let more : map number zs ≡ map number ws = cc in
        ((λ same. all.0 (sym first ∙ same ∙ one)), below first zs ws more all.1)

apart_from_owned : (os : List Owned) → AreApart number_in os → AreApart (λ (item : NumberedItem). item.number) (map (λ (o : Owned). o.1) os)
apart_from_owned [] apart = tt
apart_from_owned (o ∷ os) apart = (below os apart.0, apart_from_owned os apart.1)
  where
    below : (os : List Owned) → AllByRecursion (λ p. number_in o ≢ number_in p) os → AllByRecursion (λ (item : NumberedItem). o.1.number ≢ item.number) (map (λ (p : Owned). p.1) os)
    below [] all = tt
    below (p ∷ os) all = (all.0, below os all.1)

cut_from_owned : (os : List Owned) → AllByRecursion (λ (o : Owned). AreCut o.1.pieces) os → AllByRecursion (λ (item : NumberedItem). AreCut item.pieces) (map (λ (o : Owned). o.1) os)
cut_from_owned [] all = tt
cut_from_owned (o ∷ os) all = (all.0, cut_from_owned os all.1)

flat_of_map : {X Y Z : Type 0} (f : X → Y) (g : Y → List Z) (xs : List X) → flat_map g (map f xs) ≡ flat_map (λ x. g (f x)) xs
flat_of_map f g [] = refl
flat_of_map f g (x ∷ xs) = ap (λ l. g (f x) ++ l) (flat_of_map f g xs)

-- once all payload files were moved, the tables of format 2 hold the ledger that those of format 1 hold
pub all_moved : (old now : Trees) (ledger : Ledger) (tables : HoldTransfers First old ledger) (order : List Owned) → IsPermutation (owned tables.transfers) order → HaveMoved old now order → HoldTransfers (Second Migrated) now ledger
all_moved old now ledger tables order ordered moved =
    let ts = tables.transfers in
    let back = IsPermutation-trans (befores moved.pairs) order (owned ts) moved.taken_are (IsPermutation-sym (owned ts) order ordered) in
    let lift = lifted (λ (p : Pair). p.0) moved.pairs (owned ts) back in
    let pairs = lift.moved in
    let group = regrouped ts pairs lift.is (all_permuted IsSame moved.pairs pairs lift.same moved.same) in
    let us = group.transfers in
    let now_are : IsPermutation (afters moved.pairs) (afters pairs) = IsPermutation-map (λ (p : Pair). p.1) moved.pairs pairs lift.same in
    let then_are = IsPermutation-sym (afters moved.pairs) (afters pairs) now_are in
    let items : items_in us ≡ map (λ (o : Owned). o.1) (afters pairs) = sym (owned_items us) ∙ ap (map (λ (o : Owned). o.1)) group.owned_are in
    let held : flat_map held_rows us ≡ map held_of (afters pairs) = sym (owned_map (λ n item. held_of (n, item)) us) ∙ ap (map held_of) group.owned_are in
    let pieces : flat_map piece_rows (items_in us) ≡ flat_map pieces_of (afters pairs) = ap (flat_map piece_rows) items ∙ flat_of_map (λ (o : Owned). o.1) piece_rows (afters pairs) in
    record {
      transfers = us;
      rows = record {
        transfers = subst (IsPermutation (map transfer_row us)) (sym moved.kept.transfers) (subst (λ l. IsPermutation l (old 2)) (sym group.rows) tables.rows.transfers);
        tags = subst (λ rows. IsPermutation (flat_map tag_rows us) (without_rowids rows)) (sym moved.kept.tags) (subst (λ l. IsPermutation l (without_rowids (old 4))) (sym group.tags) tables.rows.tags);
        items = record {
          held = subst (λ l. IsPermutation l (now (held_tree Migrated))) (sym held)
              (IsPermutation-trans _ (map held_of (afters moved.pairs)) (now (held_tree Migrated)) (IsPermutation-map held_of (afters pairs) (afters moved.pairs) then_are) moved.held);
          pieces = subst (λ l. IsPermutation l (without_rowids (now (piece_tree Migrated)))) (sym pieces)
              (IsPermutation-trans _ (flat_map pieces_of (afters moved.pairs)) (without_rowids (now (piece_tree Migrated))) (IsPermutation-flat_map pieces_of (afters pairs) (afters moved.pairs) then_are) moved.pieces);
        };
      };
      numbers = same_apart (λ (t : NumberedTransfer). t.number) us ts group.numbers tables.numbers;
      item_numbers = subst (AreApart (λ (item : NumberedItem). item.number)) (sym items) (apart_from_owned (afters pairs) (apart_permuted number_in (afters moved.pairs) (afters pairs) now_are moved.apart));
      cut = subst (AllByRecursion (λ (item : NumberedItem). AreCut item.pieces)) (sym items) (cut_from_owned (afters pairs) (all_permuted (λ (o : Owned). AreCut o.1.pieces) (afters moved.pairs) (afters pairs) now_are moved.cut));
      is = tables.is ∙ sym group.ledger;
      order = tables.order;
    }

-- IN SEQUENCE

-- one more of a list
pub taken_more : (xs : List Owned) (i : ℕ) (x : Owned) → i < length xs → x ≡ get_or xs i x → take (i + 1) xs ≡ take i xs ++ x ∷ []
taken_more xs i x low at =
    let next : i + 1 ≡ suc i = omega arith in
    rw next (take-suc xs i x low) ∙ ap (λ y. take i xs ++ y ∷ []) (sym at)
