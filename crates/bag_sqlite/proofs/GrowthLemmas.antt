-- The tables of a ledger after a transfer is added.
use Rattle.std.proofs.Common.{◌≡◌, ◌≢◌, ℕ, Bool, true, false, List, [], ◌∷◌, ◌++◌, Option, Some, None, cond, is_eq, map, refl, sym, ap, subst, ◌∙◌, ℤ, Ordering, Equal, Greater, Less}
use Rattle.bag_sqlite.proofs.Words.{All-from_recursion, All-permutation, AllByRecursion, AreApart, AreRising, AreTablesOf, begun, bytes_eq, column, entry_rising, Files, flat_map, HasOneTransferMore, held_rows, HoldTransfers, insert_entry, Int, is_eq-slice_cmp, IsPermutation-append_right, IsPermutation-cons, IsPermutation-flat_map, IsPermutation-map, IsPermutation-middle, IsPermutation-sym, IsPermutation-trans, IsStrictlySortedBy, IsUnused, items_in, keys_of, Ledger, lookup, match_ordering, nat_cmp, NumberedTransfer, opened_under, Origin, recursion_from_All, Row, Second, slice_cmp, tag_rows, Transfer, transfer_row, Trees, with_transfer, without_number, without_rowids}
use Rattle.std.specs.Prelude.{IsPermutation}
use Rattle.bag_sqlite.proofs.LayoutLemmas.{still_moved}

-- ONE ENTRY ADDED IN THE MIDDLE

module _ {X : Type 0} (x : X) where
  flat_without : {Y : Type 0} (f : X → List Y) → f x ≡ [] → (fore bs : List X) → flat_map f (fore ++ x ∷ bs) ≡ flat_map f (fore ++ bs)
  flat_without f none [] bs = ap (λ ys. ys ++ flat_map f bs) none
  flat_without f none (a ∷ fore) bs = ap (λ ys. f a ++ ys) (flat_without f none fore bs)

  pub all_middle : (P : X → Type 0) (fore bs : List X) → P x → AllByRecursion P (fore ++ bs) → AllByRecursion P (fore ++ x ∷ bs)
  all_middle P [] bs new all = (new, all)
  all_middle P (a ∷ fore) bs new all = (all.0, all_middle P fore bs new all.1)

  all_mapped : {Y : Type 0} (f : X → Y) (P : Y → Type 0) (fore bs : List X) → P (f x) → AllByRecursion P (map f (fore ++ bs)) → AllByRecursion P (map f (fore ++ x ∷ bs))
  all_mapped f P [] bs new all = (new, all)
  all_mapped f P (a ∷ fore) bs new all = (all.0, all_mapped f P fore bs new all.1)

  turned : (number : X → ℤ) (xs : List X) → AllByRecursion (λ y. number y ≢ number x) xs → AllByRecursion (λ y. number x ≢ number y) xs
  turned number [] all = tt
  turned number (y ∷ ys) all = ((λ e. all.0 (sym e)), turned number ys all.1)

  pub apart_middle : (number : X → ℤ) (fore bs : List X) → AllByRecursion (λ y. number y ≢ number x) (fore ++ bs) → AreApart number (fore ++ bs) → AreApart number (fore ++ x ∷ bs)
  apart_middle number [] bs fresh apart = (turned number bs fresh, apart)
  apart_middle number (a ∷ fore) bs fresh apart = (all_middle (λ y. number a ≢ number y) fore bs fresh.0 apart.0, apart_middle number fore bs fresh.1 apart.1)

-- ITS PLACE

-- where an entry goes among others
pub record Place {X Y : Type 0} (entry : X → List ℕ × Y) (x : X) (us : List X) : Type 0 where
  pub before : List X
  pub after : List X
  pub split : us ≡ before ++ after
  pub put : insert_entry (slice_cmp nat_cmp) (map entry us) (entry x).0 (entry x).1 ≡ map entry (before ++ x ∷ after)

module _ {X Y : Type 0} (entry : X → List ℕ × Y) (x : X) where
  absent : (b : Bool) (v : Y) (o : Option Y) → cond b (Some v) o ≡ None → (b ≡ false) × (o ≡ None)
  absent true v o e = absurd cc
  absent false v o e = (refl, e)

  -- the entries with that of `x` added, whichever place it has in this order
  abbrev put_by : Ordering → X → List X → List (List ℕ × Y)
  put_by o u us = match_ordering o (entry x ∷ map entry (u ∷ us)) (((entry u).0, (entry x).1) ∷ map entry us) (entry u ∷ insert_entry (slice_cmp nat_cmp) (map entry us) (entry x).0 (entry x).1)

  step : (o : Ordering) (u : X) (us : List X) → slice_cmp nat_cmp (entry x).0 (entry u).0 ≡ o → bytes_eq (entry x).0 (entry u).0 ≡ false → Place entry x us → Place entry x (u ∷ us)
  step Less u us at other rest = record { before = []; after = u ∷ us; split = refl; put = ap (λ o. put_by o u us) at }
  step Equal u us at other rest = absurd (let same : true ≡ false = sym (ap is_eq at) ∙ is_eq-slice_cmp (entry x).0 (entry u).0 ∙ other in cc)
  step Greater u us at other rest = record {
    before = u ∷ rest.before;
    after = rest.after;
    split = ap (λ xs. u ∷ xs) rest.split;
    put = ap (λ o. put_by o u us) at ∙ ap (λ xs. entry u ∷ xs) rest.put;
  }

  pub place : (us : List X) → lookup (bytes_eq (entry x).0) (map entry us) ≡ None → Place entry x us
  place [] none = record { before = []; after = []; split = refl; put = refl }
  place (u ∷ us) none =
      let both = absent (bytes_eq (entry x).0 (entry u).0) (entry u).1 (lookup (bytes_eq (entry x).0) (map entry us)) none in
      step (slice_cmp nat_cmp (entry x).0 (entry u).0) u us refl both.0 (place us both.1)

-- ONE TRANSFER ADDED

module _ (number : ℤ) (name : List ℕ) (tags : Files) where
  abbrev more : NumberedTransfer
  more = opened_under number name tags

  apart_from_all : (us : List NumberedTransfer) → AllByRecursion (λ (row : Row). column row 0 ≢ Int number) (map transfer_row us) → AllByRecursion (λ (u : NumberedTransfer). u.number ≢ number) us
  apart_from_all [] all = tt
  apart_from_all (u ∷ us) all = ((λ e. all.0 (ap Int e)), apart_from_all us all.1)

module _ {o : Origin} (old new : Trees) (ledger : Ledger) (number : ℤ) (name : List ℕ) (tags : Files) where
  begun_transfers : (p : HoldTransfers (Second o) old ledger) → IsUnused name ledger → AreRising (keys_of tags) → HasOneTransferMore o old new (more number name tags)
      → HoldTransfers (Second o) new (with_transfer ledger name tags)
  unfolding IsStrictlySortedBy
  begun_transfers p unused rising rows =
      let it = opened_under number name tags in
      let free = λ (row : Row). column row 0 ≢ Int number in
      let were = map transfer_row p.transfers in
      let fresh = apart_from_all number name tags p.transfers (recursion_from_All free were (All-permutation free (old 2) were (IsPermutation-sym were (old 2) p.rows.transfers) (All-from_recursion free (old 2) rows.fresh))) in
      let at = place without_number it p.transfers (subst (λ l. lookup (bytes_eq name) l ≡ None) p.is unused) in
      let fore = at.before in
      let bs = at.after in
      let all = fore ++ it ∷ bs in
      let is : with_transfer ledger name tags ≡ map without_number all = ap (λ l. insert_entry (slice_cmp nat_cmp) l name (begun tags)) p.is ∙ at.put in
      let middle = IsPermutation-middle fore it bs in
      let front : IsPermutation all (it ∷ p.transfers) = subst (λ us. IsPermutation all (it ∷ us)) (sym at.split) middle in
      let items : items_in all ≡ items_in p.transfers = flat_without it (λ (u : NumberedTransfer). u.items) refl fore bs ∙ ap items_in (sym at.split) in
      let kept : flat_map held_rows all ≡ flat_map held_rows p.transfers = flat_without it held_rows refl fore bs ∙ ap (flat_map held_rows) (sym at.split) in
      record {
        transfers = all;
        rows = record {
          transfers = IsPermutation-trans _ _ (new 2) (IsPermutation-map transfer_row all (it ∷ p.transfers) front)
              (IsPermutation-trans _ _ (new 2) (IsPermutation-cons (transfer_row it) (map transfer_row p.transfers) (old 2) p.rows.transfers) rows.transfers);
          tags = IsPermutation-trans _ _ (without_rowids (new 4)) (IsPermutation-flat_map tag_rows all (it ∷ p.transfers) front)
              (IsPermutation-trans _ _ (without_rowids (new 4)) (IsPermutation-append_right (tag_rows it) (flat_map tag_rows p.transfers) (without_rowids (old 4)) p.rows.tags) rows.tags);
          items = record { held = rw (kept, rows.kept.held) p.rows.items.held; pieces = rw (items, rows.kept.pieces) p.rows.items.pieces };
        };
        numbers = apart_middle it (λ (u : NumberedTransfer). u.number) fore bs (subst (AllByRecursion (λ (u : NumberedTransfer). u.number ≢ number)) at.split fresh)
            (subst (AreApart (λ (u : NumberedTransfer). u.number)) at.split p.numbers);
        item_numbers = rw items p.item_numbers;
        cut = rw items p.cut;
        is = is;
        order = record {
          names = entry_rising name (begun tags) ledger p.order.names;
          tags = subst (AllByRecursion (λ (e : List ℕ × Transfer). AreRising (keys_of e.1.tags))) (sym is)
              (all_mapped it without_number (λ e. AreRising (keys_of e.1.tags)) fore bs rising
              (subst (λ us. AllByRecursion (λ (e : List ℕ × Transfer). AreRising (keys_of e.1.tags)) (map without_number us)) at.split (subst (AllByRecursion (λ (e : List ℕ × Transfer). AreRising (keys_of e.1.tags))) p.is p.order.tags)));
          items = subst (AllByRecursion (λ (e : List ℕ × Transfer). AreRising (keys_of e.1.items))) (sym is)
              (all_mapped it without_number (λ e. AreRising (keys_of e.1.items)) fore bs tt
              (subst (λ us. AllByRecursion (λ (e : List ℕ × Transfer). AreRising (keys_of e.1.items)) (map without_number us)) at.split (subst (AllByRecursion (λ (e : List ℕ × Transfer). AreRising (keys_of e.1.items))) p.is p.order.items)));
        };
      }

  -- the same for all tables
  pub begun_tables : (p : AreTablesOf (Second o) old ledger) → IsUnused name ledger → AreRising (keys_of tags) → HasOneTransferMore o old new (more number name tags)
      → AreTablesOf (Second o) new (with_transfer ledger name tags)
  begun_tables p unused rising rows = record {
    format = (p.format.0, rows.kept.format ∙ p.format.1);
    held = begun_transfers p.held unused rising rows;
    moved = still_moved o old new rows.kept.first p.moved;
  }
