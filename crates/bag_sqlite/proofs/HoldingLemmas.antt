-- The tables of a ledger after a payload file is added.
use Rattle.std.proofs.Common.{◌≡◌, ◌≢◌, cond, ℕ, ℤ, List, [], ◌∷◌, ◌++◌, Bool, true, false, Some, None, Less, append_assoc, inl, inr, is_eq, map, refl, sym, ap, subst, ◌∙◌, unwrap_or}
use Rattle.bag_sqlite.proofs.Words.{all_has, all_map, all_unmap, all_weaker, AllByRecursion, AreApart, AreCut, AreRising, AreTablesOf, bytes_eq, bytes_eq-Decides, column, concat, content_of, entry_rising, flat_map, flat_map-append, Has, has_map, HasOneItemMore, HasTransferRow, held_rows, held_tree, holding, HoldTransfers, Int, is_eq-slice_cmp, IsFree, IsInOrder, IsPermutation-append_right, IsPermutation-cons, IsPermutation-flat_map, IsPermutation-middle, IsPermutation-trans, IsStrictlySortedBy, item_names, item_row, items_in, keys_of, Ledger, lookup, map-append, map_twice, nat_cmp, nat_list_cmp_total, Null, NumberedItem, NumberedTransfer, option_map, ordering_reverse, Origin, piece_rows, piece_tree, Row, Second, size_of, slice_cmp, tag_rows, Text, Transfer, transfer_of, transfer_row, Trees, with_item, without_number, without_rowids}
use Rattle.std.specs.Prelude.{IsPermutation}
use Rattle.bag_sqlite.proofs.GrowthLemmas.{Place, all_middle, apart_middle, place}
use Rattle.bag_sqlite.proofs.InsertLemmas.{apart_from}
use Rattle.bag_sqlite.proofs.LayoutLemmas.{still_moved}
use Rattle.bag_sqlite.proofs.OneLedger.{has_flat, has_from_flat, has_moved, read, same_transfer_row}
use Rattle.bag_sqlite.proofs.TransferLemmas.{found_entry, row_of}
use Rattle.bag_rules.proofs.HasLemmas.{all_of}

-- ONE ENTRY CHANGED IN THE MIDDLE

module _ {X : Type 0} (x y : X) where
  same_map : {Y : Type 0} (f : X → Y) → f y ≡ f x → (fore back : List X) → map f (fore ++ y ∷ back) ≡ map f (fore ++ x ∷ back)
  same_map f same [] back = ap (λ z. z ∷ map f back) same
  same_map f same (a ∷ fore) back = ap (λ zs. f a ∷ zs) (same_map f same fore back)

  same_flat : {Y : Type 0} (f : X → List Y) → f y ≡ f x → (fore back : List X) → flat_map f (fore ++ y ∷ back) ≡ flat_map f (fore ++ x ∷ back)
  same_flat f same [] back = ap (λ zs. zs ++ flat_map f back) same
  same_flat f same (a ∷ fore) back = ap (λ zs. f a ++ zs) (same_flat f same fore back)

  all_changed : (P : X → Type 0) → (P x → P y) → (fore back : List X) → AllByRecursion P (fore ++ x ∷ back) → AllByRecursion P (fore ++ y ∷ back)
  all_changed P to [] back all = (to all.0, all.1)
  all_changed P to (a ∷ fore) back all = (all.0, all_changed P to fore back all.1)

  apart_changed : (number : X → ℤ) → number y ≡ number x → (fore back : List X) → AreApart number (fore ++ x ∷ back) → AreApart number (fore ++ y ∷ back)
  apart_changed number same [] back apart = (all_weaker (λ z. number x ≢ number z) (λ z. number y ≢ number z) (λ z other is. other (sym same ∙ is)) back apart.0, apart.1)
  apart_changed number same (a ∷ fore) back apart = (all_changed (λ z. number a ≢ number z) (λ other is. other (is ∙ same)) fore back apart.0, apart_changed number same fore back apart.1)

-- what the entry in the middle gives is in the middle
flat_at : {X Y : Type 0} (f : X → List Y) (fore back : List X) (x : X) (before mid after : List Y) → f x ≡ before ++ (mid ++ after)
    → flat_map f (fore ++ x ∷ back) ≡ (flat_map f fore ++ before) ++ (mid ++ (after ++ flat_map f back))
flat_at f fore back x before mid after is =
    flat_map-append f fore (x ∷ back) ∙ ap (λ ys. flat_map f fore ++ (ys ++ flat_map f back)) is
    ∙ ap (λ ys. flat_map f fore ++ ys) (append_assoc before (mid ++ after) (flat_map f back) ∙ ap (λ ys. before ++ ys) (append_assoc mid after (flat_map f back)))
    ∙ sym (append_assoc (flat_map f fore) before (mid ++ (after ++ flat_map f back)))

-- THE TRANSFER THAT THE FILE IS ADDED TO

other_before : (a b : List ℕ) → slice_cmp nat_cmp a b ≡ Less → bytes_eq a b ≡ false
other_before a b less = sym (is_eq-slice_cmp a b) ∙ ap is_eq less

other_after : (a b : List ℕ) → slice_cmp nat_cmp b a ≡ Less → bytes_eq a b ≡ false
other_after a b less = sym (is_eq-slice_cmp a b) ∙ ap is_eq (nat_list_cmp_total.antisymm a b ∙ ap ordering_reverse less)

module _ (t : NumberedTransfer) (item : NumberedItem) (at : Place read item t.items) where
  abbrev whole : List ℕ
  whole = concat item.pieces

  -- after that payload file is added
  abbrev pub more : NumberedTransfer
  more = record t { items = at.before ++ item ∷ at.after }

  abbrev holds_it : Ledger → Ledger
  holds_it ledger = with_item ledger t.name item.path whole

  -- the place of the transfer among the others
  record Taken (us : List NumberedTransfer) : Type 0 where
    pub fore : List NumberedTransfer
    pub back : List NumberedTransfer
    pub split : us ≡ fore ++ t ∷ back
    pub put : holds_it (map without_number us) ≡ map without_number (fore ++ more ∷ back)

  unmoved : (us : List NumberedTransfer) → AllByRecursion (λ (u : NumberedTransfer). bytes_eq t.name u.name ≡ false) us → holds_it (map without_number us) ≡ map without_number us
  unmoved [] all = refl
  unmoved (u ∷ us) all = λ i. (u.name, cond (all.0 i) (holding (without_number u).1 item.path whole) (without_number u).1) ∷ unmoved us all.1 i

  first_taken : (us : List NumberedTransfer) → AreRising (keys_of (map without_number (t ∷ us))) → holds_it (map without_number (t ∷ us)) ≡ map without_number (more ∷ us)
  unfolding IsStrictlySortedBy
  first_taken us rising =
      let yes = (bytes_eq-Decides t.name t.name).1 refl in
      let later = all_unmap (λ key. slice_cmp nat_cmp t.name key ≡ Less) (λ (u : NumberedTransfer). u.name) us
      (subst (AllByRecursion (λ key. slice_cmp nat_cmp t.name key ≡ Less)) (map_twice without_number (λ (e : List ℕ × Transfer). e.0) us) rising.0) in
      let others = all_weaker (λ (u : NumberedTransfer). slice_cmp nat_cmp t.name u.name ≡ Less) (λ (u : NumberedTransfer). bytes_eq t.name u.name ≡ false) (λ u less. other_before t.name u.name less) us later in
      (λ i. (t.name, cond (yes i) (holding (without_number t).1 item.path whole) (without_number t).1) ∷ unmoved us others i)
      ∙ ap (λ items. (t.name, record { tags = t.tags; items = items }) ∷ map without_number us) at.put

  taken : (us : List NumberedTransfer) → AreRising (keys_of (map without_number us)) → Has us t → Taken us
  unfolding IsStrictlySortedBy
  taken [] rising has = absurd has
  taken (u ∷ us) rising (inl is) = record {
    fore = [];
    back = us;
    split = ap (λ v. v ∷ us) is;
    put = ap (λ v. holds_it (map without_number (v ∷ us))) is ∙ first_taken us (subst (λ v. AreRising (keys_of (map without_number (v ∷ us)))) is rising);
  }
  taken (u ∷ us) rising (inr has) =
      let rest = taken us rising.1 has in
      let before : slice_cmp nat_cmp u.name t.name ≡ Less =
      all_has (λ key. slice_cmp nat_cmp u.name key ≡ Less) (keys_of (map without_number us)) t.name rising.0
      (has_map (λ (e : List ℕ × Transfer). e.0) (map without_number us) (without_number t) (has_map without_number us t has)) in
      let no = other_after t.name u.name before in
      record {
        fore = u ∷ rest.fore;
        back = rest.back;
        split = ap (λ vs. u ∷ vs) rest.split;
        put = λ i. (u.name, cond (no i) (holding (without_number u).1 item.path whole) (without_number u).1) ∷ rest.put i;
      }

-- ONE PAYLOAD FILE ADDED

kept_tags : (b : Bool) (transfer : Transfer) (path content : List ℕ) → AreRising (keys_of transfer.tags) → AreRising (keys_of (cond b (holding transfer path content) transfer).tags)
kept_tags true transfer path content rising = rising
kept_tags false transfer path content rising = rising

more_items : (b : Bool) (transfer : Transfer) (path content : List ℕ) → AreRising (keys_of transfer.items) → AreRising (keys_of (cond b (holding transfer path content) transfer).items)
more_items true transfer path content rising = entry_rising path content transfer.items rising
more_items false transfer path content rising = rising

in_order : (ledger : Ledger) (name path content : List ℕ) → IsInOrder ledger → IsInOrder (with_item ledger name path content)
in_order ledger name path content order =
    let change : List ℕ × Transfer → List ℕ × Transfer = λ e. (e.0, cond (bytes_eq name e.0) (holding e.1 path content) e.1) in
    let tags = λ (e : List ℕ × Transfer). AreRising (keys_of e.1.tags) in
    let items = λ (e : List ℕ × Transfer). AreRising (keys_of e.1.items) in
    record {
      names = subst AreRising (sym (item_names name path content ledger)) order.names;
      tags = all_map tags change ledger (all_weaker tags (λ e. tags (change e)) (λ e rising. kept_tags (bytes_eq name e.0) e.1 path content rising) ledger order.tags);
      items = all_map items change ledger (all_weaker items (λ e. items (change e)) (λ e rising. more_items (bytes_eq name e.0) e.1 path content rising) ledger order.items);
    }

-- no payload file has a free number
fresh : {o : Origin} (trees : Trees) (ledger : Ledger) (p : HoldTransfers (Second o) trees ledger) (number : ℤ) → IsFree number (trees (held_tree o)) → AllByRecursion (λ (i : NumberedItem). i.number ≢ number) (items_in p.transfers)
fresh {o} trees ledger p number free = all_of (λ (i : NumberedItem). i.number ≢ number) (items_in p.transfers) (λ i has same.
    let from = has_from_flat (λ (t : NumberedTransfer). t.items) p.transfers i has in
    let t = from.0 in
    let row : Row = item_row i.number t.number i.path (size_of i) in
    let listed = has_flat held_rows p.transfers t row from.1 (has_map (λ (j : NumberedItem). item_row j.number t.number j.path (size_of j)) t.items i from.2) in
    all_has (λ (r : Row). column r 0 ≢ Int number) (trees (held_tree o)) row (apart_from number (trees (held_tree o)) free)
    (has_moved (flat_map held_rows p.transfers) (trees (held_tree o)) row p.rows.items.held listed) (ap Int same))

pub held_transfers : {o : Origin} (old new : Trees) (ledger : Ledger) (name : List ℕ) (number : ℤ) (item : NumberedItem) → HoldTransfers (Second o) old ledger → HasTransferRow old name number → HasOneItemMore o old new number item
    → AreCut item.pieces → content_of ledger name item.path ≡ None → HoldTransfers (Second o) new (with_item ledger name item.path (concat item.pieces))
held_transfers {o} old new ledger name number item p named rows cut none =
    let found = row_of old ledger p (Int number ∷ Null ∷ Text name ∷ []) named in
    let t = found.0 in
    let same = same_transfer_row t.number number t.name name found.2 in
    let entry : Has ledger (without_number t) = subst (λ l. Has l (without_number t)) (sym p.is) (has_map without_number p.transfers t found.1) in
    let there : transfer_of ledger name ≡ Some (without_number t).1 = subst (λ n. transfer_of ledger n ≡ Some (without_number t).1) same.1 (found_entry ledger (without_number t) p.order.names entry) in
    let free : lookup (bytes_eq item.path) (map read t.items) ≡ None = ap (λ o. lookup (bytes_eq item.path) (unwrap_or (option_map (λ (tr : Transfer). tr.items) o) [])) (sym there) ∙ none in
    let at = place read item t.items free in
    let u = more t item at in
    let it = taken t item at p.transfers (subst (λ l. AreRising (keys_of l)) p.is p.order.names) found.1 in
    let all = it.fore ++ u ∷ it.back in
    let front = items_in it.fore ++ at.before in
    let rest = at.after ++ items_in it.back in
    let many : items_in all ≡ front ++ item ∷ rest = flat_at (λ (v : NumberedTransfer). v.items) it.fore it.back u at.before (item ∷ []) at.after refl in
    let few : items_in p.transfers ≡ front ++ rest = ap items_in it.split ∙ flat_at (λ (v : NumberedTransfer). v.items) it.fore it.back t at.before [] at.after at.split in
    let row_of_item : NumberedItem → Row = λ i. item_row i.number t.number i.path (size_of i) in
    let row = row_of_item item in
    let befores = map row_of_item at.before in
    let afters = map row_of_item at.after in
    let held_front = flat_map held_rows it.fore ++ befores in
    let held_rest = afters ++ flat_map held_rows it.back in
    let held_many : flat_map held_rows all ≡ held_front ++ row ∷ held_rest = flat_at held_rows it.fore it.back u befores (row ∷ []) afters (map-append row_of_item at.before (item ∷ at.after)) in
    let held_few : flat_map held_rows p.transfers ≡ held_front ++ held_rest =
    ap (flat_map held_rows) it.split ∙ flat_at held_rows it.fore it.back t befores [] afters (ap (map row_of_item) at.split ∙ map-append row_of_item at.before at.after) in
    let more_held : IsPermutation (row ∷ old (held_tree o)) (new (held_tree o)) = subst (λ n. IsPermutation (item_row item.number n item.path (size_of item) ∷ old (held_tree o)) (new (held_tree o))) (sym same.0) rows.held in
    let moved : IsPermutation (items_in all) (item ∷ items_in p.transfers) =
    subst (λ l. IsPermutation l (item ∷ items_in p.transfers)) (sym many) (subst (λ l. IsPermutation (front ++ item ∷ rest) (item ∷ l)) (sym few) (IsPermutation-middle front item rest)) in
    let item_number = λ (i : NumberedItem). i.number in
    record {
      transfers = all;
      rows = record {
        transfers = subst (IsPermutation (map transfer_row all)) (sym rows.kept.transfers)
            (subst (λ l. IsPermutation l (old 2)) (ap (map transfer_row) it.split ∙ sym (same_map t u transfer_row refl it.fore it.back)) p.rows.transfers);
        tags = subst (λ r. IsPermutation (flat_map tag_rows all) (without_rowids r)) (sym rows.kept.tags)
            (subst (λ l. IsPermutation l (without_rowids (old 4))) (ap (flat_map tag_rows) it.split ∙ sym (same_flat t u tag_rows refl it.fore it.back)) p.rows.tags);
        items = record {
          held = subst (λ l. IsPermutation l (new (held_tree o))) (sym held_many) (IsPermutation-trans _ _ (new (held_tree o)) (IsPermutation-middle held_front row held_rest)
              (IsPermutation-trans _ _ (new (held_tree o)) (IsPermutation-cons row (held_front ++ held_rest) (old (held_tree o)) (subst (λ l. IsPermutation l (old (held_tree o))) held_few p.rows.items.held)) more_held));
          pieces = IsPermutation-trans _ _ (without_rowids (new (piece_tree o))) (IsPermutation-flat_map piece_rows (items_in all) (item ∷ items_in p.transfers) moved)
              (IsPermutation-trans _ _ (without_rowids (new (piece_tree o))) (IsPermutation-append_right (piece_rows item) (flat_map piece_rows (items_in p.transfers)) (without_rowids (old (piece_tree o))) p.rows.items.pieces) rows.pieces);
        };
      };
      numbers = apart_changed t u (λ (v : NumberedTransfer). v.number) refl it.fore it.back (subst (AreApart (λ (v : NumberedTransfer). v.number)) it.split p.numbers);
      item_numbers = subst (AreApart item_number) (sym many) (apart_middle item item_number front rest (subst (AllByRecursion (λ i. i.number ≢ item.number)) few (fresh old ledger p item.number rows.fresh))
          (subst (AreApart item_number) few p.item_numbers));
      cut = subst (AllByRecursion (λ i. AreCut i.pieces)) (sym many) (all_middle item (λ i. AreCut i.pieces) front rest cut (subst (AllByRecursion (λ i. AreCut i.pieces)) few p.cut));
      is = ap (λ l. with_item l name item.path (concat item.pieces)) p.is ∙ ap (λ n. with_item (map without_number p.transfers) n item.path (concat item.pieces)) (sym same.1) ∙ it.put;
      order = in_order ledger name item.path (concat item.pieces) p.order;
    }

-- the same for all tables
pub put_tables : {o : Origin} (old new : Trees) (ledger : Ledger) (name : List ℕ) (number : ℤ) (item : NumberedItem) → AreTablesOf (Second o) old ledger → HasTransferRow old name number → HasOneItemMore o old new number item
    → AreCut item.pieces → content_of ledger name item.path ≡ None → AreTablesOf (Second o) new (with_item ledger name item.path (concat item.pieces))
put_tables {o} old new ledger name number item p named rows cut none = record {
  format = (p.format.0, rows.kept.format ∙ p.format.1);
  held = held_transfers old new ledger name number item p.held named rows cut none;
  moved = still_moved o old new rows.kept.first p.moved;
}
