-- The transfer with a name, in the ledger and among the rows.
use Rattle.std.proofs.Common.{◌≡◌, ℕ, List, [], ◌∷◌, Bool, true, false, Option, Some, None, cond, inl, inr, map, refl, sym, ap, subst, ◌∙◌, slice_index_or, MatchOption, ℤ}
use Rattle.bag_sqlite.proofs.Words.{AreRising, bytes_eq, bytes_eq-Decides, col, column, Has, has_from_map, has_map, HasTransferRow, HoldTransfers, Int, is_eq-slice_cmp, IsDistinct, IsDistinct-from_sorted, IsPermutation-sym, keys_of, Layout, Ledger, lookup, lookup_from_place, nat_cmp, nat_list_eq_equiv, Null, NumberedTransfer, place_of_has, reads_as, Row, same_Some, schema_of, Shown, slice_cmp, State, Term, Text, Transfer, transfer_of, transfer_row, Trees, without_number}
use Rattle.bag_sqlite.proofs.OneLedger.{has_moved, same_transfer_row}
use Rattle.bag_sqlite.proofs.TransferMeanings.{number_command, number_is, number_plain, number_text, number_unlisted}
use Rattle.bag_sqlite.proofs.WhereLemmas.{Lists, answer_lists, equal_texts, equals, has_from_shown, has_shown, passes}
use Rattle.std.proofs.Math.Bool.{and-true}

-- LOOK-UPS

-- in a list in order, an entry is the one that is found by its name
pub found_entry : {X : Type 0} (es : List (List ℕ × X)) (e : List ℕ × X) → AreRising (keys_of es) → Has es e → lookup (bytes_eq e.0) es ≡ Some e.1
found_entry es e rising has =
    let place = place_of_has es e has in
    lookup_from_place nat_list_eq_equiv es place.0 e.0 e.1
    (subst (λ eq. IsDistinct eq (keys_of es)) (λ t x y. is_eq-slice_cmp x y t) (IsDistinct-from_sorted (slice_cmp nat_cmp) (keys_of es) rising)) place.1

found_by : {X : Type 0} (b : Bool) (key : List ℕ) (x : X) (e : List ℕ × X) (es : List (List ℕ × X)) → bytes_eq key e.0 ≡ b → cond b (Some e.1) (lookup (bytes_eq key) es) ≡ Some x
    → (lookup (bytes_eq key) es ≡ Some x → Has es (key, x)) → Has (e ∷ es) (key, x)
found_by true key x e es at here rest = inl (λ t. (sym ((bytes_eq-Decides key e.0).0 at) t, same_Some e.1 x here t))
found_by false key x e es at here rest = inr (rest here)

-- what is found is among the entries
pub entry_found : {X : Type 0} (es : List (List ℕ × X)) (key : List ℕ) (x : X) → lookup (bytes_eq key) es ≡ Some x → Has es (key, x)
entry_found {X} [] key x here = absurd (let e : ◌≡◌ {A = Option X} None (Some x) = here in cc)
entry_found (e ∷ es) key x here = found_by (bytes_eq key e.0) key x e es refl here (entry_found es key x)

-- TRANSFERS AND THEIR NUMBERS

module _ {l : Layout} (trees : Trees) (ledger : Ledger) (tables : HoldTransfers l trees ledger) where
  -- every transfer of the ledger has a number
  pub numbered : (name : List ℕ) (transfer : Transfer) → transfer_of ledger name ≡ Some transfer → (t : NumberedTransfer) × Has tables.transfers t × (without_number t ≡ (name, transfer))
  numbered name transfer there =
      has_from_map without_number tables.transfers (name, transfer) (subst (λ l. Has l (name, transfer)) tables.is (entry_found ledger name transfer there))

  pub row_there : (t : NumberedTransfer) → Has tables.transfers t → Has (trees 2) (transfer_row t)
  row_there t has = has_moved (map transfer_row tables.transfers) (trees 2) (transfer_row t) tables.rows.transfers (has_map transfer_row tables.transfers t has)

  pub row_of : (row : Row) → Has (trees 2) row → (t : NumberedTransfer) × Has tables.transfers t × (transfer_row t ≡ row)
  row_of row has =
      let rows = map transfer_row tables.transfers in
      has_from_map transfer_row tables.transfers row (has_moved (trees 2) rows row (IsPermutation-sym rows (trees 2) tables.rows.transfers) has)

  -- the transfer whose row has this name and number
  pub transfer_at : (name : List ℕ) (number : ℤ) → HasTransferRow trees name number
      → (t : NumberedTransfer) × Has tables.transfers t × (t.number ≡ number) × (transfer_of ledger name ≡ Some (without_number t).1)
  transfer_at name number has =
      let it = row_of (Int number ∷ Null ∷ Text name ∷ []) has in
      let t = it.0 in
      let same = same_transfer_row t.number number t.name name it.2 in
      let entry : Has ledger (without_number t) = subst (λ l. Has l (without_number t)) (sym tables.is) (has_map without_number tables.transfers t it.1) in
      (t, it.1, same.0, subst (λ n. transfer_of ledger n ≡ Some (without_number t).1) same.1 (found_entry ledger (without_number t) tables.order.names entry))

-- THE NUMBER THAT IS SHOWN

abbrev named : List Term
named = equals (col 1 2) (col 0 0) ∷ []

name_tested : (name : List ℕ) (t : NumberedTransfer) → passes named (Text name ∷ []) (transfer_row t) ≡ bytes_eq t.name name
name_tested name t = and-true _ ∙ equal_texts t.name name

module _ {l : Layout} (s new : State) (rows : List Row) (ledger : Ledger) (name : List ℕ) (has : s.now.schema ≡ schema_of l) (tables : HoldTransfers l s.now.trees ledger)
    (shown : Shown number_text (Text name ∷ []) s new rows) where
  lists : Lists 2 named (col 1 0 ∷ []) [] (Text name ∷ []) (s.now.trees 2) rows
  lists =
      let got = reads_as number_text (Text name ∷ []) s new (schema_of l) has number_command (number_is l) (number_plain l) (number_unlisted l) rows shown in
      answer_lists 2 named (col 1 0 ∷ []) [] (Text name ∷ []) s.now.trees rows (got.answer Null) refl

  -- a transfer with this name would be shown
  nowhere : (o : Option Transfer) → transfer_of ledger name ≡ o → rows ≡ [] → transfer_of ledger name ≡ None
  nowhere None there none = there
  nowhere (Some transfer) there none =
      let it = numbered s.now.trees ledger tables name transfer there in
      let same : it.0.name ≡ name = ap (λ (e : List ℕ × Transfer). e.0) it.2 in
      let pass : passes named (Text name ∷ []) (transfer_row it.0) ≡ true = name_tested name it.0 ∙ (bytes_eq-Decides it.0.name name).1 same in
      let one = has_shown 2 named (col 1 0 ∷ []) [] (Text name ∷ []) (s.now.trees 2) rows lists (transfer_row it.0) (row_there s.now.trees ledger tables it.0 it.1) pass in
      absurd (subst (λ r. Has r (Int it.0.number ∷ [])) none one)

  -- the number that is shown is that of the transfer with this name
  found : (row : Row) (n : ℤ) → Has rows row → column row 0 ≡ Int n → HasTransferRow s.now.trees name n
  found row n has_row at =
      let from = has_from_shown 2 named (col 1 0 ∷ []) [] (Text name ∷ []) (s.now.trees 2) rows lists row has_row in
      let it = row_of s.now.trees ledger tables from.0 from.1 in
      let t = it.0 in
      let same : t.name ≡ name = (bytes_eq-Decides t.name name).0 (sym (name_tested name t) ∙ subst (λ r. passes named (Text name ∷ []) r ≡ true) (sym it.2) from.2) in
      let number : Int t.number ≡ Int n = ap (λ r. column r 0) it.2 ∙ ap (λ r. column r 0) from.3 ∙ at in
      let is : transfer_row t ≡ (Int n ∷ Null ∷ Text name ∷ []) = λ i. number i ∷ Null ∷ Text (same i) ∷ [] in
      subst (Has (s.now.trees 2)) is (subst (Has (s.now.trees 2)) (sym it.2) from.1)

  first_found : (n : ℤ) (all : List Row) → all ≡ rows → column (slice_index_or all 0 []) 0 ≡ Int n → HasTransferRow s.now.trees name n
  first_found n [] is at = absurd (let e : Null ≡ Int n = at in cc)
  first_found n (row ∷ more) is at = found row n (subst (λ r. Has r row) is (inl refl)) at

  pub number_shown : (o : Option ℤ) → MatchOption o (rows ≡ []) (λ n. column (slice_index_or rows 0 []) 0 ≡ Int n) → MatchOption o (transfer_of ledger name ≡ None) (HasTransferRow s.now.trees name)
  number_shown None none = nowhere (transfer_of ledger name) refl none
  number_shown (Some n) at = first_found n rows refl at
