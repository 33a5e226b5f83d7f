-- What look-ups find after a transfer or a payload file is added.
use Rattle.std.proofs.Common.{◌≡◌, ◌≢◌, ℕ, Bool, true, false, List, [], ◌∷◌, Option, Some, None, cond, refl, sym, ap, ◌∙◌, is_eq, if◌then◌else◌}
use Rattle.std.specs.BTreeMap.{insert_entry}
use Rattle.std.specs.Cmp.Lexicographic.{slice_cmp}
use Rattle.std.specs.List.{AllByRecursion}
use Rattle.std.specs.List.Sorted.{IsStrictlySortedBy}
use Rattle.std.specs.Map.{keys_of, lookup}
use Rattle.std.specs.Option.{option_map, unwrap_or}
use Rattle.std.specs.Ordering.{match_ordering, nat_cmp, ordering_reverse}
use Rattle.std.specs.Str.{bytes_eq}
use Rattle.std.specs.declared.cmp.Ordering.{Ordering}
use Rattle.std.specs.declared.cmp.Ordering.TheVariants.{Equal, Greater, Less}
use Rattle.std.proofs.lemmas.Bool.{false_from_ne_true}
use Rattle.std.proofs.lemmas.Cmp.{nat_list_cmp_total}
use Rattle.std.proofs.lemmas.Map.Lookups.{exact_bytes}
use Rattle.std.proofs.lemmas.Map.Text.{is_eq-slice_cmp}
use Rattle.std.proofs.lemmas.Slice.Eq.{bytes_eq-Decides}
use Rattle.bag_rules.specs.Trees.{AreRising}
use Rattle.bag_ledger.specs.Ledgers.{Ledger, Transfer, content_of, holding, transfer_of, with_item}

differs : (x y : List ℕ) → x ≢ y → bytes_eq x y ≡ false
differs x y apart = false_from_ne_true (bytes_eq x y) (λ e. apart ((bytes_eq-Decides x y).0 e))

same : (x : List ℕ) → bytes_eq x x ≡ true
same x = (bytes_eq-Decides x x).1 refl

-- ONE ENTRY ADDED

module _ {X : Type 0} (key : List ℕ) (value : X) where
  abbrev Entries : Type 0
  Entries = List (List ℕ × X)

  -- which entries there are after one was put before, in place of, or after the first
  abbrev put_by : Ordering → List ℕ × X → Entries → Entries
  put_by o e es = match_ordering o ((key, value) ∷ e ∷ es) ((e.0, value) ∷ es) (e ∷ insert_entry (slice_cmp nat_cmp) es key value)

  here_by : (o : Ordering) (e : List ℕ × X) (es : Entries) → slice_cmp nat_cmp key e.0 ≡ o → lookup (bytes_eq key) (insert_entry (slice_cmp nat_cmp) es key value) ≡ Some value
      → lookup (bytes_eq key) (put_by o e es) ≡ Some value
  here_by Less e es at rest = ap (λ b. cond b (Some value) (lookup (bytes_eq key) (e ∷ es))) (same key)
  here_by Equal e es at rest = ap (λ b. cond b (Some value) (lookup (bytes_eq key) es)) (sym (is_eq-slice_cmp key e.0) ∙ ap is_eq at)
  here_by Greater e es at rest = ap (λ b. cond b (Some e.1) (lookup (bytes_eq key) (insert_entry (slice_cmp nat_cmp) es key value))) (sym (is_eq-slice_cmp key e.0) ∙ ap is_eq at) ∙ rest

  pub entry_here : (es : Entries) → lookup (bytes_eq key) (insert_entry (slice_cmp nat_cmp) es key value) ≡ Some value
  entry_here [] = ap (λ b. cond b (Some value) None) (same key)
  entry_here (e ∷ es) = here_by (slice_cmp nat_cmp key e.0) e es refl (entry_here es)

  other_by : (o : Ordering) (other : List ℕ) → other ≢ key → (e : List ℕ × X) (es : Entries) → slice_cmp nat_cmp key e.0 ≡ o
      → lookup (bytes_eq other) (insert_entry (slice_cmp nat_cmp) es key value) ≡ lookup (bytes_eq other) es → lookup (bytes_eq other) (put_by o e es) ≡ lookup (bytes_eq other) (e ∷ es)
  other_by Less other apart e es at rest = ap (λ b. cond b (Some value) (lookup (bytes_eq other) (e ∷ es))) (differs other key apart)
  other_by Equal other apart e es at rest =
      let neither : bytes_eq other e.0 ≡ false = differs other e.0 (λ h. apart (h ∙ sym (exact_bytes key e.0 at))) in
      ap (λ b. cond b (Some value) (lookup (bytes_eq other) es)) neither ∙ sym (ap (λ b. cond b (Some e.1) (lookup (bytes_eq other) es)) neither)
  other_by Greater other apart e es at rest = ap (λ o. cond (bytes_eq other e.0) (Some e.1) o) rest

  pub entry_others : (other : List ℕ) → other ≢ key → (es : Entries) → lookup (bytes_eq other) (insert_entry (slice_cmp nat_cmp) es key value) ≡ lookup (bytes_eq other) es
  entry_others other apart [] = ap (λ b. cond b (Some value) None) (differs other key apart)
  entry_others other apart (e ∷ es) = other_by (slice_cmp nat_cmp key e.0) other apart e es refl (entry_others other apart es)

  -- THE ORDER IS KEPT

  after_by : (x : List ℕ) → slice_cmp nat_cmp x key ≡ Less → (o : Ordering) (e : List ℕ × X) (es : Entries) → AllByRecursion (λ y. slice_cmp nat_cmp x y ≡ Less) (keys_of (e ∷ es))
      → AllByRecursion (λ y. slice_cmp nat_cmp x y ≡ Less) (keys_of (insert_entry (slice_cmp nat_cmp) es key value)) → AllByRecursion (λ y. slice_cmp nat_cmp x y ≡ Less) (keys_of (put_by o e es))
  after_by x less Less e es all rest = (less, all)
  after_by x less Equal e es all rest = all
  after_by x less Greater e es all rest = (all.0, rest)

  after_all : (x : List ℕ) → slice_cmp nat_cmp x key ≡ Less → (es : Entries) → AllByRecursion (λ y. slice_cmp nat_cmp x y ≡ Less) (keys_of es)
      → AllByRecursion (λ y. slice_cmp nat_cmp x y ≡ Less) (keys_of (insert_entry (slice_cmp nat_cmp) es key value))
  after_all x less [] all = (less, tt)
  after_all x less (e ∷ es) all = after_by x less (slice_cmp nat_cmp key e.0) e es all (after_all x less es all.1)

  below_all : (x y : List ℕ) → slice_cmp nat_cmp x y ≡ Less → (ks : List (List ℕ)) → AllByRecursion (λ z. slice_cmp nat_cmp y z ≡ Less) ks → AllByRecursion (λ z. slice_cmp nat_cmp x z ≡ Less) ks
  below_all x y less [] all = tt
  below_all x y less (z ∷ ks) all = (nat_list_cmp_total.trans x y z less all.0, below_all x y less ks all.1)

  rising_by : (o : Ordering) (e : List ℕ × X) (es : Entries) → slice_cmp nat_cmp key e.0 ≡ o → AreRising (keys_of (e ∷ es))
      → AreRising (keys_of (insert_entry (slice_cmp nat_cmp) es key value)) → AreRising (keys_of (put_by o e es))
  unfolding IsStrictlySortedBy
  rising_by Less e es at rising rest = ((at, below_all key e.0 at (keys_of es) rising.0), rising)
  rising_by Equal e es at rising rest = rising
  rising_by Greater e es at rising rest = (after_all e.0 (nat_list_cmp_total.antisymm e.0 key ∙ ap ordering_reverse at) es rising.0, rest)

  pub entry_rising : (es : Entries) → AreRising (keys_of es) → AreRising (keys_of (insert_entry (slice_cmp nat_cmp) es key value))
  unfolding IsStrictlySortedBy
  entry_rising [] rising = (tt, tt)
  entry_rising (e ∷ es) rising = rising_by (slice_cmp nat_cmp key e.0) e es refl rising (entry_rising es rising.1)

-- ONE PAYLOAD FILE ADDED

module _ (name path content : List ℕ) where
  step : (b : Bool) (entry : List ℕ × Transfer) (found : Option Transfer) → cond b (Some (if b then holding entry.1 path content else entry.1)) (option_map (λ (t : Transfer). holding t path content) found)
      ≡ option_map (λ (t : Transfer). holding t path content) (cond b (Some entry.1) found)
  step true entry found = refl
  step false entry found = refl

  pub item_here : (ledger : Ledger) → transfer_of (with_item ledger name path content) name ≡ option_map (λ (t : Transfer). holding t path content) (transfer_of ledger name)
  item_here [] = refl
  item_here (entry ∷ ledger) =
      ap (λ o. cond (bytes_eq name entry.0) (Some (if bytes_eq name entry.0 then holding entry.1 path content else entry.1)) o) (item_here ledger)
      ∙ step (bytes_eq name entry.0) entry (transfer_of ledger name)

  untouched : (b c : Bool) (entry : List ℕ × Transfer) (found : Option Transfer) → (b ≡ true → c ≡ false) → cond b (Some (if c then holding entry.1 path content else entry.1)) found ≡ cond b (Some entry.1) found
  untouched true c entry found apart = ap (λ b. Some (if b then holding entry.1 path content else entry.1)) (apart refl)
  untouched false c entry found apart = refl

  pub item_others : (other : List ℕ) → other ≢ name → (ledger : Ledger) → transfer_of (with_item ledger name path content) other ≡ transfer_of ledger other
  item_others other apart [] = refl
  item_others other apart (entry ∷ ledger) =
      ap (λ o. cond (bytes_eq other entry.0) (Some (if bytes_eq name entry.0 then holding entry.1 path content else entry.1)) o) (item_others other apart ledger)
      ∙ untouched (bytes_eq other entry.0) (bytes_eq name entry.0) entry (transfer_of ledger other) (λ here. differs name entry.0 (λ h. apart ((bytes_eq-Decides other entry.0).0 here ∙ sym h)))

  pub item_names : (ledger : Ledger) → keys_of (with_item ledger name path content) ≡ keys_of ledger
  item_names [] = refl
  item_names (entry ∷ ledger) = ap (λ names. entry.0 ∷ names) (item_names ledger)

  -- what the path has afterwards
  pub content_here : (ledger : Ledger) (transfer : Transfer) → transfer_of ledger name ≡ Some transfer → content_of (with_item ledger name path content) name path ≡ Some content
  content_here ledger transfer there =
      ap (λ (t : Option Transfer). lookup (bytes_eq path) (unwrap_or (option_map (λ (transfer : Transfer). transfer.items) t) [])) (item_here ledger ∙ ap (option_map (λ (t : Transfer). holding t path content)) there)
      ∙ entry_here path content transfer.items

  others_in : (other : List ℕ) → other ≢ path → (found : Option Transfer)
      → lookup (bytes_eq other) (unwrap_or (option_map (λ (transfer : Transfer). transfer.items) (option_map (λ (t : Transfer). holding t path content) found)) [])
      ≡ lookup (bytes_eq other) (unwrap_or (option_map (λ (transfer : Transfer). transfer.items) found) [])
  others_in other apart None = refl
  others_in other apart (Some transfer) = entry_others path content other apart transfer.items

  pub content_others : (other : List ℕ) → other ≢ path → (ledger : Ledger) → content_of (with_item ledger name path content) name other ≡ content_of ledger name other
  content_others other apart ledger =
      ap (λ (t : Option Transfer). lookup (bytes_eq other) (unwrap_or (option_map (λ (transfer : Transfer). transfer.items) t) [])) (item_here ledger)
      ∙ others_in other apart (transfer_of ledger name)
