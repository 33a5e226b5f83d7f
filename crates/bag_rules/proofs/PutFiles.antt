-- Files that are inserted among others, each at its place in the order of the paths.
use Rattle.std.proofs.Common.{◌≡◌, ◌≢◌, ◌⊎◌, ◌↔◌, ◌+◌, ◌∙◌, ℕ, true, List, [], ◌∷◌, length, refl, sym, ap, subst, inl, inr, arith}
use Rattle.std.proofs.lemmas.List.Elements.{All-from_recursion, recursion_from_All}
use Rattle.std.proofs.lemmas.Map.Views.{All-keys-insert_entry}
use Rattle.std.specs.List.Sorted.{IsStrictlySortedBy}
use Rattle.bag_rules.specs.Bags.{octet_count}
use Rattle.bag_rules.specs.Transfers.{with_files}
use Rattle.bag_rules.proofs.Words.{AreRising, cases_Bool, Equal, exact_bytes, Files, Greater, Has, insert_entry, is_payload, keys_of, Less, nat_cmp, nat_list_cmp_total, Ordering, ordering_reverse, payload_of, slice_cmp, tied_itself}
use Rattle.bag_rules.proofs.MemoryFiles.{all_after, put_step}
use Rattle.bag_rules.proofs.SameListLemmas.{all_has, asymmetric, same_list, sorted_by_key}

abbrev File : Type 0
File = List ℕ × List ℕ

abbrev pub put : Files → List ℕ → List ℕ → Files
put files path octets = insert_entry (slice_cmp nat_cmp) files path octets

-- no file has the path
abbrev pub IsNew : Files → List ℕ → Type 0
IsNew files path = (octets : List ℕ) → ¬ Has files (path, octets)

-- the files can be inserted among the others: no path is there twice
abbrev pub AreNew : Files → Files → Type 0
AreNew files [] = Unit {0}
AreNew files (item ∷ items) = IsNew files item.0 × IsNew items item.0 × AreNew files items

-- ONE MORE FILE

module _ (path octets : List ℕ) where
  not_first : (first : File) (files : Files) → IsNew (first ∷ files) path → slice_cmp nat_cmp path first.0 ≢ Equal
  not_first first files new same = new first.1 (inl (ap (λ (p : List ℕ). (p, first.1)) (sym (exact_bytes path first.0 same))))

  later : (first : File) (files : Files) → IsNew (first ∷ files) path → IsNew files path
  later first files new other has = new other (inr has)

  -- the files with it
  abbrev HasAlso : Files → File → Type 0
  HasAlso files file = Has (put files path octets) file ↔ (Has files file ⊎ ((path, octets) ≡ file))

  has_step : (first : File) (files : Files) (file : File) (r : Ordering) → IsNew (first ∷ files) path → HasAlso files file → slice_cmp nat_cmp path first.0 ≡ r → HasAlso (first ∷ files) file
  has_step first files file Less new rest h = subst (λ (fs : Files). Has fs file ↔ (Has (first ∷ files) file ⊎ ((path, octets) ≡ file))) (sym (put_step path octets first files Less h)) (
    λ has. elim has [ inl this ↦ inr this | inr old ↦ inl old ],
    λ either. elim either [ inl old ↦ inr old | inr this ↦ inl this ],
  )
  has_step first files file Equal new rest h = absurd (not_first first files new h)
  has_step first files file Greater new rest h = subst (λ (fs : Files). Has fs file ↔ (Has (first ∷ files) file ⊎ ((path, octets) ≡ file))) (sym (put_step path octets first files Greater h)) (
    λ has. elim has [ inl is ↦ inl (inl is) | inr further ↦ elim (rest.0 further) [ inl old ↦ inl (inr old) | inr this ↦ inr this ] ],
    λ either. elim either [
      | inl old ↦ elim old [ inl is ↦ inl is | inr further ↦ inr (rest.1 (inl further)) ]
      | inr this ↦ inr (rest.1 (inr this))
    ],
  )

  pub has_put : (files : Files) (file : File) → IsNew files path → HasAlso files file
  has_put [] file new = (λ has. elim has [ inl this ↦ inr this | inr none ↦ absurd none ], λ either. elim either [ inl none ↦ absurd none | inr this ↦ inl this ])
  has_put (first ∷ files) file new = has_step first files file (slice_cmp nat_cmp path first.0) new (has_put files file (later first files new)) refl

  -- the order stays
  rising_step : (first : File) (files : Files) (r : Ordering) → AreRising (keys_of (first ∷ files)) → AreRising (keys_of (put files path octets)) → slice_cmp nat_cmp path first.0 ≡ r → AreRising (keys_of (put (first ∷ files) path octets))
  unfolding IsStrictlySortedBy
  rising_step first files Less rising rest h = subst (λ (fs : Files). AreRising (keys_of fs)) (sym (put_step path octets first files Less h)) ((h, all_after path first.0 (keys_of files) h rising.0), rising)
  rising_step first files Equal rising rest h = subst (λ (fs : Files). AreRising (keys_of fs)) (sym (put_step path octets first files Equal h)) rising
  rising_step first files Greater rising rest h =
      let P : List ℕ → Type 0 = λ other. slice_cmp nat_cmp first.0 other ≡ Less in
      let less : P path = nat_list_cmp_total.antisymm first.0 path ∙ ap ordering_reverse h in
      let after = recursion_from_All P (keys_of (put files path octets)) (All-keys-insert_entry (slice_cmp nat_cmp) path octets P files (All-from_recursion P (keys_of files) rising.0) less) in
      subst (λ (fs : Files). AreRising (keys_of fs)) (sym (put_step path octets first files Greater h)) (after, rest)

  pub rising_put : (files : Files) → AreRising (keys_of files) → AreRising (keys_of (put files path octets))
  unfolding IsStrictlySortedBy
  rising_put [] rising = (tt, tt)
  rising_put (first ∷ files) rising = rising_step first files (slice_cmp nat_cmp path first.0) rising (rising_put files rising.1) refl

  -- THE SIZE OF THE PAYLOAD

  abbrev Grows : Files → Files → Type 0
  Grows old new = (octet_count (payload_of new) ≡ octet_count (payload_of old) + length octets) × (length (payload_of new) ≡ length (payload_of old) + 1)

  grows_ahead : is_payload path ≡ true → (files : Files) → Grows files ((path, octets) ∷ files)
  unfolding octet_count
  grows_ahead payload files = rw payload (omega arith, omega arith)

  grows_behind : (first : File) (old new : Files) → Grows old new → Grows (first ∷ old) (first ∷ new)
  unfolding octet_count
  grows_behind first old new grows = elim (cases_Bool (is_payload first.0)) [
    | inl payload ↦ rw payload (omega (arith, grows.0), omega (arith, grows.1))
    | inr other ↦ rw other grows
  ]

  grows_step : is_payload path ≡ true → (first : File) (files : Files) (r : Ordering) → IsNew (first ∷ files) path → Grows files (put files path octets) → slice_cmp nat_cmp path first.0 ≡ r → Grows (first ∷ files) (put (first ∷ files) path octets)
  grows_step payload first files Less new rest h = subst (Grows (first ∷ files)) (sym (put_step path octets first files Less h)) (grows_ahead payload (first ∷ files))
  grows_step payload first files Equal new rest h = absurd (not_first first files new h)
  grows_step payload first files Greater new rest h = subst (Grows (first ∷ files)) (sym (put_step path octets first files Greater h)) (grows_behind first files (put files path octets) rest)

  pub grows_put : is_payload path ≡ true → (files : Files) → IsNew files path → Grows files (put files path octets)
  grows_put payload [] new = grows_ahead payload []
  grows_put payload (first ∷ files) new = grows_step payload first files (slice_cmp nat_cmp path first.0) new (grows_put payload files (later first files new)) refl

-- SEVERAL MORE FILES

-- those that are still to be inserted are still new
new_yet : (files items : Files) (path octets : List ℕ) → IsNew files path → IsNew items path → AreNew files items → AreNew (put files path octets) items
new_yet files [] path octets new other are = tt
new_yet files (item ∷ items) path octets new other are = (
  λ o has. elim ((has_put path octets files (item.0, o) new).0 has) [
    | inl old ↦ are.0 o old
    | inr this ↦ other item.1 (inl (ap (λ (p : List ℕ). (p, item.1)) (sym (ap (λ (f : File). f.0) this))))
  ],
  are.1,
  new_yet files items path octets new (λ o has. other o (inr has)) are.2,
)

pub has_with : (files items : Files) (file : File) → AreNew files items → Has (with_files files items) file ↔ (Has files file ⊎ Has items file)
has_with files [] file are = (λ has. inl has, λ either. elim either [ inl has ↦ has | inr none ↦ absurd none ])
has_with files (item ∷ items) file are =
    let one = has_put item.0 item.1 files file are.0 in
    let rest = has_with (put files item.0 item.1) items file (new_yet files items item.0 item.1 are.0 are.1 are.2) in (
      λ has. elim (rest.0 has) [
        | inl early ↦ elim (one.0 early) [ inl old ↦ inl old | inr this ↦ inr (inl this) ]
        | inr further ↦ inr (inr further)
      ],
      λ either. rest.1 (elim either [
        | inl old ↦ inl (one.1 (inl old))
        | inr more ↦ elim more [ inl this ↦ inl (one.1 (inr this)) | inr further ↦ inr further ]
      ]),
    )

pub rising_with : (files items : Files) → AreRising (keys_of files) → AreRising (keys_of (with_files files items))
rising_with files [] rising = rising
rising_with files (item ∷ items) rising = rising_with (put files item.0 item.1) items (rising_put item.0 item.1 files rising)

-- the payload is larger by all of them
pub grows_with : (files items : Files) → AreNew files items → ((path octets : List ℕ) → Has items (path, octets) → is_payload path ≡ true)
    → (octet_count (payload_of (with_files files items)) ≡ octet_count (payload_of files) + octet_count items) × (length (payload_of (with_files files items)) ≡ length (payload_of files) + length items)
unfolding octet_count
grows_with files [] are payload = (omega arith, omega arith)
grows_with files (item ∷ items) are payload =
    let one = grows_put item.0 item.1 (payload item.0 item.1 (inl refl)) files are.0 in
    let rest = grows_with (put files item.0 item.1) items (new_yet files items item.0 item.1 are.0 are.1 are.2) (λ path octets has. payload path octets (inr has)) in
    (omega (arith, one.0, rest.0), omega (arith, one.1, rest.1))

-- FILES IN ORDER

pub key_has : (files : Files) (path octets : List ℕ) → Has files (path, octets) → Has (keys_of files) path
key_has [] path octets has = absurd has
key_has (file ∷ files) path octets (inl this) = inl (ap (λ (f : File). f.0) this)
key_has (file ∷ files) path octets (inr further) = inr (key_has files path octets further)

pub rising_new : (files : Files) → AreRising (keys_of files) → AreNew [] files
unfolding IsStrictlySortedBy
rising_new [] rising = tt
rising_new (file ∷ files) rising = (
  λ octets none. none,
  λ octets has.
      let less = all_has (λ other. slice_cmp nat_cmp file.0 other ≡ Less) (keys_of files) file.0 rising.0 (key_has files file.0 octets has) in
      let k : Less ≡ Equal = sym less ∙ tied_itself nat_list_cmp_total file.0 in
      cc,
  rising_new files rising.1,
)

-- files in order, inserted one after another
pub by_path : (files : Files) → AreRising (keys_of files) → with_files [] files ≡ files
unfolding IsStrictlySortedBy
by_path files rising =
    same_list (λ (x y : File). slice_cmp nat_cmp x.0 y.0) (λ x y. asymmetric nat_list_cmp_total x.0 y.0) (with_files [] files) files
    (sorted_by_key (λ (file : File). file.0) (slice_cmp nat_cmp) (with_files [] files) (rising_with [] files tt)) (sorted_by_key (λ (file : File). file.0) (slice_cmp nat_cmp) files rising)
    (λ file has. elim ((has_with [] files file (rising_new files rising)).0 has) [ inl none ↦ absurd none | inr there ↦ there ])
    (λ file has. (has_with [] files file (rising_new files rising)).1 (inr has))
