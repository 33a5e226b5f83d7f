-- Files by path: what is there after a file was added at a free path, and when two lists of files are the same.
use Rattle.std.proofs.Common.{◌≡◌, ◌≢◌, ◌⊎◌, ◌↔◌, ℕ, List, [], ◌∷◌, Contains, refl, sym, ap, ◌∙◌, inl, inr}
use Rattle.std.specs.List.Sorted.{IsStrictlySortedBy}
use Rattle.bag_receiver.proofs.Words.{AllByRecursion, AreRising, asymmetric, bytes_eq-Decides, contains_from_has, Decided, Equal, Files, Greater, Has, has_from_contains, is_eq, is_eq-slice_cmp, keys_of, Less, match_ordering, nat_cmp, nat_list_cmp_total, Ordering, ordering_reverse, same_list, slice_cmp, sorted_by_key, with_file}
use Rattle.bag_rules.proofs.PutFiles.{key_has}
use Rattle.bag_rules.proofs.ValidityLemmas.{decided_octets}
use Rattle.bag_rules.proofs.MemoryFiles.{all_after}

abbrev pub File : Type 0
File = List ℕ × List ℕ

-- A PATH IS HELD

has_key : (files : Files) (path : List ℕ) → Has (keys_of files) path → (content : List ℕ) × Has files (path, content)
has_key [] path h = absurd h
has_key (file ∷ files) path (inl e) = (file.1, inl (ap (λ (p : List ℕ). (p, file.1)) e))
has_key (file ∷ files) path (inr h) = let k = has_key files path h in (k.0, inr k.1)

pub content_held : (files : Files) (path : List ℕ) → Contains (keys_of files) path → (content : List ℕ) × Has files (path, content)
content_held files path h = has_key files path (has_from_contains (keys_of files) path h)

pub path_held : (files : Files) (path content : List ℕ) → Has files (path, content) → Contains (keys_of files) path
path_held files path content h = contains_from_has (keys_of files) path (key_has files path content h)

has_or_not : (paths : List (List ℕ)) (path : List ℕ) → Decided (Has paths path)
has_or_not [] path = inr (λ h. h)
has_or_not (first ∷ paths) path = elim (decided_octets first path) [
  | inl e ↦ inl (inl e)
  | inr other ↦ elim (has_or_not paths path) [ inl h ↦ inl (inr h) | inr away ↦ inr (λ h. elim h [ inl e ↦ other e | inr k ↦ away k ]) ]
]

pub held_or_not : (files : Files) (path : List ℕ) → Decided (Contains (keys_of files) path)
held_or_not files path = elim (has_or_not (keys_of files) path) [
  | inl h ↦ inl (contains_from_has (keys_of files) path h)
  | inr away ↦ inr (λ h. away (has_from_contains (keys_of files) path h))
]

-- ONE FILE ADDED

module _ (path content : List ℕ) where
  equal_is_same : (other : List ℕ) → slice_cmp nat_cmp path other ≡ Equal → path ≡ other
  equal_is_same other e = (bytes_eq-Decides path other).0 (sym (is_eq-slice_cmp path other) ∙ ap is_eq e)

  put_step : (file : File) (files : Files) (r : Ordering) → slice_cmp nat_cmp path file.0 ≡ r → with_file (file ∷ files) path content ≡ match_ordering r ((path, content) ∷ file ∷ files) ((file.0, content) ∷ files) (file ∷ with_file files path content)
  put_step file files r h = ap (λ o. match_ordering o ((path, content) ∷ file ∷ files) ((file.0, content) ∷ files) (file ∷ with_file files path content)) h

  -- it is there, and so are the earlier ones
  put_at : (file : File) (files : Files) (r : Ordering) → slice_cmp nat_cmp path file.0 ≡ r → path ≢ file.0 → (other : File)
      → (Has (with_file files path content) other ↔ (Has files other ⊎ ((path, content) ≡ other)))
      → Has (match_ordering r ((path, content) ∷ file ∷ files) ((file.0, content) ∷ files) (file ∷ with_file files path content)) other ↔ (Has (file ∷ files) other ⊎ ((path, content) ≡ other))
  put_at file files Less h apart other rest = (λ k. elim k [ inl e ↦ inr e | inr there ↦ inl there ], λ k. elim k [ inl there ↦ inr there | inr e ↦ inl e ])
  put_at file files Equal h apart other rest = absurd (apart (equal_is_same file.0 h))
  put_at file files Greater h apart other rest = (
    λ k. elim k [ inl e ↦ inl (inl e) | inr there ↦ elim (rest.0 there) [ inl old ↦ inl (inr old) | inr e ↦ inr e ] ],
    λ k. elim k [ inl old ↦ elim old [ inl e ↦ inl e | inr there ↦ inr (rest.1 (inl there)) ] | inr e ↦ inr (rest.1 (inr e)) ],
  )

  pub has_with_file : (files : Files) → ¬ Has (keys_of files) path → (other : File) → Has (with_file files path content) other ↔ (Has files other ⊎ ((path, content) ≡ other))
  has_with_file [] away other = (λ k. elim k [ inl e ↦ inr e | inr none ↦ absurd none ], λ k. elim k [ inl none ↦ absurd none | inr e ↦ inl e ])
  has_with_file (file ∷ files) away other = put_at file files (slice_cmp nat_cmp path file.0) refl (λ e. away (inl (sym e))) other (has_with_file files (λ h. away (inr h)) other)

  -- the order of the paths is kept
  below_at : (x : List ℕ) (file : File) (files : Files) (r : Ordering) → slice_cmp nat_cmp x path ≡ Less → AllByRecursion (λ z. slice_cmp nat_cmp x z ≡ Less) (keys_of (file ∷ files))
      → AllByRecursion (λ z. slice_cmp nat_cmp x z ≡ Less) (keys_of (with_file files path content))
      → AllByRecursion (λ z. slice_cmp nat_cmp x z ≡ Less) (keys_of (match_ordering r ((path, content) ∷ file ∷ files) ((file.0, content) ∷ files) (file ∷ with_file files path content)))
  below_at x file files Less less all rest = (less, all)
  below_at x file files Equal less all rest = all
  below_at x file files Greater less all rest = (all.0, rest)

  below : (x : List ℕ) (files : Files) → slice_cmp nat_cmp x path ≡ Less → AllByRecursion (λ z. slice_cmp nat_cmp x z ≡ Less) (keys_of files) → AllByRecursion (λ z. slice_cmp nat_cmp x z ≡ Less) (keys_of (with_file files path content))
  below x [] less all = (less, tt)
  below x (file ∷ files) less all = below_at x file files (slice_cmp nat_cmp path file.0) less all (below x files less all.1)

  rising_at : (file : File) (files : Files) (r : Ordering) → slice_cmp nat_cmp path file.0 ≡ r → AreRising (keys_of (file ∷ files)) → AreRising (keys_of (with_file files path content))
      → AreRising (keys_of (match_ordering r ((path, content) ∷ file ∷ files) ((file.0, content) ∷ files) (file ∷ with_file files path content)))
  unfolding IsStrictlySortedBy
  rising_at file files Less h rising rest = ((h, all_after path file.0 (keys_of files) h rising.0), rising)
  rising_at file files Equal h rising rest = rising
  rising_at file files Greater h rising rest = (below file.0 files (nat_list_cmp_total.antisymm file.0 path ∙ ap ordering_reverse h) rising.0, rest)

  pub rising_with_file : (files : Files) → AreRising (keys_of files) → AreRising (keys_of (with_file files path content))
  unfolding IsStrictlySortedBy
  rising_with_file [] rising = (tt, tt)
  rising_with_file (file ∷ files) rising = rising_at file files (slice_cmp nat_cmp path file.0) refl rising (rising_with_file files rising.1)

-- THE SAME FILES

pub same_files : (files others : Files) → AreRising (keys_of files) → AreRising (keys_of others) → ((path content : List ℕ) → Has files (path, content) ↔ Has others (path, content)) → files ≡ others
same_files files others p q same =
    let key : File → List ℕ = λ f. f.0 in
    same_list (λ (f g : File). slice_cmp nat_cmp f.0 g.0) (λ f g. asymmetric nat_list_cmp_total f.0 g.0) files others
    (sorted_by_key key (slice_cmp nat_cmp) files p) (sorted_by_key key (slice_cmp nat_cmp) others q)
    (λ f. (same f.0 f.1).0) (λ f. (same f.0 f.1).1)
