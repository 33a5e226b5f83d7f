-- The files that are written of a payload: none is there twice, and they are exactly those of its bag.
use Rattle.std.proofs.Common.{◌≡◌, ◌∙◌, ◌↔◌, ◌++◌, ◌∷◌, [], ℕ, Bool, true, false, not, zero, suc, List, take, refl, sym, ap, subst, inl, inr}
use Rattle.std.specs.List.{AllByRecursion, filter}
use Rattle.std.proofs.lemmas.List.Kept.{IsStrictlySortedBy-filter}
use Rattle.bag_rules.proofs.Words.{AreRising, Files, Has, cases_Bool, false≢true, is_payload, keys_of, nat_cmp, slice_cmp}
use Rattle.bag_rules.proofs.PutFiles.{AreNew, key_has, rising_new}
use Rattle.bag_rules.proofs.SameListLemmas.{all_has}
use Rattle.bag_rules.proofs.WantLemmas.{same_or_not}
use Rattle.bag_writer.specs.Steps.{is_hole, written_payload}
use Rattle.bag_writer.specs.WrittenBags.{IsFileOf, IsHole, tag_files}
use Rattle.bag_writer.specs.declared.spec.Hole.{Hole}
use Rattle.bag_writer.specs.declared.spec.Spec.{Spec}
use Rattle.bag_writer.proofs.TagNames.{tags_plain, tags_rise}
use Rattle.bag_rules.proofs.HasLemmas.{has_both}

abbrev File : Type 0
File = List ℕ × List ℕ

-- NONE TWICE

-- files that aren't payload come after those that are
join_new : (payload tags : Files) → AreNew [] payload → AllByRecursion (λ path. is_payload path ≡ true) (keys_of payload) → AllByRecursion (λ path. is_payload path ≡ false) (keys_of tags) → AreNew [] tags → AreNew [] (payload ++ tags)
join_new [] tags new are plain others = others
join_new (file ∷ payload) tags new are plain others = (
  λ octets none. none,
  λ octets has. elim ((has_both payload tags (file.0, octets)).0 has) [
    | inl left ↦ new.1 octets left
    | inr right ↦ false≢true (sym (all_has (λ path. is_payload path ≡ false) (keys_of tags) file.0 plain (key_has tags file.0 octets right)) ∙ are.0)
  ],
  join_new payload tags new.2 are.1 plain others,
)

-- a front of them
pub take_has : {X : Type 0} (n : ℕ) (xs : List X) (x : X) → Has (take n xs) x → Has xs x
take_has zero xs x none = absurd none
take_has (suc n) [] x none = absurd none
take_has (suc n) (first ∷ xs) x (inl is) = inl is
take_has (suc n) (first ∷ xs) x (inr further) = inr (take_has n xs x further)

pub take_new : (n : ℕ) (files : Files) → AreNew [] files → AreNew [] (take n files)
take_new zero files new = tt
take_new (suc n) [] new = tt
take_new (suc n) (file ∷ files) new = (new.0, (λ octets has. new.1 octets (take_has n files (file.0, octets) has)), take_new n files new.2)

-- THOSE OF THE PAYLOAD

hole_has : (holes : List Hole) (path : List ℕ) → is_hole holes path ≡ true → (hole : Hole) × Has holes hole × (hole.path ≡ path)
hole_has [] path e = absurd (cc)
hole_has (hole ∷ holes) path e = elim (same_or_not hole.path path) [
  | inl same ↦ (hole, inl refl, same.0)
  | inr other ↦ (let further : is_hole holes path ≡ true = rw other.1 at e in let rest = hole_has holes path further in (rest.0, inr rest.1, rest.2))
]

has_hole : (holes : List Hole) (hole : Hole) (path : List ℕ) → Has holes hole → hole.path ≡ path → is_hole holes path ≡ true
has_hole [] hole path none e = absurd none
has_hole (first ∷ holes) hole path has e = elim (same_or_not first.path path) [
  | inl same ↦ rw same.1 refl
  | inr other ↦ rw other.1 (elim has [
    | inl is ↦ absurd (other.0 (ap (λ (h : Hole). h.path) is ∙ e))
    | inr further ↦ has_hole holes hole path further e
  ])
]

module _ (spec : Spec) where
  has_written : (payload : Files) (path octets : List ℕ) → Has (written_payload spec payload) (path, octets) ↔ (Has payload (path, octets) × ¬ IsHole spec path)
  has_written [] path octets = (λ none. absurd none, λ both. absurd both.0)
  has_written (file ∷ payload) path octets = let rest = has_written payload path octets in elim (cases_Bool (is_hole spec.holes.items file.0)) [
    | inl hole ↦ rw hole (
      λ has. (let r = rest.0 has in (inr r.0, r.1)),
      λ both. elim both.0 [
        | inl this ↦ absurd (both.1 (subst (λ (p : List ℕ). IsHole spec p) (ap (λ (f : File). f.0) this) (hole_has spec.holes.items file.0 hole)))
        | inr further ↦ rest.1 (further, both.1)
      ],
    )
    | inr other ↦ rw other (
      λ has. elim has [
        | inl this ↦ (inl this, λ h. false≢true (sym other ∙ subst (λ (p : List ℕ). is_hole spec.holes.items p ≡ true) (sym (ap (λ (f : File). f.0) this)) (has_hole spec.holes.items h.0 path h.1 h.2)))
        | inr further ↦ (let r = rest.0 further in (inr r.0, r.1))
      ],
      λ both. elim both.0 [ inl this ↦ inl this | inr further ↦ inr (rest.1 (further, both.1)) ],
    )
  ]

  written_paths : (payload : Files) → keys_of (written_payload spec payload) ≡ filter (λ path. not (is_hole spec.holes.items path)) (keys_of payload)
  written_paths [] = refl
  written_paths (file ∷ payload) = elim (cases_Bool (is_hole spec.holes.items file.0)) [
    | inl hole ↦ rw hole (written_paths payload)
    | inr other ↦ rw other (ap (λ rest. file.0 ∷ rest) (written_paths payload))
  ]

  all_filtered : (P : List ℕ → Type 0) (p : List ℕ → Bool) (paths : List (List ℕ)) → AllByRecursion P paths → AllByRecursion P (filter p paths)
  all_filtered P p [] all = tt
  all_filtered P p (path ∷ paths) all = elim (cases_Bool (p path)) [
    | inl kept ↦ rw kept (all.0, all_filtered P p paths all.1)
    | inr left ↦ rw left (all_filtered P p paths all.1)
  ]

  pub written_are : (payload : Files) → AllByRecursion (λ path. is_payload path ≡ true) (keys_of payload) → AllByRecursion (λ path. is_payload path ≡ true) (keys_of (written_payload spec payload))
  written_are payload are = subst (AllByRecursion (λ path. is_payload path ≡ true)) (sym (written_paths payload)) (all_filtered (λ path. is_payload path ≡ true) (λ path. not (is_hole spec.holes.items path)) (keys_of payload) are)

  module _ (payload : Files) (rising : AreRising (keys_of payload)) (are : AllByRecursion (λ path. is_payload path ≡ true) (keys_of payload)) where
    -- all that are written, in their order
    abbrev pub all_files : Files
    all_files = written_payload spec payload ++ tag_files spec payload

    pub all_new : AreNew [] all_files
    all_new = join_new (written_payload spec payload) (tag_files spec payload)
        (rising_new (written_payload spec payload) (subst AreRising (sym (written_paths payload)) (IsStrictlySortedBy-filter (slice_cmp nat_cmp) (λ path. not (is_hole spec.holes.items path)) (keys_of payload) rising)))
        (written_are payload are)
        (tags_plain spec payload) (rising_new (tag_files spec payload) (tags_rise spec payload))

    pub has_all : (path octets : List ℕ) → Has all_files (path, octets) ↔ IsFileOf spec payload path octets
    has_all path octets =
        let join = has_both (written_payload spec payload) (tag_files spec payload) (path, octets) in
        let some = has_written payload path octets in (
          λ has. elim (join.0 has) [ inl left ↦ inl (some.0 left) | inr tag ↦ inr tag ],
          λ file. join.1 (elim file [ inl left ↦ inl (some.1 left) | inr tag ↦ inr tag ]),
        )
