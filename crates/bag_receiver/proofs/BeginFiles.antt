-- The files with which a transfer is to be opened, the same by path, and which of them are too large.
use Rattle.std.proofs.Common.{◌≡◌, ◌≢◌, ◌⊎◌, ◌↔◌, ◌+◌, ◌≤◌, ◌<◌, ◌++◌, ℕ, true, false, List, [], ◌∷◌, Option, Some, None, length, refl, sym, ap, subst, ◌∙◌, inl, inr, arith, if◌then◌else◌, Vec, get_or, take, string_bytes}
use Rattle.std.specs.Option.{MatchOption}
use Rattle.std.specs.Ordering.{is_le, is_lt}
use Rattle.std.proofs.lemmas.List.{take_more}
use Rattle.std.proofs.lemmas.List.Sums.{fold-append}
use Rattle.std.proofs.Math.Seq.{take-length}
use Rattle.std.proofs.lemmas.Bool.{lt-ltb, le-ltb}
use Rattle.std.proofs.lemmas.Map.Lookups.{exact_bytes}
use Rattle.bag_path.specs.Lines.{lines_of}
use Rattle.bag_rules.proofs.HasLemmas.{has_at, has_from_map, has_map, has_push, place_of_has}
use Rattle.bag_receiver.specs.BeginningInside.{lightened}
use Rattle.bag_receiver.proofs.FileLemmas.{File}
use Rattle.bag_receiver.specs.BeginningInside.{emptied}
use Rattle.bag_receiver.proofs.Words.{Decided, decided_at_most, Equal, FewLines, Files, given_in, Global, Greater, Has, HasManyLinesAt, insert_entry, insert_shown, IsFirstPath, IsHeavyAt, IsLargeAt, keys_of, LARGEST_TAG_FILE, Less, light_tags, map-append, match_ordering, nat_cmp, nat_list_cmp_total, Ordering, ordering_reverse, slice_cmp, String, tied_itself, with_file, with_files}

-- OCTETS, and what replaces too many of them

abbrev pub IsHeavy : List ℕ → Type 0
IsHeavy octets = LARGEST_TAG_FILE < length octets

pub heavy_or_not : (octets : List ℕ) → Decided (IsHeavy octets)
heavy_or_not octets = decided_at_most (LARGEST_TAG_FILE + 1) (length octets)

pub emptied_heavy : (octets : List ℕ) → IsHeavy octets → emptied octets ≡ []
unfolding emptied
emptied_heavy octets heavy = ap (λ b. if b then [] else octets) (lt-ltb LARGEST_TAG_FILE (length octets) heavy)

pub emptied_light : (octets : List ℕ) → ¬ IsHeavy octets → emptied octets ≡ octets
unfolding emptied
emptied_light octets light = ap (λ b. if b then [] else octets) (le-ltb LARGEST_TAG_FILE (length octets) (omega arith))

pub emptied_within : (octets : List ℕ) → length (emptied octets) ≤ LARGEST_TAG_FILE
emptied_within octets = elim (heavy_or_not octets) [
  | inl heavy ↦ omega (arith, ap length (emptied_heavy octets heavy))
  | inr light ↦ omega (arith, ap length (emptied_light octets light))
]

-- ADDING A FILE

module _ (path octets : List ℕ) where
  key_by : (o : Ordering) (e : File) (es : Files) (p : List ℕ) → slice_cmp nat_cmp path e.0 ≡ o
      → (Has (keys_of (with_file es path octets)) p ↔ ((path ≡ p) ⊎ Has (keys_of es) p))
      → Has (keys_of (match_ordering o ((path, octets) ∷ e ∷ es) ((e.0, octets) ∷ es) (e ∷ with_file es path octets))) p ↔ ((path ≡ p) ⊎ Has (keys_of (e ∷ es)) p)
  key_by Less e es p at rest = (λ h. h, λ h. h)
  key_by Equal e es p at rest = (λ h. inr h, λ h. elim h [ inl is ↦ inl (sym (exact_bytes path e.0 at) ∙ is) | inr there ↦ there ])
  key_by Greater e es p at rest = (
    λ h. elim h [ inl is ↦ inr (inl is) | inr there ↦ elim (rest.0 there) [ inl is ↦ inl is | inr old ↦ inr (inr old) ] ],
    λ h. elim h [ inl is ↦ inr (rest.1 (inl is)) | inr there ↦ elim there [ inl is ↦ inl is | inr old ↦ inr (rest.1 (inr old)) ] ],
  )

  key_put : (files : Files) (p : List ℕ) → Has (keys_of (with_file files path octets)) p ↔ ((path ≡ p) ⊎ Has (keys_of files) p)
  key_put [] p = (λ h. h, λ h. h)
  key_put (e ∷ es) p = key_by (slice_cmp nat_cmp path e.0) e es p refl (key_put es p)

  file_by : (o : Ordering) (e : File) (es : Files) (file : File) → slice_cmp nat_cmp path e.0 ≡ o
      → (Has (with_file es path octets) file → ((path, octets) ≡ file) ⊎ Has es file)
      → Has (match_ordering o ((path, octets) ∷ e ∷ es) ((e.0, octets) ∷ es) (e ∷ with_file es path octets)) file
      → ((path, octets) ≡ file) ⊎ Has (e ∷ es) file
  file_by Less e es file at rest h = h
  file_by Equal e es file at rest (inl is) = inl (ap (λ (p : List ℕ). (p, octets)) (exact_bytes path e.0 at) ∙ is)
  file_by Equal e es file at rest (inr has) = inr (inr has)
  file_by Greater e es file at rest (inl is) = inr (inl is)
  file_by Greater e es file at rest (inr has) = elim (rest has) [ inl is ↦ inl is | inr old ↦ inr (inr old) ]

  file_put : (files : Files) (file : File) → Has (with_file files path octets) file → ((path, octets) ≡ file) ⊎ Has files file
  file_put [] file h = h
  file_put (e ∷ es) file h = file_by (slice_cmp nat_cmp path e.0) e es file refl (file_put es file) h

-- ADDING SEVERAL FILES

key_with : (files items : Files) (p : List ℕ) → Has (keys_of (with_files files items)) p ↔ (Has (keys_of files) p ⊎ Has (keys_of items) p)
key_with files [] p = (λ h. inl h, λ h. elim h [ inl has ↦ has | inr none ↦ absurd none ])
key_with files (item ∷ items) p =
    let one = key_put item.0 item.1 files p in
    let rest = key_with (with_file files item.0 item.1) items p in (
      λ h. elim (rest.0 h) [
        | inl early ↦ elim (one.0 early) [ inl is ↦ inr (inl is) | inr old ↦ inl old ]
        | inr later ↦ inr (inr later)
      ],
      λ h. rest.1 (elim h [
        | inl old ↦ inl (one.1 (inr old))
        | inr more ↦ elim more [ inl is ↦ inl (one.1 (inl is)) | inr later ↦ inr later ]
      ]),
    )

file_with : (files items : Files) (file : File) → Has (with_files files items) file → Has files file ⊎ Has items file
file_with files [] file h = inl h
file_with files (item ∷ items) file h = elim (file_with (with_file files item.0 item.1) items file h) [
  | inl early ↦ elim (file_put item.0 item.1 files file early) [ inl is ↦ inr (inl is) | inr old ↦ inl old ]
  | inr later ↦ inr (inr later)
]

pub given_file : (given : Files) (file : File) → Has (with_files [] given) file → Has given file
given_file given file h = elim (file_with [] given file h) [ inl none ↦ absurd none | inr has ↦ has ]

-- THE FILES WITHOUT OCTETS IN EXCESS

light_keys : (given : Files) → keys_of (lightened given) ≡ keys_of given
light_keys [] = refl
light_keys (file ∷ given) = ap (λ keys. file.0 ∷ keys) (light_keys given)

pub key_light : (given : Files) (p : List ℕ) → Has (keys_of (light_tags given)) p ↔ Has (keys_of given) p
key_light given p =
    let one = key_with [] (lightened given) p in (
      λ h. elim (one.0 h) [ inl none ↦ absurd none | inr has ↦ subst (λ keys. Has keys p) (light_keys given) has ],
      λ h. one.1 (inr (subst (λ keys. Has keys p) (sym (light_keys given)) h)),
    )

light_put : (files : Files) (path octets : List ℕ) → lightened (with_file files path octets) ≡ with_file (lightened files) path (emptied octets)
light_put files path octets = insert_shown (λ (p : List ℕ). p) emptied (slice_cmp nat_cmp) (λ k q. refl) files path octets

light_with : (files items : Files) → with_files (lightened files) (lightened items) ≡ lightened (with_files files items)
light_with files [] = refl
light_with files (item ∷ items) =
    ap (λ fs. with_files fs (lightened items)) (sym (light_put files item.0 item.1)) ∙ light_with (with_file files item.0 item.1) items

pub light_tags_are : (given : Files) → light_tags given ≡ lightened (with_files [] given)
light_tags_are given = light_with [] given

-- no file has too many
pub all_light : (given : Files) → ((path : List ℕ) → ¬ IsHeavyAt given path) → lightened given ≡ given
all_light [] none = refl
all_light (file ∷ given) none =
    ap (λ (octets : List ℕ). (file.0, octets) ∷ lightened given) (emptied_light file.1 (λ heavy. none file.0 (file.1, inl refl, heavy)))
    ∙ ap (λ rest. file ∷ rest) (all_light given (λ path heavy. none path (heavy.0, inr heavy.1, heavy.2)))

-- TOO MANY LINES

no_lines : length (lines_of []) ≡ 0
unfolding lines_of
no_lines = refl

module _ (files : Files) (path : List ℕ) where
  many_before : HasManyLinesAt (lightened files) path → HasManyLinesAt files path
  many_before (file, (octets, named, (i, at), counted, many)) =
      let one = has_from_map (λ (f : File). (f.0, emptied f.1)) files (path, octets) (has_at (lightened files) i (path, octets) at) in
      let own = one.0 in
      let same_path : own.0 ≡ path = ap (λ (f : File). f.0) one.2 in
      let same_octets : emptied own.1 ≡ octets = ap (λ (f : File). f.1) one.2 in
      elim (heavy_or_not own.1) [
        | inl heavy ↦
            let nothing : octets ≡ [] = sym same_octets ∙ emptied_heavy own.1 heavy in
            absurd (omega (arith, many, ap (λ o. length (lines_of o)) nothing, no_lines))
        | inr light ↦
            let whole : own.1 ≡ octets = sym (emptied_light own.1 light) ∙ same_octets in
            (file, (octets, named, place_of_has files (path, octets) (subst (λ p. Has files (p, octets)) same_path (subst (λ o. Has files (own.0, o)) whole one.1)), counted, many))
      ]

  many_after : HasManyLinesAt files path → ((octets : List ℕ) × Has files (path, octets) × IsHeavy octets) ⊎ HasManyLinesAt (lightened files) path
  many_after (file, (octets, named, (i, at), counted, many)) =
      let has = has_at files i (path, octets) at in
      elim (heavy_or_not octets) [
        | inl heavy ↦ inl (octets, has, heavy)
        | inr light ↦ inr (file, (octets, named, place_of_has (lightened files) (path, octets) (subst (λ o. Has (lightened files) (path, o)) (emptied_light octets light) (has_map (λ (f : File). (f.0, emptied f.1)) files (path, octets) has)), counted, many))
      ]

-- a file is too large because of its octets, or because of its lines if the files with too many octets are empty
module _ (given : Files) (path : List ℕ) where
  pub many_large : HasManyLinesAt (light_tags given) path → IsLargeAt given path
  many_large many = inr (many_before (with_files [] given) path (subst (λ fs. HasManyLinesAt fs path) (light_tags_are given) many))

  pub large_by : IsLargeAt given path → IsHeavyAt given path ⊎ HasManyLinesAt (light_tags given) path
  large_by (inl heavy) = inl heavy
  large_by (inr many) = elim (many_after (with_files [] given) path many) [
    | inl heavy ↦ inl (heavy.0, given_file given (path, heavy.0) heavy.1, heavy.2)
    | inr light ↦ inr (subst (λ fs. HasManyLinesAt fs path) (sym (light_tags_are given)) light)
  ]

-- THE FIRST BY PATH

abbrev IsAtMost : List ℕ → List ℕ → Type 0
IsAtMost x y = slice_cmp nat_cmp x y ≢ Greater

at_most_by : (x y z : List ℕ) (p q : Ordering) → slice_cmp nat_cmp x y ≡ p → slice_cmp nat_cmp y z ≡ q → IsAtMost x y → IsAtMost y z → IsAtMost x z
at_most_by x y z Less Less a b h k = λ e. (let less = nat_list_cmp_total.trans x y z a b in let l : Less ≡ Greater = sym less ∙ e in cc)
at_most_by x y z Less Equal a b h k = subst (IsAtMost x) (exact_bytes y z b) h
at_most_by x y z Less Greater a b h k = absurd (k b)
at_most_by x y z Equal q a b h k = subst (λ o. IsAtMost o z) (sym (exact_bytes x y a)) k
at_most_by x y z Greater q a b h k = absurd (h a)

at_most_through : (x y z : List ℕ) → IsAtMost x y → IsAtMost y z → IsAtMost x z
at_most_through x y z h k = at_most_by x y z (slice_cmp nat_cmp x y) (slice_cmp nat_cmp y z) refl refl h k

more_at_most : (x y : List ℕ) (o : Ordering) → slice_cmp nat_cmp x y ≡ o → o ≢ Less → IsAtMost y x
more_at_most x y Less is other = absurd (other refl)
more_at_most x y Equal is other = λ e. (let same = exact_bytes x y is in let l : Equal ≡ Greater = sym (subst (λ z. slice_cmp nat_cmp z y ≡ Equal) same is) ∙ subst (λ z. slice_cmp nat_cmp y z ≡ Greater) same e in cc)
more_at_most x y Greater is other = λ e. (let turned = nat_list_cmp_total.antisymm x y ∙ ap ordering_reverse e in let l : Greater ≡ Less = sym is ∙ turned in cc)

at_most_itself : (x : List ℕ) → IsAtMost x x
at_most_itself x = λ e. (let l : Equal ≡ Greater = sym (tied_itself nat_list_cmp_total x) ∙ e in cc)

le_by : (o : Ordering) → is_le o ≡ true → o ≢ Greater
le_by Less is = λ e. cc
le_by Equal is = λ e. cc
le_by Greater is = absurd (let h : false ≡ true = is in cc)

not_le_by : (o : Ordering) → is_le o ≡ false → o ≢ Less
not_le_by Less is = absurd (let h : true ≡ false = is in cc)
not_le_by Equal is = absurd (let h : true ≡ false = is in cc)
not_le_by Greater is = λ e. cc

-- of two
module _ (x y : List ℕ) where
  pub first_is_left : is_le (slice_cmp nat_cmp x y) ≡ true → IsFirstPath (λ one. (one ≡ x) ⊎ (one ≡ y)) x
  first_is_left le = record {
    has = inl refl;
    first = λ other h. elim h [ inl e ↦ subst (IsAtMost x) (sym e) (at_most_itself x) | inr e ↦ subst (IsAtMost x) (sym e) (le_by (slice_cmp nat_cmp x y) le) ];
  }

  pub first_is_right : is_le (slice_cmp nat_cmp x y) ≡ false → IsFirstPath (λ one. (one ≡ x) ⊎ (one ≡ y)) y
  first_is_right greater = record {
    has = inr refl;
    first = λ other h. elim h [
      | inl e ↦ subst (IsAtMost y) (sym e) (more_at_most x y (slice_cmp nat_cmp x y) refl (not_le_by (slice_cmp nat_cmp x y) greater))
      | inr e ↦ subst (IsAtMost y) (sym e) (at_most_itself y)
    ];
  }

lt_by : (o : Ordering) → is_lt o ≡ true → o ≢ Greater
lt_by Less is = λ e. cc
lt_by Equal is = absurd (let h : false ≡ true = is in cc)
lt_by Greater is = absurd (let h : false ≡ true = is in cc)

not_lt_by : (o : Ordering) → is_lt o ≡ false → o ≢ Less
not_lt_by Less is = absurd (let h : true ≡ false = is in cc)
not_lt_by Equal is = λ e. cc
not_lt_by Greater is = λ e. cc

pub at_most_if_less : (x y : List ℕ) → is_lt (slice_cmp nat_cmp x y) ≡ true → IsAtMost x y
at_most_if_less x y less = lt_by (slice_cmp nat_cmp x y) less

pub at_most_if_not_less : (x y : List ℕ) → is_lt (slice_cmp nat_cmp x y) ≡ false → IsAtMost y x
at_most_if_not_less x y other = more_at_most x y (slice_cmp nat_cmp x y) refl (not_lt_by (slice_cmp nat_cmp x y) other)

module _ (given : Files) (large : List ℕ) (first : IsFirstPath (IsHeavyAt given) large) where
  -- no file has too many lines
  pub first_by_octets : FewLines (light_tags given) → IsFirstPath (IsLargeAt given) large
  first_by_octets few = record {
    has = inl first.has;
    first = λ other is. elim (large_by given other is) [ inl heavy ↦ first.first other heavy | inr many ↦ absurd (few other many) ];
  }

  -- the first that does comes before, or it doesn't
  module _ (path : List ℕ) (lines : IsFirstPath (HasManyLinesAt (light_tags given)) path) where
    pub first_by_lines : IsAtMost path large → IsFirstPath (IsLargeAt given) path
    first_by_lines before = record {
      has = many_large given path lines.has;
      first = λ other is. elim (large_by given other is) [
        | inl heavy ↦ at_most_through path large other before (first.first other heavy)
        | inr many ↦ lines.first other many
      ];
    }

    pub first_of_both : IsAtMost large path → IsFirstPath (IsLargeAt given) large
    first_of_both before = record {
      has = inl first.has;
      first = λ other is. elim (large_by given other is) [
        | inl heavy ↦ first.first other heavy
        | inr many ↦ at_most_through large path other before (lines.first other many)
      ];
    }

-- THE FIRST AMONG THE FILES SO FAR, and one more

module _ (front : Files) (file : File) where
  heavy_more : (path : List ℕ) → IsHeavyAt (front ++ file ∷ []) path → IsHeavyAt front path ⊎ ((file.0 ≡ path) × IsHeavy file.1)
  heavy_more path (octets, has, heavy) = elim ((has_push front file (path, octets)).0 has) [
    | inl old ↦ inl (octets, old, heavy)
    | inr is ↦ inr (ap (λ (f : File). f.0) is, subst IsHeavy (sym (ap (λ (f : File). f.1) is)) heavy)
  ]

  heavy_still : (path : List ℕ) → IsHeavyAt front path → IsHeavyAt (front ++ file ∷ []) path
  heavy_still path (octets, has, heavy) = (octets, (has_push front file (path, octets)).1 (inl has), heavy)

  heavy_here : IsHeavy file.1 → IsHeavyAt (front ++ file ∷ []) file.0
  heavy_here heavy = (file.1, (has_push front file file).1 (inr refl), heavy)

  pub none_still : ¬ IsHeavy file.1 → ((path : List ℕ) → ¬ IsHeavyAt front path) → (path : List ℕ) → ¬ IsHeavyAt (front ++ file ∷ []) path
  none_still light none path h = elim (heavy_more path h) [ inl old ↦ none path old | inr new ↦ light new.1 ]

  pub first_still : (first : List ℕ) → ¬ IsHeavy file.1 → IsFirstPath (IsHeavyAt front) first → IsFirstPath (IsHeavyAt (front ++ file ∷ [])) first
  first_still first light is = record {
    has = heavy_still first is.has;
    first = λ other h. elim (heavy_more other h) [ inl old ↦ is.first other old | inr new ↦ absurd (light new.1) ];
  }

  pub first_here : IsHeavy file.1 → ((path : List ℕ) → ¬ IsHeavyAt front path) → IsFirstPath (IsHeavyAt (front ++ file ∷ [])) file.0
  first_here heavy none = record {
    has = heavy_here heavy;
    first = λ other h. elim (heavy_more other h) [
      | inl old ↦ absurd (none other old)
      | inr new ↦ subst (IsAtMost file.0) new.0 (at_most_itself file.0)
    ];
  }

  pub first_of_two : IsHeavy file.1 → (old new : List ℕ) → IsFirstPath (IsHeavyAt front) old → IsFirstPath (λ one. (one ≡ old) ⊎ (one ≡ file.0)) new
      → IsFirstPath (IsHeavyAt (front ++ file ∷ [])) new
  first_of_two heavy old new is least = record {
    has = elim least.has [
      | inl e ↦ subst (IsHeavyAt (front ++ file ∷ [])) (sym e) (heavy_still old is.has)
      | inr e ↦ subst (IsHeavyAt (front ++ file ∷ [])) (sym e) (heavy_here heavy)
    ];
    first = λ other h. elim (heavy_more other h) [
      | inl before ↦ at_most_through new old other (least.first old (inl refl)) (is.first other before)
      | inr here ↦ subst (IsAtMost new) here.0 (least.first file.0 (inr refl))
    ];
  }

  -- the first of them stays the first, or there still is none
  pub heavy_stays : {X : Type 0} (text : X → List ℕ) (found : Option X) → ¬ IsHeavy file.1
      → MatchOption found ((path : List ℕ) → ¬ IsHeavyAt front path) (λ x. IsFirstPath (IsHeavyAt front) (text x))
      → MatchOption found ((path : List ℕ) → ¬ IsHeavyAt (front ++ file ∷ []) path) (λ x. IsFirstPath (IsHeavyAt (front ++ file ∷ [])) (text x))
  heavy_stays text None light none = none_still light none
  heavy_stays text (Some x) light first = first_still (text x) light first

-- THE FILES SO FAR, as the loops continue

abbrev pub Handed : Type 0
Handed = String Global × Vec ℕ Global

-- a file as it is given
abbrev pub shown_file : Handed → File
shown_file file = (string_bytes file.0, file.1.items)

pub given_more : (files : List Handed) (i : ℕ) (file : Handed) → i < length files → file ≡ get_or files i file
    → given_in (take (i + 1) files) ≡ given_in (take i files) ++ shown_file file ∷ []
given_more files i file below here =
    ap given_in (take_more files i file below ∙ ap (λ (f : Handed). take i files ++ f ∷ []) (sym here)) ∙ map-append shown_file (take i files) (file ∷ [])

pub given_all : (files : List Handed) (i : ℕ) → i ≡ length files → given_in (take i files) ≡ given_in files
given_all files i end = ap given_in (ap (λ (k : ℕ). take k files) end ∙ take-length files)

-- one more file, without octets in excess
pub light_more : (front : Files) (file : File) → light_tags (front ++ file ∷ []) ≡ with_file (light_tags front) file.0 (emptied file.1)
light_more front file =
    ap (with_files []) (map-append (λ (f : File). (f.0, emptied f.1)) front (file ∷ []))
    ∙ fold-append (λ (all : Files) (f : File). insert_entry (slice_cmp nat_cmp) all f.0 f.1) [] (lightened front) (lightened (file ∷ []))
