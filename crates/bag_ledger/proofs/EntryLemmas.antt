-- Entries of a map in memory, read by the octets of their keys.
use Rattle.std.proofs.Common.{◌≡◌, ℕ, Bool, true, false, List, [], ◌∷◌, Option, Some, None, cond, map, refl, sym, ap, ◌∙◌, is_eq, if◌then◌else◌}
use Rattle.std.specs.BTreeMap.{insert_entry}
use Rattle.std.specs.Cmp.Lexicographic.{slice_cmp}
use Rattle.std.specs.List.{AllByRecursion}
use Rattle.std.specs.List.Sorted.{IsStrictlySortedBy}
use Rattle.std.specs.Map.{keys_of, lookup, set_value}
use Rattle.std.specs.Option.{option_map}
use Rattle.std.specs.Ordering.{match_ordering, nat_cmp}
use Rattle.std.specs.Str.{bytes_eq}
use Rattle.std.specs.declared.cmp.Ordering.{Ordering}
use Rattle.std.specs.declared.cmp.Ordering.TheVariants.{Equal, Greater, Less}
use Rattle.std.proofs.lemmas.Map.{none_passes_from_lookup}
use Rattle.std.proofs.lemmas.Map.Keys.{sorted_head, sorted_tail}
use Rattle.std.proofs.lemmas.Map.Text.{is_eq-slice_cmp}
use Rattle.std.proofs.lemmas.Option.{same_Some}
use Rattle.std.proofs.lemmas.Slice.Eq.{bytes_eq-Decides}

-- each key as octets, with the meaning of its value
abbrev pub shown : {K X Y : Type 0} → (K → List ℕ) → (X → Y) → List (K × X) → List (List ℕ × Y)
shown {K} {X} {Y} octets means es = map (λ (e : K × X). (octets e.0, means e.1)) es

-- h of the value at these octets
abbrev pub changed : {Y : Type 0} → List ℕ → (Y → Y) → List (List ℕ × Y) → List (List ℕ × Y)
changed {Y} bs h es = map (λ (e : List ℕ × Y). (e.0, if bytes_eq bs e.0 then h e.1 else e.1)) es

-- the test compares with these octets
abbrev pub IsTestFor : {K : Type 0} → (K → List ℕ) → (K → Bool) → List ℕ → Type 0
IsTestFor {K} octets test bs = (k : K) → test k ≡ bytes_eq bs (octets k)

cond_map : {X Y : Type 0} (f : X → Y) (b : Bool) (x : X) (o : Option X) → cond b (Some (f x)) (option_map f o) ≡ option_map f (cond b (Some x) o)
cond_map f true x o = refl
cond_map f false x o = refl

pub lookup_shown : {K X Y : Type 0} (octets : K → List ℕ) (means : X → Y) (test : K → Bool) (bs : List ℕ) → IsTestFor octets test bs → (es : List (K × X))
    → lookup (bytes_eq bs) (shown octets means es) ≡ option_map means (lookup test es)
lookup_shown octets means test bs agree [] = refl
lookup_shown octets means test bs agree (e ∷ es) =
    ap (λ b. cond b (Some (means e.1)) (lookup (bytes_eq bs) (shown octets means es))) (sym (agree e.0))
    ∙ ap (λ o. cond (test e.0) (Some (means e.1)) o) (lookup_shown octets means test bs agree es)
    ∙ cond_map means (test e.0) e.1 (lookup test es)

match_map : {X Y : Type 0} (f : X → Y) (o : Ordering) (a b c : X) → f (match_ordering o a b c) ≡ match_ordering o (f a) (f b) (f c)
match_map f Less a b c = refl
match_map f Equal a b c = refl
match_map f Greater a b c = refl

pub insert_shown : {K X Y : Type 0} (octets : K → List ℕ) (means : X → Y) (cmp : K → K → Ordering) → ((k q : K) → cmp k q ≡ slice_cmp nat_cmp (octets k) (octets q))
    → (es : List (K × X)) (k : K) (v : X) → shown octets means (insert_entry cmp es k v) ≡ insert_entry (slice_cmp nat_cmp) (shown octets means es) (octets k) (means v)
insert_shown octets means cmp agree [] k v = refl
insert_shown {Y = Y} octets means cmp agree (e ∷ es) k v =
    let head : List ℕ × Y = (octets e.0, means e.1) in
    match_map (shown octets means) (cmp k e.0) ((k, v) ∷ e ∷ es) ((e.0, v) ∷ es) (e ∷ insert_entry cmp es k v)
    ∙ ap (λ o. match_ordering o ((octets k, means v) ∷ head ∷ shown octets means es) ((octets e.0, means v) ∷ shown octets means es) (head ∷ shown octets means (insert_entry cmp es k v))) (agree k e.0)
    ∙ ap (λ rest. match_ordering (slice_cmp nat_cmp (octets k) (octets e.0)) ((octets k, means v) ∷ head ∷ shown octets means es) ((octets e.0, means v) ∷ shown octets means es) (head ∷ rest)) (insert_shown octets means cmp agree es k v)

-- a change at octets that no key has
module _ {K X Y : Type 0} (octets : K → List ℕ) (means : X → Y) (test : K → Bool) (bs : List ℕ) (agree : IsTestFor octets test bs) (h : Y → Y) where
  unchanged : (es : List (K × X)) → AllByRecursion (λ (e : K × X). test e.0 ≡ false) es → changed bs h (shown octets means es) ≡ shown octets means es
  unchanged [] none = refl
  unchanged (e ∷ es) none =
      ap (λ b. (octets e.0, if b then h (means e.1) else means e.1) ∷ changed bs h (shown octets means es)) (sym (agree e.0) ∙ none.0)
      ∙ ap (λ rest. (octets e.0, means e.1) ∷ rest) (unchanged es none.1)

  pub changed_nowhere : (es : List (K × X)) → lookup test es ≡ None → changed bs h (shown octets means es) ≡ shown octets means es
  changed_nowhere es absent = unchanged es (none_passes_from_lookup test es absent)

  module _ (cmp : K → K → Ordering) (order : (k q : K) → cmp k q ≡ slice_cmp nat_cmp (octets k) (octets q)) where
    -- a key after the one with these octets has different octets
    others : (k : K) → test k ≡ true → (es : List (K × X)) → AllByRecursion (λ y. cmp k y ≡ Less) (keys_of es) → AllByRecursion (λ (e : K × X). test e.0 ≡ false) es
    others k here [] after = tt
    others k here (e ∷ es) after =
        let same : bs ≡ octets k = (bytes_eq-Decides bs (octets k)).0 (sym (agree k) ∙ here) in
        (agree e.0 ∙ ap (λ s. bytes_eq s (octets e.0)) same ∙ sym (is_eq-slice_cmp (octets k) (octets e.0)) ∙ ap is_eq (sym (order k e.0) ∙ after.0), others k here es after.1)

    step : (b : Bool) (e : K × X) (es : List (K × X)) (x w : X) → test e.0 ≡ b → means w ≡ h (means x) → IsStrictlySortedBy cmp (keys_of (e ∷ es)) → cond b (Some e.1) (lookup test es) ≡ Some x
        → (lookup test es ≡ Some x → shown octets means (set_value test es w) ≡ changed bs h (shown octets means es))
        → shown octets means (cond b ((e.0, w) ∷ es) (e ∷ set_value test es w)) ≡ (octets e.0, if b then h (means e.1) else means e.1) ∷ changed bs h (shown octets means es)
    step true e es x w at value sorted here rest =
        ap (λ y. (octets e.0, y) ∷ shown octets means es) (value ∙ ap (λ v. h (means v)) (sym (same_Some e.1 x here)))
        ∙ ap (λ tail. (octets e.0, h (means e.1)) ∷ tail) (sym (unchanged es (others e.0 at es (sorted_head cmp e.0 (keys_of es) sorted))))
    step false e es x w at value sorted here rest = ap (λ tail. (octets e.0, means e.1) ∷ tail) (rest here)

    -- a value written at octets that a key has
    pub set_shown : (es : List (K × X)) (x w : X) → lookup test es ≡ Some x → means w ≡ h (means x) → IsStrictlySortedBy cmp (keys_of es)
        → shown octets means (set_value test es w) ≡ changed bs h (shown octets means es)
    set_shown [] x w here value sorted = absurd (let e : ◌≡◌ {A = Option X} None (Some x) = here in cc)
    set_shown (e ∷ es) x w here value sorted =
        step (test e.0) e es x w refl value sorted here (λ there. set_shown es x w there value (sorted_tail cmp e.0 (keys_of es) sorted))
        ∙ ap (λ b. (octets e.0, if b then h (means e.1) else means e.1) ∷ changed bs h (shown octets means es)) (agree e.0)

either : {Y : Type 0} (b : Bool) (y : Y) → (if b then y else y) ≡ y
either true y = refl
either false y = refl

pub changed_to_same : {Y : Type 0} (bs : List ℕ) (es : List (List ℕ × Y)) → changed bs (λ y. y) es ≡ es
changed_to_same bs [] = refl
changed_to_same bs (e ∷ es) = ap (λ y. (e.0, y) ∷ changed bs (λ y. y) es) (either (bytes_eq bs e.0) e.1) ∙ ap (λ rest. e ∷ rest) (changed_to_same bs es)

-- a list mapped from a list that is itself mapped
pub map_twice : {A B C : Type 0} (f : A → B) (g : B → C) (xs : List A) → map g (map f xs) ≡ map (λ x. g (f x)) xs
map_twice f g [] = refl
map_twice f g (x ∷ xs) = ap (λ rest. g (f x) ∷ rest) (map_twice f g xs)
