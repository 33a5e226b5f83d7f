-- The sizes of payload files that are valid, in the order of their paths.
use Rattle.std.proofs.Common.{◌≡◌, ◌∙◌, ◌+◌, ◌-◌, ◌++◌, ◌∷◌, [], zero, suc, ℕ, Bool, true, false, List, None, Some, IsTrue, append_assoc, get_or, length, slice_get, refl, sym, ap, subst, inl, inr, arith}
use Rattle.std.proofs.lemmas.Option.{slice_get-get_or, slice_get_within}
use Rattle.std.specs.Ordering.{is_lt}
use Rattle.std.specs.List.Sorted.{IsStrictlySortedBy}
use Rattle.bag_rules.proofs.HasLemmas.{has_at, has_push, all_last}
use Rattle.bag_rules.proofs.ReportLemmas.{item_keys}
use Rattle.bag_rules.proofs.SameListLemmas.{all_has}
use Rattle.bag_rules.specs.declared.plan.ItemSize.{ItemSize}
use Rattle.bag_rules.specs.Plans.{item_paths, sizes_of}
use Rattle.bag_receiver.specs.Holdings.{AreValidSizes, IsPlanFor, SomePass}
use Rattle.bag_receiver.proofs.Words.{AllByRecursion, AreRising, Equal, Files, Greater, items_of, Ledger, length-map, Less, map-append, nat_cmp, nat_list_cmp_total, option_map, Ordering, Passes, Plan, slice_cmp, slice_get-map}

-- PATHS IN ORDER

all_before : {X : Type 0} (P : X → Type 0) (xs ys : List X) → AllByRecursion P (xs ++ ys) → AllByRecursion P xs
all_before P [] ys all = tt
all_before P (x ∷ xs) ys all = (all.0, all_before P xs ys all.1)

last_of_all : {X : Type 0} (P : X → Type 0) (xs : List X) (x : X) → AllByRecursion P (xs ++ x ∷ []) → P x
last_of_all P [] x all = all.0
last_of_all P (y ∷ xs) x all = last_of_all P xs x all.1

rising_before : (paths others : List (List ℕ)) → AreRising (paths ++ others) → AreRising paths
unfolding IsStrictlySortedBy
rising_before [] others rising = tt
rising_before (path ∷ paths) others rising = (all_before (λ other. slice_cmp nat_cmp path other ≡ Less) paths others rising.0, rising_before paths others rising.1)

-- all these paths are less
abbrev AreLess : List (List ℕ) → List ℕ → Type 0
AreLess paths path = AllByRecursion (λ other. slice_cmp nat_cmp other path ≡ Less) paths

rising_behind : (paths : List (List ℕ)) (path : List ℕ) → AreRising paths → AreLess paths path → AreRising (paths ++ path ∷ [])
unfolding IsStrictlySortedBy
rising_behind [] path rising less = (tt, tt)
rising_behind (first ∷ paths) path rising less = (all_last (λ other. slice_cmp nat_cmp first other ≡ Less) paths path rising.0 less.0, rising_behind paths path rising.1 less.1)

less_before : (paths : List (List ℕ)) (path : List ℕ) → AreRising (paths ++ path ∷ []) → AreLess paths path
unfolding IsStrictlySortedBy
less_before [] path rising = tt
less_before (first ∷ paths) path rising = (last_of_all (λ other. slice_cmp nat_cmp first other ≡ Less) paths path rising.0, less_before paths path rising.1)

-- the last of paths in order is the greatest
less_from_last : (paths : List (List ℕ)) (i : ℕ) (last path : List ℕ) → AreRising paths → slice_get paths i ≡ Some last → i + 1 ≡ length paths → slice_cmp nat_cmp last path ≡ Less
    → AreLess paths path
unfolding IsStrictlySortedBy
less_from_last [] i last path rising at end less = tt
less_from_last (first ∷ []) zero last path rising at end less = (let same : first ≡ last = cc in subst (λ p. slice_cmp nat_cmp p path ≡ Less) (sym same) less, tt)
less_from_last (first ∷ []) (suc i) last path rising at end less = absurd (omega (arith, end))
less_from_last (first ∷ second ∷ paths) zero last path rising at end less = absurd (omega (arith, end))
less_from_last (first ∷ second ∷ paths) (suc i) last path rising at end less =
    let rest = less_from_last (second ∷ paths) i last path rising.1 at (omega (arith, end)) less in
    (nat_list_cmp_total.trans first second path rising.0.0 rest.0, rest)

is_less : (order : Ordering) → is_lt order ≡ true → order ≡ Less
is_less Less test = refl
is_less Equal test = absurd (let e : false ≡ true = test in cc)
is_less Greater test = absurd (let e : false ≡ true = test in cc)

-- SIZES

first_of : (sizes : List ItemSize) (size : ItemSize) → slice_get sizes (length sizes - 1) ≡ None → AreRising (item_paths (sizes ++ size ∷ []))
unfolding IsStrictlySortedBy
first_of [] size none = (tt, tt)
first_of (first ∷ sizes) size none = (let here = slice_get-get_or (first ∷ sizes) (length (first ∷ sizes) - 1) first (omega arith) in absurd (let e : Some (get_or (first ∷ sizes) (length (first ∷ sizes) - 1) first) ≡ None = sym here ∙ none in cc))

module _ (sizes : List ItemSize) (size : ItemSize) where
  paths_more : item_paths (sizes ++ size ∷ []) ≡ item_paths sizes ++ size.path ∷ []
  paths_more = map-append (λ (s : ItemSize). s.path) sizes (size ∷ [])

  pub comes_first : slice_get sizes (length sizes - 1) ≡ None → AreRising (item_paths (sizes ++ size ∷ []))
  comes_first = first_of sizes size

  module _ (last : ItemSize) (told : Bool) (at : slice_get sizes (length sizes - 1) ≡ Some last) (is : told ≡ is_lt (slice_cmp nat_cmp last.path size.path)) where
    path_at : slice_get (item_paths sizes) (length sizes - 1) ≡ Some last.path
    path_at = slice_get-map (λ (s : ItemSize). s.path) sizes (length sizes - 1) ∙ ap (option_map (λ (s : ItemSize). s.path)) at

    pub comes_behind : IsTrue told → AreRising (item_paths sizes) → AreRising (item_paths (sizes ++ size ∷ []))
    comes_behind after rising =
        let some = slice_get_within sizes (length sizes - 1) last at in
        let count = length-map sizes (λ (s : ItemSize). s.path) in
        subst AreRising (sym paths_more)
        (rising_behind (item_paths sizes) size.path rising (less_from_last (item_paths sizes) (length sizes - 1) last.path size.path rising path_at (omega (arith, some, count)) (is_less (slice_cmp nat_cmp last.path size.path) (sym is ∙ after))))

    pub last_before : AreRising (item_paths (sizes ++ size ∷ [])) → IsTrue told
    last_before rising =
        let less = less_before (item_paths sizes) size.path (subst AreRising paths_more rising) in
        is ∙ ap is_lt (all_has (λ other. slice_cmp nat_cmp other size.path ≡ Less) (item_paths sizes) last.path less (has_at (item_paths sizes) (length sizes - 1) last.path path_at))

  -- each size comes after those before it
  pub comes_among : (after all : List ItemSize) → sizes ++ size ∷ after ≡ all → AreRising (item_paths all) → AreRising (item_paths (sizes ++ size ∷ []))
  comes_among after all is rising =
      let apart = map-append (λ (s : ItemSize). s.path) (sizes ++ size ∷ []) after in
      let whole = ap item_paths (append_assoc sizes (size ∷ []) after ∙ is) in
      rising_before (item_paths (sizes ++ size ∷ [])) (item_paths after) (subst AreRising (sym whole ∙ apart) rising)

-- what is held of a transfer is in order
pub held_rising : (ledger : Ledger) (name : List ℕ) (plan : Plan) (sizes : List ItemSize) → IsPlanFor ledger name plan → sizes ≡ sizes_of (items_of ledger name) → AreRising (item_paths sizes)
held_rising ledger name plan sizes (tags, planned, held) all = subst AreRising (sym (ap item_paths all ∙ item_keys (items_of ledger name))) held.rising

-- those before the last are in order, too
pub rising_without : (sizes : List ItemSize) (size : ItemSize) → AreRising (item_paths (sizes ++ size ∷ [])) → AreRising (item_paths sizes)
rising_without sizes size rising = rising_before (item_paths sizes) (size.path ∷ []) (subst AreRising (paths_more sizes size) rising)

pub none_valid : (tags : Files) → AreValidSizes tags []
unfolding IsStrictlySortedBy
none_valid tags = ([], record { rising = tt; passing = λ path content has. absurd has }, refl)

pub valid_rising : (tags : Files) (sizes : List ItemSize) → AreValidSizes tags sizes → AreRising (item_paths sizes)
valid_rising tags sizes (items, held, same) = subst AreRising (sym (ap item_paths same ∙ item_keys items)) held.rising

pub valid_more : (tags : Files) (sizes : List ItemSize) (size : ItemSize) → AreValidSizes tags sizes → SomePass tags size.path size.octets → AreRising (item_paths (sizes ++ size ∷ []))
    → AreValidSizes tags (sizes ++ size ∷ [])
valid_more tags sizes size (items, held, same) (octets, sized, passes) rising =
    let file : List ℕ × List ℕ = (size.path, octets) in
    let is_size : size ≡ record { path = size.path; octets = length octets } = ap (λ n. record { path = size.path; octets = n }) sized in
    let all : sizes ++ size ∷ [] ≡ sizes_of (items ++ file ∷ []) =
    (λ t. same t ++ is_size t ∷ []) ∙ sym (map-append (λ (item : List ℕ × List ℕ). record { path = item.0; octets = length item.1 }) items (file ∷ [])) in (
      items ++ file ∷ [],
      record {
        rising = subst AreRising (ap item_paths all ∙ item_keys (items ++ file ∷ [])) rising;
        passing = λ path content has. elim ((has_push items file (path, content)).0 has) [
          | inl before ↦ held.passing path content before
          | inr is ↦ subst (λ (f : List ℕ × List ℕ). Passes tags f.0 f.1) is passes
        ];
      },
      all,
    )
