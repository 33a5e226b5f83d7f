-- What a query on one table shows: the rows that pass its conditions, in its order.
use Rattle.std.proofs.Common.{◌≡◌, ◌≢◌, ℕ, List, [], ◌∷◌, ◌++◌, Bool, true, false, None, Some, Ordering, Less, Equal, Greater, cond, inl, inr, is_eq, map, negsuc, pos, refl, sym, ap, subst, ◌∙◌, ℤ}
use Rattle.bag_sqlite.proofs.Words.{AreRising, ascending, ascending-map, ascending_from_map, ascending_weaker, Binary, binary, bytes_eq, Compare, end, Env, Eq, exact_signed, filter, flat_map, from_truth, Has, has_from_map, has_map, holds, inner, Int, int_cmp, int_cmp_total, int_eq, is_eq-slice_cmp, is_true, IsAnswer, IsPermutation-sym, IsPermutation-trans, IsSorted, Key, list_all, lit, map_twice, nat_cmp, op2, Output, output, output_cmp, output_cmp_total, overlay, Query, Row, slice_cmp, sorted_unique, Term, Text, then-Equal, tied_itself, Trees, value_cmp-Int, value_cmp-Text}
use Rattle.std.specs.Prelude.{IsPermutation}
use Rattle.bag_sqlite.proofs.NamesLemmas.{ascends, drop_zero}
use Rattle.bag_sqlite.proofs.OneLedger.{has_moved}

-- a comparison of two values
abbrev pub equals : Term → Term → Term
equals a b = op2 (Compare Eq Binary) a b

-- a query on the rows of one table
abbrev pub over : ℕ → List Term → List Term → List (Term × Key) → Query
over tree conditions shown order = record {
  from = inner tree end;
  filter = conditions;
  group = None;
  project = shown;
  distinct = false;
  collations = [];
  order = order;
  limit = lit (Int (negsuc 0));
  offset = lit (Int (pos 0));
}

-- TESTS

pub truth_kept : (b : Bool) → is_true (from_truth (Some b)) ≡ b
truth_kept true = refl
truth_kept false = refl

-- two texts are equal if their octets are
pub equal_texts : (a b : List ℕ) → is_true (binary (Compare Eq Binary) (Text a) (Text b)) ≡ bytes_eq a b
unfolding binary
equal_texts a b = truth_kept _ ∙ ap is_eq (value_cmp-Text a b) ∙ is_eq-slice_cmp a b

pub equal_numbers : (m n : ℤ) → is_true (binary (Compare Eq Binary) (Int m) (Int n)) ≡ int_eq m n
unfolding binary
equal_numbers m n = truth_kept _ ∙ ap is_eq (value_cmp-Int m n)

pub same_number : (m n : ℤ) → m ≡ n → int_eq m n ≡ true
same_number m n same = ap is_eq (subst (λ k. int_cmp m k ≡ Equal) same (tied_itself int_cmp_total m))

pub other_number : (m n : ℤ) → m ≢ n → int_eq m n ≡ false
other_number m n other = go (int_cmp m n) refl
  where
    go : (o : Ordering) → int_cmp m n ≡ o → is_eq o ≡ false
    go Less e = refl
    go Equal e = absurd (other (exact_signed m n e))
    go Greater e = refl

-- THE ROWS THAT PASS

-- what the conditions say about a row
abbrev pub passes : List Term → Row → Row → Bool
passes conditions params row = list_all (holds (params ∷ row ∷ [])) conditions

module _ {X : Type 0} (p : X → Bool) where
  has_by : (b : Bool) (first x : X) (xs : List X) → p first ≡ b → p x ≡ true → Has (first ∷ xs) x → (Has xs x → Has (filter p xs) x) → Has (cond b (first ∷ filter p xs) (filter p xs)) x
  has_by true first x xs at pass (inl is) rest = inl is
  has_by true first x xs at pass (inr has) rest = inr (rest has)
  has_by false first x xs at pass (inl is) rest = absurd (let f : true ≡ false = sym pass ∙ ap p (sym is) ∙ at in cc)
  has_by false first x xs at pass (inr has) rest = rest has

  -- a row that passes is kept
  pub has_kept : (xs : List X) (x : X) → Has xs x → p x ≡ true → Has (filter p xs) x
  has_kept [] x has pass = has
  has_kept (first ∷ xs) x has pass = has_by (p first) first x xs refl pass has (λ later. has_kept xs x later pass)

  from_by : (b : Bool) (first x : X) (xs : List X) → p first ≡ b → Has (cond b (first ∷ filter p xs) (filter p xs)) x → (Has (filter p xs) x → Has xs x × (p x ≡ true)) → Has (first ∷ xs) x × (p x ≡ true)
  from_by true first x xs at (inl is) rest = (inl is, ap p (sym is) ∙ at)
  from_by true first x xs at (inr has) rest = let r = rest has in (inr r.0, r.1)
  from_by false first x xs at has rest = let r = rest has in (inr r.0, r.1)

  -- a row that is kept passes
  pub has_from_kept : (xs : List X) (x : X) → Has (filter p xs) x → Has xs x × (p x ≡ true)
  has_from_kept [] x has = absurd has
  has_from_kept (first ∷ xs) x has = from_by (p first) first x xs refl has (has_from_kept xs x)

  kept_by : {Y : Type 0} (b : Bool) (f : X → Y) (x : X) (xs : List X) (rest : List Y) → rest ≡ map f xs → cond b (f x ∷ []) [] ++ rest ≡ map f (cond b (x ∷ xs) xs)
  kept_by true f x xs rest is = ap (λ ys. f x ∷ ys) is
  kept_by false f x xs rest is = is

  pub flat_kept : {Y : Type 0} (f : X → Y) (xs : List X) → flat_map (λ x. cond (p x) (f x ∷ []) []) xs ≡ map f (filter p xs)
  flat_kept f [] = refl
  flat_kept f (x ∷ xs) = kept_by (p x) f x (filter p xs) _ (flat_kept f xs)

-- THE ROWS THAT ARE SHOWN

module _ (tree : ℕ) (conditions project : List Term) (order : List (Term × Key)) (params : Row) where
  abbrev query : Query
  query = over tree conditions project order

  abbrev env : Row → Env
  env row = params ∷ row ∷ []

  -- what the query computes from a row
  abbrev pub made : Row → Output
  made row = output query (env row)

  -- what is computed from the rows that pass, in the order of the query
  pub record Lists (table rows : List Row) : Type 0 where
    pub ordered : List Output
    pub same : IsPermutation (map made (filter (passes conditions params) table)) ordered
    pub sorted : IsSorted (output_cmp query) ordered
    pub shown : rows ≡ map (λ (o : Output). o.1) ordered

  pub answer_lists : (trees : Trees) (rows : List Row) → IsAnswer query (overlay trees []) params rows → overlay trees [] tree ≡ trees tree → Lists (trees tree) rows
  answer_lists trees rows a is =
      let table = overlay trees [] tree in
      let kept = filter (passes conditions params) table in
      let all : a.kept ≡ map made kept = a.distinct ∙ ap (map (output query)) (a.grouped ∙ flat_kept (passes conditions params) env table) ∙ map_twice env (output query) kept in
      subst (λ t. Lists t rows) is (record { ordered = a.ordered; same = subst (λ k. IsPermutation k a.ordered) all a.same; sorted = a.sorted; shown = a.shown ∙ drop_zero (map (λ (o : Output). o.1) a.ordered) })

  module _ (table rows : List Row) (lists : Lists table rows) where
    -- a row that passes is shown
    pub has_shown : (row : Row) → Has table row → passes conditions params row ≡ true → Has rows (made row).1
    has_shown row has pass =
        let kept = has_map made (filter (passes conditions params) table) row (has_kept (passes conditions params) table row has pass) in
        subst (λ r. Has r (made row).1) (sym lists.shown) (has_map (λ (o : Output). o.1) lists.ordered (made row) (has_moved _ lists.ordered (made row) lists.same kept))

    -- a row that is shown is computed from one that passes
    pub has_from_shown : (shown : Row) → Has rows shown → (row : Row) × Has table row × (passes conditions params row ≡ true) × ((made row).1 ≡ shown)
    has_from_shown shown has =
        let by_out = has_from_map (λ (o : Output). o.1) lists.ordered shown (subst (λ r. Has r shown) lists.shown has) in
        let outs = map made (filter (passes conditions params) table) in
        let by_row = has_from_map made (filter (passes conditions params) table) by_out.0 (has_moved lists.ordered outs by_out.0 (IsPermutation-sym outs lists.ordered lists.same) by_out.1) in
        let kept = has_from_kept (passes conditions params) table by_row.0 by_row.1 in
        (by_row.0, kept.0, kept.1, ap (λ (o : Output). o.1) by_row.2 ∙ by_out.2)

-- ORDER BY A TEXT

module _ {X : Type 0} (tree : ℕ) (conditions project : List Term) (term : Term) (text : X → List ℕ) (show : X → Row) where
  abbrev by : Query
  by = over tree conditions project ((term, ascending Binary) ∷ [])

  -- rows that are sorted by a text
  abbrev pub out : X → Output
  out x = (Text (text x) ∷ [], show x)

  -- ascending texts can be sorted in only one way
  pub sorted_once : (xs : List X) (os : List Output) → AreRising (map text xs) → IsPermutation (map out xs) os → IsSorted (output_cmp by) os → os ≡ map out xs
  sorted_once xs os rising moves sorted =
      let less : (x y : X) → slice_cmp nat_cmp (text x) (text y) ≡ Less → output_cmp by (out x) (out y) ≡ Less = λ x y e. then-Equal _ ∙ value_cmp-Text (text x) (text y) ∙ e in
      let up = ascending_from_map (λ a b. slice_cmp nat_cmp a b ≡ Less) text xs (ascends (map text xs) rising) in
      let strict = ascending-map (λ a b. output_cmp by a b ≡ Less) out xs (ascending_weaker _ (λ x y. output_cmp by (out x) (out y) ≡ Less) less xs up) in
      sorted_unique (output_cmp by) (output_cmp_total by) (map out xs) os strict moves sorted

  -- rows computed from these are shown by their text
  pub by_text : (params : Row) (table rows : List Row) (xs : List X) → AreRising (map text xs) → IsPermutation (map out xs) (map (made tree conditions project ((term, ascending Binary) ∷ []) params) (filter (passes conditions params) table))
      → Lists tree conditions project ((term, ascending Binary) ∷ []) params table rows → rows ≡ map show xs
  by_text params table rows xs rising moves lists =
      let outs = map (made tree conditions project ((term, ascending Binary) ∷ []) params) (filter (passes conditions params) table) in
      let ordered = sorted_once xs lists.ordered rising (IsPermutation-trans (map out xs) outs lists.ordered moves lists.same) lists.sorted in
      lists.shown ∙ ap (map (λ (o : Output). o.1)) ordered ∙ map_twice out (λ (o : Output). o.1) xs
