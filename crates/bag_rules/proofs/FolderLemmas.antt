-- The place of a path relative to those in a folder, and how one in the folder is found.
use Rattle.std.proofs.Common.{◌≡◌, ◌≢◌, ℕ, ◌<◌, ◌≤◌, ◌++◌, true, false, List, [], ◌∷◌, Result, Ok, Err, is_ok, None, Some, get_or, slice_get, length, refl, sym, ap, subst, ◌∙◌, arith, inl, inr}
use Rattle.std.proofs.lemmas.Cmp.{nat_cmp_total, nat_list_cmp_total, ranked, tied_itself}
use Rattle.std.proofs.lemmas.List.{get_or_default}
use Rattle.std.proofs.lemmas.List.Sorted.{ranks_by, sorted_far}
use Rattle.std.specs.List.Sorted.{IsBinarySearchResult, IsNonDecreasingBy, IsSearchInRange, IsSorted}
use Rattle.std.specs.Ordering.{is_lt, MatchOrdering, nat_cmp, ordering_index, ordering_then}
use Rattle.bag_path.specs.Octets.{slash}
use Rattle.bag_rules.specs.ClashInside.{beside_folder}
use Rattle.bag_rules.specs.Opening.{HasInside, IsFolderOf}
use Rattle.bag_rules.proofs.Words.{cases_lt, Equal, Greater, Less, Ordering, same_Some, slice_cmp}

same_octet : (x y : ℕ) → nat_cmp x y ≡ Equal → x ≡ y
same_octet x y e = ranked x y Equal (sym e)

then_equal : (o p : Ordering) → ordering_then o p ≡ Equal → (o ≡ Equal) × (p ≡ Equal)
then_equal Less p e = absurd (cc)
then_equal Equal p e = (refl, e)
then_equal Greater p e = absurd (cc)

then_where : (o p q : Ordering) → (o ≡ Equal → p ≡ q) → ordering_then o p ≡ ordering_then o q
then_where Less p q same = refl
then_where Equal p q same = same refl
then_where Greater p q same = refl

pub then_end : (o : Ordering) → ordering_then o Equal ≡ o
then_end Less = refl
then_end Equal = refl
then_end Greater = refl

-- what follows the path of the folder decides
pub beside_longer : (folder rest : List ℕ) → beside_folder folder (folder ++ rest) ≡ beside_folder [] rest
beside_longer [] rest = refl
beside_longer (x ∷ folder) rest = ap (λ o. ordering_then o (beside_folder folder (folder ++ rest))) (tied_itself nat_cmp_total x) ∙ beside_longer folder rest

-- that is, its first octet, if there is one
pub first_decides : (rest : List ℕ) (octet : ℕ) → Some octet ≡ slice_get rest 0 → nat_cmp octet slash ≡ beside_folder [] rest
first_decides [] octet here = absurd (cc)
first_decides (y ∷ rest) octet here = ap (λ first. nat_cmp first slash) (same_Some octet y here)

pub nothing_decides : (rest : List ℕ) → None ≡ slice_get rest 0 → Less ≡ beside_folder [] rest
nothing_decides [] here = refl
nothing_decides (y ∷ rest) here = absurd (cc)

-- if it doesn't begin so, the order of the paths
pub beside_other : (folder path : List ℕ) → ((rest : List ℕ) → path ≢ folder ++ rest) → slice_cmp nat_cmp path folder ≡ beside_folder folder path
beside_other [] path other = absurd (other path refl)
beside_other (x ∷ folder) [] other = refl
beside_other (x ∷ folder) (y ∷ path) other = then_where (nat_cmp y x) (slice_cmp nat_cmp path folder) (beside_folder folder path)
    (λ tied. beside_other folder path (λ rest e. other rest (λ t. same_octet y x tied t ∷ e t)))

-- what is among those in the folder is in it
pub in_folder : (folder path : List ℕ) → beside_folder folder path ≡ Equal → IsFolderOf folder path
in_folder [] [] e = absurd (cc)
in_folder [] (y ∷ path) e = (path, ap (λ octet. octet ∷ path) (same_octet y slash e))
in_folder (x ∷ folder) [] e = absurd (cc)
in_folder (x ∷ folder) (y ∷ path) e =
    let both = then_equal (nat_cmp y x) (beside_folder folder path) e in
    let deep = in_folder folder path both.1 in
    (deep.0, λ t. same_octet y x both.0 t ∷ deep.1 t)

pub among_those : (folder path : List ℕ) → IsFolderOf folder path → beside_folder folder path ≡ Equal
among_those folder path is = ap (beside_folder folder) is.1 ∙ beside_longer folder (slash ∷ is.0) ∙ tied_itself nat_cmp_total slash

-- ALONG PATHS IN ORDER THE RESULTS ASCEND

index_most : (o : Ordering) → ordering_index o ≤ 2
index_most Less = omega arith
index_most Equal = omega arith
index_most Greater = omega arith

heads_rise : (x a b : ℕ) (o r p q : Ordering) → MatchOrdering o (a < x) (a ≡ x) (x < a) → MatchOrdering r (b < x) (b ≡ x) (x < b) → a ≤ b → (a ≡ b → ordering_index p ≤ ordering_index q)
    → ordering_index (ordering_then o p) ≤ ordering_index (ordering_then r q)
heads_rise x a b Less r p q left right upto tied = omega arith
heads_rise x a b Equal Less p q left right upto tied = absurd (omega arith)
heads_rise x a b Equal Equal p q left right upto tied = tied (left ∙ sym right)
heads_rise x a b Equal Greater p q left right upto tied = index_most p
heads_rise x a b Greater Less p q left right upto tied = absurd (omega arith)
heads_rise x a b Greater Equal p q left right upto tied = absurd (omega arith)
heads_rise x a b Greater Greater p q left right upto tied = omega arith

head_upto : (a b : ℕ) (o r : Ordering) → MatchOrdering o (b < a) (b ≡ a) (a < b) → is_lt (ordering_then o r) ≡ false → a ≤ b
head_upto a b Less r ranks not_below = absurd (cc)
head_upto a b Equal r ranks not_below = omega arith
head_upto a b Greater r ranks not_below = omega arith

tail_upto : (a b : ℕ) (r : Ordering) → a ≡ b → is_lt (ordering_then (nat_cmp b a) r) ≡ false → is_lt r ≡ false
tail_upto a b r same not_below = sym (ap (λ o. is_lt (ordering_then o r)) (ap (λ n. nat_cmp n a) (sym same) ∙ tied_itself nat_cmp_total a)) ∙ not_below

beside_rises : (folder p q : List ℕ) → is_lt (slice_cmp nat_cmp q p) ≡ false → ordering_index (beside_folder folder p) ≤ ordering_index (beside_folder folder q)
beside_rises [] [] q not_below = omega arith
beside_rises [] (a ∷ p) [] not_below = absurd (cc)
beside_rises [] (a ∷ p) (b ∷ q) not_below =
    let upto = head_upto a b (nat_cmp b a) (slice_cmp nat_cmp q p) (ranked b a (nat_cmp b a) refl) not_below in
    let rise = heads_rise slash a b (nat_cmp a slash) (nat_cmp b slash) Equal Equal (ranked a slash (nat_cmp a slash) refl) (ranked b slash (nat_cmp b slash) refl) upto (λ same. omega arith) in
    subst (λ o. ordering_index o ≤ ordering_index (nat_cmp b slash)) (then_end (nat_cmp a slash)) (subst (λ o. ordering_index (ordering_then (nat_cmp a slash) Equal) ≤ ordering_index o) (then_end (nat_cmp b slash)) rise)
beside_rises (x ∷ folder) [] q not_below = omega arith
beside_rises (x ∷ folder) (a ∷ p) [] not_below = absurd (cc)
beside_rises (x ∷ folder) (a ∷ p) (b ∷ q) not_below =
    heads_rise x a b (nat_cmp a x) (nat_cmp b x) (beside_folder folder p) (beside_folder folder q) (ranked a x (nat_cmp a x) refl) (ranked b x (nat_cmp b x) refl)
    (head_upto a b (nat_cmp b a) (slice_cmp nat_cmp q p) (ranked b a (nat_cmp b a) refl) not_below)
    (λ same. beside_rises folder p q (tail_upto a b (slice_cmp nat_cmp q p) same not_below))

-- BINARY SEARCHES

module _ (paths : List (List ℕ)) (folder : List ℕ) (sorted : IsSorted (slice_cmp nat_cmp) paths) where
  answers_rise : IsNonDecreasingBy (λ path. ordering_index (beside_folder folder path)) paths
  answers_rise i j d upto within = beside_rises folder (get_or paths i d) (get_or paths j d)
      (sorted_far (λ x y. is_lt (slice_cmp nat_cmp x y)) (ranks_by nat_list_cmp_total (λ x. x)) paths sorted i j d upto within)

  -- what a search finds is in the folder
  pub found_inside : (r : Result ℕ ℕ) → IsSearchInRange r (length paths) → IsBinarySearchResult (beside_folder folder) paths r → is_ok r ≡ true → HasInside paths folder
  found_inside (Ok i) within equal ok =
      let path = get_or paths i [] in
      (path, (i, within, get_or_default paths i path [] within), in_folder folder path (equal []))
  found_inside (Err i) within parted ok = absurd (cc)

  -- if it finds nothing, there is nothing
  pub inside_found : (r : Result ℕ ℕ) → IsSearchInRange r (length paths) → IsBinarySearchResult (beside_folder folder) paths r → HasInside paths folder → is_ok r ≡ true
  inside_found (Ok i) within equal inside = refl
  inside_found (Err i) within parted inside =
      let path = inside.0 in
      let at = inside.1 in
      let here : beside_folder folder (get_or paths at.0 path) ≡ Equal = ap (beside_folder folder) at.2 ∙ among_those folder path inside.2 in
      absurd (elim (cases_lt at.0 i) [
        | inl below ↦ (let before = (parted answers_rise).0 at.0 path (omega arith) below in cc)
        | inr from ↦ (let after = (parted answers_rise).1 at.0 path from at.1 in cc)
      ])
