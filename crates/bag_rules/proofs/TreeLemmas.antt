-- What a tree shows of its bag.
use Rattle.std.proofs.Common.{◌≡◌, ℕ, List, [], ◌∷◌, Option, Some, None, length, map, slice_get, Contains, refl, sym, ap, ◌∙◌, subst}
use Rattle.bag_rules.proofs.Words.{AreRising, Bag, bytes_eq, HasFileAt, HoldsFile, is_eq-slice_cmp, IsBagOf, IsDistinct, IsDistinct-from_sorted, IsThere, length-map, lookup, lookup_from_place, nat_cmp, nat_list_eq_equiv, octets_in, option_and_then, option_map, paths_in, same_Some, Shown, slice_cmp, slice_get-map, some_pair_parts}
use Rattle.bag_rules.specs.Bags.{paths_of}
use Rattle.bag_rules.proofs.RisingPaths.{place_of, contains_at, one_place}

abbrev File : Type 0
File = List ℕ × List ℕ

-- the path of a bag's file
pub shown_at : (bag : Bag) (i : ℕ) (path octets : List ℕ) → slice_get bag.files i ≡ Some (path, octets) → slice_get (paths_of bag) i ≡ Some path
shown_at bag i path octets e = slice_get-map (λ (file : File). file.0) bag.files i ∙ ap (option_map (λ (file : File). file.0)) e

-- a path has one file, with its octets
pub one_file : (bag : Bag) (i j : ℕ) (path a b : List ℕ) → AreRising (paths_of bag) → slice_get bag.files i ≡ Some (path, a) → slice_get bag.files j ≡ Some (path, b) → i ≡ j
one_file bag i j path a b rising p q = one_place (paths_of bag) rising i j path (shown_at bag i path a p) (shown_at bag j path b q)

pub one_octets : (bag : Bag) (path a b : List ℕ) → AreRising (paths_of bag) → HoldsFile bag path a → HoldsFile bag path b → a ≡ b
one_octets bag path a b rising p q = (some_pair_parts path path a b (sym p.1 ∙ ap (slice_get bag.files) (one_file bag p.0 q.0 path a b rising p.1 q.1) ∙ q.1)).1

-- a look-up by path finds it
pub text_of : (bag : Bag) (path octets : List ℕ) → AreRising (paths_of bag) → HoldsFile bag path octets → lookup (bytes_eq path) bag.files ≡ Some octets
text_of bag path octets rising holds =
    lookup_from_place nat_list_eq_equiv bag.files holds.0 path octets
    (subst (λ eq. IsDistinct eq (paths_of bag)) (λ t x y. is_eq-slice_cmp x y t) (IsDistinct-from_sorted (slice_cmp nat_cmp) (paths_of bag) rising)) holds.1

pub found_file : (o : Option File) (path : List ℕ) → option_map (λ (file : File). file.0) o ≡ Some path → (octets : List ℕ) × (o ≡ Some (path, octets))
found_file None path e = cc
found_file (Some file) path e = let same : file.0 ≡ path = cc in (file.1, ap (λ p. Some (p, file.1)) same)

-- a path of a bag has its octets
pub file_of_path : (bag : Bag) (i : ℕ) (path : List ℕ) → slice_get (paths_of bag) i ≡ Some path → (octets : List ℕ) × (slice_get bag.files i ≡ Some (path, octets))
file_of_path bag i path e = found_file (slice_get bag.files i) path (sym (slice_get-map (λ (file : File). file.0) bag.files i) ∙ e)

-- WHAT A TREE SHOWS

abbrev ShownFile : Type 0
ShownFile = List ℕ × Option (List ℕ)

-- the path and the octets of a known file
module _ {shown : Shown} {i : ℕ} {path octets : List ℕ} (here : HasFileAt shown i path octets) where
  pub path_shown : slice_get (paths_in shown) i ≡ Some path
  path_shown = slice_get-map (λ (file : ShownFile). file.0) shown.files i ∙ ap (option_map (λ (file : ShownFile). file.0)) here.there

  pub octets_shown : octets_in shown i ≡ Some octets
  octets_shown = ap (option_and_then (λ (file : ShownFile). file.1)) here.there

  -- the path that the tree gives
  pub named_here : {given : List ℕ} → slice_get (paths_in shown) i ≡ Some given → path ≡ given
  named_here e = same_Some _ _ (sym path_shown ∙ e)

-- the paths of known files
pub all_paths : (files : List File) → map (λ (file : ShownFile). file.0) (map (λ (file : File). (file.0, Some file.1)) files) ≡ map (λ (file : File). file.0) files
all_paths [] = refl
all_paths (file ∷ files) = ap (λ paths. file.0 ∷ paths) (all_paths files)

module _ {shown : Shown} (bag : Bag) (is : IsBagOf shown bag) where
  -- the paths are those of the bag
  pub paths_same : paths_in shown ≡ paths_of bag
  paths_same = ap paths_in is ∙ all_paths bag.files

  -- the tree has as many files as the bag
  pub same_count : length (paths_in shown) ≡ length bag.files
  same_count = ap length paths_same ∙ length-map bag.files (λ (file : File). file.0)

  -- the bag's paths ascend as the tree's do
  pub rises : AreRising (paths_in shown) → AreRising (paths_of bag)
  rises h = subst AreRising paths_same h

  -- a file of the bag is at the same place of the tree
  pub file_at : (i : ℕ) (path octets : List ℕ) → slice_get bag.files i ≡ Some (path, octets) → HasFileAt shown i path octets
  file_at i path octets e = record {
    there = ap (λ (s : Shown). slice_get s.files i) is
        ∙ slice_get-map (λ (file : File). (file.0, Some file.1)) bag.files i
        ∙ ap (option_map (λ (file : File). (file.0, Some file.1))) e;
  }

  pub path_at : (i : ℕ) (path octets : List ℕ) → slice_get bag.files i ≡ Some (path, octets) → slice_get (paths_in shown) i ≡ Some path
  path_at i path octets e = path_shown (file_at i path octets e)

  -- a path that the tree shows is that of a file of the bag
  pub there_at : (i : ℕ) (path : List ℕ) → slice_get (paths_in shown) i ≡ Some path → (octets : List ℕ) × (slice_get bag.files i ≡ Some (path, octets))
  there_at i path e = file_of_path bag i path (ap (λ ps. slice_get ps i) (sym paths_same) ∙ e)

  pub is_there : (path : List ℕ) → Contains (paths_in shown) path → IsThere bag path
  is_there path found = let p = place_of (paths_in shown) path found in let f = there_at p.0 path p.1 in (f.0, (p.0, f.1))

  pub shows : (path : List ℕ) → IsThere bag path → Contains (paths_in shown) path
  shows path there = contains_at (paths_in shown) there.1.0 path (path_at there.1.0 path there.0 there.1.1)
