-- What is known of the octets of a tree's files while they are read.
use Rattle.std.proofs.Common.{◌≡◌, ◌≢◌, ◌⊎◌, ◌≤◌, ◌∙◌, ◌∷◌, [], ℕ, zero, suc, List, Option, Some, None, ap, arith, inl, inr, length, map, refl, slice_get, subst, sym, Contains}
use Rattle.bag_digest.proofs.EachLemmas.{at_last}
use Rattle.bag_digest.specs.declared.sums.Sums.{Sums}
use Rattle.bag_digest.specs.Reading.{AreSums}
use Rattle.bag_rules.specs.declared.limits.TheConstants.{LARGEST_TAG_FILE}
use Rattle.bag_rules.specs.declared.tag_sums.KeptFile.{KeptFile}
use Rattle.bag_rules.specs.declared.tag_sums.TagSums.{TagSums}
use Rattle.bag_rules.specs.Bags.{HasFilesOf, IsSomeBagOf, paths_of}
use Rattle.bag_rules.specs.KeptInside.{kept_file}
use Rattle.bag_rules.specs.OctetsRead.{AddsKept, Extends, IsBagBy, IsKeptAt, KnownOctets, KnowsFrom, MayBe}
use Rattle.bag_rules.proofs.FileReadLemmas.{push_at, push_before}
use Rattle.bag_rules.proofs.KeptLemmas.{kept_push, none_kept}
use Rattle.bag_rules.proofs.TreeLemmas.{all_paths, file_at, file_of_path, is_there, octets_shown, path_shown, paths_same, shown_at, shows}
use Rattle.bag_rules.proofs.Words.{AreRising, Bag, cases_order, HasFileAt, IsBagOf, IsThere, length-map, octets_in, paths_in, same_Some, Shown, shown_of, slice_get_within, some_pair_parts}

abbrev File : Type 0
File = List ℕ × List ℕ

abbrev ShownFile : Type 0
ShownFile = List ℕ × Option (List ℕ)

-- THE FILES OF A TREE

pub files_of_bag : {shown : Shown} (bag : Bag) → IsBagOf shown bag → HasFilesOf shown bag
files_of_bag {shown} bag is = record { paths = sym (paths_same bag is); payload_dir = sym (ap (λ (s : Shown). s.has_payload_dir) is) }

-- a bag has its own files
pub held_file : (bag : Bag) (i : ℕ) (path octets : List ℕ) → HasFileAt (shown_of bag) i path octets → slice_get bag.files i ≡ Some (path, octets)
held_file bag i path octets at =
    let f = file_of_path bag i path (ap (λ ps. slice_get ps i) (sym (all_paths bag.files)) ∙ path_shown at) in
    let own = octets_shown (file_at {shown = shown_of bag} bag refl i path f.0 f.1) in
    f.1 ∙ ap (λ o. Some (path, o)) (same_Some f.0 octets (sym own ∙ octets_shown at))

module _ {shown : Shown} (bag : Bag) (has : HasFilesOf shown bag) where
  pub own_paths : paths_in (shown_of bag) ≡ paths_in shown
  own_paths = all_paths bag.files ∙ has.paths

  pub rises_as : AreRising (paths_in shown) → AreRising (paths_of bag)
  rises_as rising = subst AreRising (sym has.paths) rising

  pub count_as : length (paths_in shown) ≡ length bag.files
  count_as = ap length (sym has.paths) ∙ length-map bag.files (λ (file : File). file.0)

  pub path_as : (i : ℕ) (path octets : List ℕ) → slice_get bag.files i ≡ Some (path, octets) → slice_get (paths_in shown) i ≡ Some path
  path_as i path octets at = ap (λ ps. slice_get ps i) (sym has.paths) ∙ shown_at bag i path octets at

  pub own_path : (i : ℕ) (path octets : List ℕ) → HasFileAt (shown_of bag) i path octets → slice_get (paths_in shown) i ≡ Some path
  own_path i path octets at = ap (λ ps. slice_get ps i) (sym own_paths) ∙ path_shown at

  pub file_as : (i : ℕ) (path : List ℕ) → slice_get (paths_in shown) i ≡ Some path → (octets : List ℕ) × (slice_get bag.files i ≡ Some (path, octets))
  file_as i path at = file_of_path bag i path (ap (λ ps. slice_get ps i) has.paths ∙ at)

  pub there_as : (path : List ℕ) → Contains (paths_in shown) path → IsThere bag path
  there_as path found = is_there {shown = shown_of bag} bag refl path (subst (λ ps. Contains ps path) (sym own_paths) found)

  pub shows_as : (path : List ℕ) → IsThere bag path → Contains (paths_in shown) path
  shows_as path there = subst (λ ps. Contains ps path) own_paths (shows {shown = shown_of bag} bag refl path there)

-- WHAT IS KNOWN

-- the one or the other, by the case
pick : {A B X : Type 0} → A ⊎ B → X → X → X
pick (inl a) x y = x
pick (inr b) x y = y

pick_left : {A B X : Type 0} (case : A ⊎ B) (x y : X) → ¬ B → pick case x y ≡ x
unfolding pick
pick_left (inl a) x y not = refl
pick_left (inr b) x y not = absurd (not b)

pick_right : {A B X : Type 0} (case : A ⊎ B) (x y : X) → ¬ A → pick case x y ≡ y
unfolding pick
pick_right (inl a) x y not = absurd (not a)
pick_right (inr b) x y not = refl

-- the octets of one file more
pub tell : KnownOctets → ℕ → List ℕ → KnownOctets
tell known place octets i = pick (cases_order i place) (Some octets) (known i)

module _ (known : KnownOctets) (place : ℕ) (octets : List ℕ) where
  pub tell_here : tell known place octets place ≡ Some octets
  unfolding tell
  tell_here = pick_left (cases_order place place) (Some octets) (known place) (λ other. elim other [ inl below ↦ omega (arith, below) | inr past ↦ omega (arith, past) ])

  pub tell_other : (i : ℕ) → i ≢ place → tell known place octets i ≡ known i
  unfolding tell
  tell_other i other = pick_right (cases_order i place) (Some octets) (known i) other

  pub tell_more : MayBe (known place) octets → Extends known (tell known place octets)
  tell_more may i own is = elim (cases_order i place) [
    | inl same ↦ ap (tell known place octets) same ∙ tell_here ∙ ap Some (may own (ap known (sym same) ∙ is))
    | inr other ↦ tell_other i (λ same. elim other [ inl below ↦ omega (arith, below, same) | inr past ↦ omega (arith, past, same) ]) ∙ is
  ]

pub extends_on : (a b c : KnownOctets) → Extends a b → Extends b c → Extends a c
extends_on a b c more most i octets is = most i octets (more i octets is)

-- what a bag has of all that is known, it has of less
pub less_known : {shown : Shown} {known found : KnownOctets} {bag : Bag} → Extends known found → IsBagBy shown found bag → IsBagBy shown known bag
less_known more is = record { files = is.files; octets = λ i path octets at own known_is. is.octets i path octets at own (more i own known_is) }

-- it is some bag of the tree
pub some_of : {shown : Shown} {known : KnownOctets} {bag : Bag} → Extends (octets_in shown) known → IsBagBy shown known bag → IsSomeBagOf shown bag
some_of {shown} {known} {bag} more is = record {
  files = is.files;
  octets = λ i path octets at.
      let f = file_as bag is.files i path (path_shown at) in
      f.1 ∙ ap (λ o. Some (path, o)) (is.octets i path f.0 f.1 octets (more i octets (octets_shown at)));
}

-- THERE IS SUCH A BAG

or_none : Option (List ℕ) → List ℕ
or_none None = []
or_none (Some octets) = octets

files_by : List ShownFile → KnownOctets → List File
files_by [] known = []
files_by (file ∷ files) known = (file.0, or_none (known 0)) ∷ files_by files (λ i. known (suc i))

paths_by : (files : List ShownFile) (known : KnownOctets) → map (λ (file : File). file.0) (files_by files known) ≡ map (λ (file : ShownFile). file.0) files
unfolding files_by
paths_by [] known = refl
paths_by (file ∷ files) known = ap (λ paths. file.0 ∷ paths) (paths_by files (λ i. known (suc i)))

known_is : (known : Option (List ℕ)) (own : List ℕ) → known ≡ Some own → or_none known ≡ own
unfolding or_none
known_is None own is = cc
known_is (Some octets) own is = cc

octets_by : (files : List ShownFile) (known : KnownOctets) (i : ℕ) (path octets own : List ℕ) → slice_get (files_by files known) i ≡ Some (path, octets) → known i ≡ Some own → octets ≡ own
unfolding files_by
octets_by [] known i path octets own at is = cc
octets_by (file ∷ files) known zero path octets own at is =
    sym (some_pair_parts file.0 path (or_none (known 0)) octets at).1 ∙ known_is (known 0) own is
octets_by (file ∷ files) known (suc i) path octets own at is = octets_by files (λ i. known (suc i)) i path octets own at is

pub bag_by : (shown : Shown) (known : KnownOctets) → (bag : Bag) × IsBagBy shown known bag
bag_by shown known = (
  record { files = files_by shown.files known; has_payload_dir = shown.has_payload_dir },
  record {
    files = record { paths = paths_by shown.files known; payload_dir = refl };
    octets = λ i path octets at own is. octets_by shown.files known i path octets own at is;
  },
)

-- WHAT IS KEPT

-- nothing
pub none_at : (kept : TagSums) → kept.files.items ≡ [] → (place : ℕ) → ¬ IsKeptAt kept place
none_at kept none place is = let k : None ≡ Some is.file = subst (λ files. slice_get files is.number ≡ Some is.file) none is.there in cc

-- all that is known is what is shown
pub knows_shown : (shown : Shown) (kept : TagSums) → kept.files.items ≡ [] → KnowsFrom 0 shown kept (octets_in shown)
knows_shown shown kept none = record {
  more = λ i octets is. is;
  are_kept = λ bag is. none_kept (shown_of bag) kept none;
  unread = λ i from not. refl;
}

-- nothing is known of files further on
pub knows_later : {shown : Shown} {kept : TagSums} {known : KnownOctets} (n m : ℕ) → n ≤ m → KnowsFrom n shown kept known → KnowsFrom m shown kept known
knows_later n m most knows = record { more = knows.more; are_kept = knows.are_kept; unread = λ i from not. knows.unread i (omega (arith, from, most)) not }

-- one file more
module _ (old new : TagSums) (place : ℕ) (sums : Sums) (adds : AddsKept old new (kept_file place sums)) where
  pub still_kept : (i : ℕ) → IsKeptAt old i → IsKeptAt new i
  still_kept i is = record {
    number = is.number;
    file = is.file;
    there = ap (λ fs. slice_get fs is.number) adds.files ∙ push_before old.files.items (kept_file place sums) is.number (slice_get_within old.files.items is.number is.file is.there) ∙ is.there;
    placed = is.placed;
  }

  pub now_kept : IsKeptAt new place
  now_kept = record {
    number = length old.files.items;
    file = kept_file place sums;
    there = ap (λ fs. slice_get fs (length old.files.items)) adds.files ∙ push_at old.files.items (kept_file place sums);
    placed = refl;
  }

  pub kept_cases : (i : ℕ) → IsKeptAt new i → IsKeptAt old i ⊎ (i ≡ place)
  kept_cases i is = at_last old.files.items (kept_file place sums)
      (λ n (file : KeptFile). file.place ≡ i → IsKeptAt old i ⊎ (i ≡ place))
      (λ n file there placed. inl (record { number = n; file = file; there = there; placed = placed }))
      (λ placed. inr (sym placed))
      is.number is.file (subst (λ fs. slice_get fs is.number ≡ Some is.file) adds.files is.there) is.placed

  pub know_more : {shown : Shown} {known : KnownOctets} (n : ℕ) (octets : List ℕ) → KnowsFrom n shown old known → n ≤ place → ¬ IsKeptAt old place → MayBe (octets_in shown place) octets
      → length octets ≤ LARGEST_TAG_FILE → AreSums sums old.set octets → Extends known (tell known place octets) × KnowsFrom n shown new (tell known place octets)
  know_more {shown} {known} n octets knows most unkept may within are =
      let more = tell_more known place octets (λ own is. may own (sym (knows.unread place most unkept) ∙ is)) in (
        more,
        record {
          more = extends_on (octets_in shown) known (tell known place octets) knows.more more;
          are_kept = λ bag is. kept_push (shown_of bag) old new (kept_file place sums) (knows.are_kept bag (less_known more is)) adds.set adds.files
              (λ path own at.
              let same : own ≡ octets = is.octets place path own (held_file bag place path own at) octets (tell_here known place octets) in (
                subst (AreSums sums old.set) (sym same) are,
                omega (arith, within, ap length same),
              ));
          unread = λ i from not.
              tell_other known place octets i (λ same. not (subst (IsKeptAt new) (sym same) now_kept)) ∙ knows.unread i from (λ is. not (still_kept i is));
        },
      )
