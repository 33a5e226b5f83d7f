-- What a folder shows is the bag in it, if the disk is known.
use Rattle.std.proofs.Common.{◌≡◌, ◌↔◌, ◌⊎◌, ◌∙◌, ◌∷◌, [], ℕ, Bool, true, false, List, All, Contains, None, Option, Some, ap, ap₂, inl, inr, refl, subst, sym}
use Rattle.std.specs.Ordering.{nat_cmp}
use Rattle.std.specs.Cmp.Lexicographic.{slice_cmp}
use Rattle.std.proofs.lemmas.Cmp.{nat_list_cmp_total}
use Rattle.std.proofs.lemmas.List.Elements.{All-contains, All-head, All-tail}
use Rattle.bag_path.specs.Paths.{is_payload}
use Rattle.bag_rules.specs.Bags.{Bag, IsBagOf, paths_of, shown_of}
use Rattle.bag_rules.specs.Trees.{AreRising, Shown, paths_in}
use Rattle.bag_rules.proofs.HasLemmas.{contains_from_has, has_from_contains}
use Rattle.bag_rules.proofs.SameListLemmas.{asymmetric, same_list}
use Rattle.bag_folder.specs.declared.root.Root.{Root}
use Rattle.bag_folder.specs.Directories.{IsBelow, Listing}
use Rattle.bag_folder.specs.Folders.{DiskShown, IsBagIn, IsListing, file_with, octets_below, shown_by}

-- paths in order are determined by which ones they are
pub same_paths : (paths others : List (List ℕ)) → AreRising paths → AreRising others
    → ((path : List ℕ) → Contains paths path ↔ Contains others path) → paths ≡ others
same_paths paths others p q same =
    same_list (slice_cmp nat_cmp) (asymmetric nat_list_cmp_total) paths others p q
    (λ path here.
    has_from_contains others path ((same path).0 (contains_from_has paths path here)))
    (λ path there.
    has_from_contains paths path ((same path).1 (contains_from_has others path there)))

same_bool : (a b : Bool) → (a ≡ true → b ≡ true) → (b ≡ true → a ≡ true) → a ≡ b
same_bool true b to from = sym (to refl)
same_bool false true to from = from refl
same_bool false false to from = refl

-- two lists of what is below a folder, in order
module _ (listing : Listing) (folder : List ℕ) where
  has_dir_too : (paths others : List (List ℕ)) (has_dir has_other : Bool)
      → IsBelow listing folder paths has_dir → IsBelow listing folder others has_other
      → IsListing others has_other → has_dir ≡ true → has_other ≡ true
  has_dir_too paths others has_dir has_other below too listed has =
      elim (below.no_payload has) [
        | inl there ↦ too.payload there
        | inr file ↦ All-contains (λ (path : List ℕ). is_payload path ≡ true → has_other ≡ true)
            others file.0 listed.payload
            ((too.files file.0).1 ((below.files file.0).0 file.1)) file.2
      ]

  pub same_below : (paths others : List (List ℕ)) (has_dir has_other : Bool)
      → IsBelow listing folder paths has_dir → IsBelow listing folder others has_other
      → IsListing paths has_dir → IsListing others has_other
      → (paths ≡ others) × (has_dir ≡ has_other)
  same_below paths others has_dir has_other below too listed listed_too = (
    same_paths paths others listed.rising listed_too.rising
        (λ path. (
          λ here. (too.files path).1 ((below.files path).0 here),
          λ here. (below.files path).1 ((too.files path).0 here),
        )),
    same_bool has_dir has_other
        (has_dir_too paths others has_dir has_other below too listed_too)
        (has_dir_too others paths has_other has_dir too below listed),
  )

-- files with known octets are shown as those of a bag are
shown_files : (octets : List ℕ → Option (List ℕ)) (files : List (List ℕ × List ℕ)) (has_dir : Bool)
    → All (λ (file : List ℕ × List ℕ). octets file.0 ≡ Some file.1) files
    → let bag : Bag = record { files = files; has_payload_dir = has_dir } in
    shown_by octets (paths_of bag) has_dir ≡ shown_of bag
unfolding file_with
shown_files octets [] has_dir all = refl
shown_files octets (file ∷ files) has_dir all =
    let Is : List ℕ × List ℕ → Type 0 = λ f. octets f.0 ≡ Some f.1 in
    let more : Option (List ℕ) → Shown → Shown =
    λ here shown. record shown { files = (file.0, here) ∷ shown.files } in
    ap₂ more (All-head Is file files all)
    (shown_files octets files has_dir (All-tail Is file files all))

-- what is shown of what is below a folder is the bag in it
pub bag_shown : (disk : DiskShown) (folder : List ℕ) (root : Root) (shown : Shown) (bag : Bag)
    → ((listing : Listing) → disk.listing ≡ Some listing
    → IsBelow listing folder (paths_in shown) shown.has_payload_dir)
    → IsListing (paths_in shown) shown.has_payload_dir
    → shown ≡ shown_by (octets_below disk.standing folder root) (paths_in shown)
    shown.has_payload_dir
    → IsBagIn disk folder root bag → IsBagOf shown bag
bag_shown disk folder root shown bag shows listed gives is =
    let octets = octets_below disk.standing folder root in
    let same = same_below is.listing folder (paths_in shown) (paths_of bag) shown.has_payload_dir
    bag.has_payload_dir (shows is.listing is.lists) is.below listed is.in_order in
    gives ∙ ap₂ (shown_by octets) same.0 same.1
    ∙ shown_files octets bag.files bag.has_payload_dir is.octets
