-- Tag files of a transfer are refused for no reason but want of memory.
use Rattle.std.proofs.Common.{◌≡◌, ◌≢◌, ◌∙◌, ℕ, zero, suc, List, [], ◌∷◌, Some, slice_get, take, refl, sym, ap, inl, inr}
use Rattle.std.specs.List.Sorted.{IsStrictlySortedBy}
use Rattle.bag_rules.specs.Bags.{paths_of}
use Rattle.bag_rules.specs.declared.scope.OutsideCause.TheVariants.{Version, Encoding, Algorithm}
use Rattle.bag_rules.specs.declared.plan_fault.PlanFault.{PlanFault}
use Rattle.bag_rules.specs.declared.plan_fault.PlanFault.TheVariants as plan
use Rattle.bag_rules.specs.declared.tag_set.TagSetFault.{TagSetFault}
use Rattle.bag_rules.specs.declared.tag_set.TagSetFault.TheVariants as tag
use Rattle.bag_rules.specs.Files.{IsTagFile}
use Rattle.bag_rules.specs.Opening.{Opens, RefusesTags}
use Rattle.bag_rules.specs.TagSets.{RefusesFile}
use Rattle.bag_rules.specs.Transfers.{with_files}
use Rattle.bag_rules.proofs.HasLemmas.{has_at, has_from_contains}
use Rattle.bag_rules.proofs.OneVerdictLemmas.{not_encoding, not_version}
use Rattle.bag_rules.proofs.PutFiles.{by_path, key_has}
use Rattle.bag_rules.proofs.SameListLemmas.{all_has}
use Rattle.bag_rules.proofs.TagSetLemmas.{not_refused}
use Rattle.bag_rules.proofs.Words.{AllByRecursion, AreRising, AreTagFiles, Bag, Equal, Files, Has, IsInScope, IsOutside, keys_of, Less, nat_cmp, nat_list_cmp_total, OutsideCause, slice_cmp, tied_itself}

-- A TAG FILE AFTER THOSE BEFORE IT

all_front : (such : List ℕ → Type 0) (n : ℕ) (files : Files) → AllByRecursion such (keys_of files) → AllByRecursion such (keys_of (take n files))
all_front such zero files all = tt
all_front such (suc n) [] all = tt
all_front such (suc n) (file ∷ files) all = (all.0, all_front such n files all.1)

front_rises : (n : ℕ) (files : Files) → AreRising (keys_of files) → AreRising (keys_of (take n files))
unfolding IsStrictlySortedBy
front_rises zero files rising = tt
front_rises (suc n) [] rising = tt
front_rises (suc n) (file ∷ files) rising = (all_front (λ other. slice_cmp nat_cmp file.0 other ≡ Less) n files rising.0, front_rises n files rising.1)

-- none before it has its path
not_before : (n : ℕ) (files : Files) (path octets : List ℕ) → AreRising (keys_of files) → slice_get files n ≡ Some (path, octets) → ¬ Has (keys_of (take n files)) path
unfolding IsStrictlySortedBy
not_before zero files path octets rising at found = absurd found
not_before (suc n) [] path octets rising at found = absurd found
not_before (suc n) (file ∷ files) path octets rising at (inl same) =
    let later = key_has files path octets (has_at files n (path, octets) at) in
    let less : slice_cmp nat_cmp file.0 path ≡ Less = all_has (λ other. slice_cmp nat_cmp file.0 other ≡ Less) (keys_of files) path rising.0 later in
    let tied : slice_cmp nat_cmp file.0 path ≡ Equal = ap (slice_cmp nat_cmp file.0) (sym same) ∙ tied_itself nat_list_cmp_total file.0 in
    absurd (cc)
not_before (suc n) (file ∷ files) path octets rising at (inr further) = not_before n files path octets rising.1 at further

-- the files before it, inserted one after another
pub front_by_path : (files : Files) (n : ℕ) → AreRising (keys_of files) → with_files [] (take n files) ≡ take n files
front_by_path files n rising = by_path (take n files) (front_rises n files rising)

pub tag_file_not_refused : (files : Files) (n : ℕ) (path octets : List ℕ) → AreTagFiles files → slice_get files n ≡ Some (path, octets)
    → (fault : TagSetFault) → fault ≢ tag.Memory → ¬ RefusesFile (take n files) path octets fault
tag_file_not_refused files n path octets are at =
    let is = all_has IsTagFile files (path, octets) are.each (has_at files n (path, octets) at) in
    not_refused (take n files) path octets is.0 (λ found. not_before n files path octets are.rising at (has_from_contains (keys_of (take n files)) path found)) is.1

-- TAG FILES THAT OPEN

-- a bag in scope isn't outside
inside : (bag : Bag) (cause : OutsideCause) → AreRising (paths_of bag) → IsInScope bag → IsOutside bag cause → ⊥
inside bag Version rising scope out = not_version bag rising scope.declared out
inside bag Encoding rising scope out = not_encoding bag rising scope.declared out
inside bag (Algorithm name) rising scope out = scope.known out.1.path _ out.1.there out.1.unknown

pub refused_by_memory : (tags : Files) (fault : PlanFault) → AreTagFiles tags → Opens tags → RefusesTags tags fault → fault ≡ plan.Memory
refused_by_memory tags (plan.TagTooLarge path) files opens r = absurd (opens.few_lines path r.has)
refused_by_memory tags (plan.Outside cause) files opens r = absurd (inside _ cause files.rising opens.in_scope r.1)
refused_by_memory tags (plan.Rules fault) files opens r = absurd (opens.no_fault fault r.2.has)
refused_by_memory tags (plan.Clash path) files opens r = absurd (opens.no_clash path r.3.has)
refused_by_memory tags plan.Memory files opens r = refl
