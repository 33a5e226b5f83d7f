-- No tag file has the path of another, or of a payload file.
use Rattle.std.proofs.Common.{◌≡◌, ◌∙◌, ◌∷◌, [], ℕ, List, Option, Contains, true, false, ap, inl, inr, sym}
use Rattle.std.specs.List.{AllByRecursion}
use Rattle.std.specs.List.Sorted.{IsStrictlySortedBy}
use Rattle.bag_rules.proofs.HasLemmas.{has_from_contains}
use Rattle.bag_rules.proofs.Words.{AreRising, Equal, Files, Less, is_payload, keys_of, nat_cmp, nat_list_cmp_total, slice_cmp, tied_itself}
use Rattle.bag_writer.specs.Sinks.{IsFree, Stored}
use Rattle.bag_writer.specs.Steps.{HasPayloadAlone}
use Rattle.bag_writer.specs.TagWriting.{AreFree}
use Rattle.bag_writer.specs.WrittenBags.{tag_files}
use Rattle.bag_writer.specs.declared.spec.Spec.{Spec}
use Rattle.bag_writer.proofs.ItemLemmas.{File}
use Rattle.bag_writer.proofs.StepLemmas.{free_still}
use Rattle.bag_writer.proofs.TagNames.{tags_plain, tags_rise}
use Rattle.bag_writer.proofs.TagSteps.{one_whole, step}

all_so : (P Q R : List ℕ → Type 0) (paths : List (List ℕ)) → ((path : List ℕ) → P path → Q path → R path) → AllByRecursion P paths → AllByRecursion Q paths → AllByRecursion R paths
all_so P Q R [] so p q = tt
all_so P Q R (path ∷ paths) so p q = (so path p.0 q.0, all_so P Q R paths so p.1 q.1)

-- a greater path isn't that of the file
not_that : (file : File) (path : List ℕ) → slice_cmp nat_cmp file.0 path ≡ Less → Contains (keys_of (file ∷ [])) path → ⊥
not_that file path less contains = elim (has_from_contains (keys_of (file ∷ [])) path contains) [
  | inl same ↦ (let tied : slice_cmp nat_cmp file.0 path ≡ Equal = ap (slice_cmp nat_cmp file.0) (sym same) ∙ tied_itself nat_list_cmp_total file.0 in cc)
  | inr none ↦ absurd none
]

free_rising : (files : Files) (known : Option Stored) → AreRising (keys_of files) → AllByRecursion (IsFree known) (keys_of files) → AreFree known files
unfolding IsStrictlySortedBy
free_rising [] known rising free = tt
free_rising (file ∷ files) known rising free = (
  free.0,
  free_rising files (step file known) rising.1
      (all_so (IsFree known) (λ path. slice_cmp nat_cmp file.0 path ≡ Less) (IsFree (step file known)) (keys_of files)
      (λ path is_free less. free_still (file ∷ []) path known (step file known) is_free (not_that file path less) (one_whole file known))
      free.1 rising.0),
)

plain_free : (known : Option Stored) → HasPayloadAlone known → (path : List ℕ) → is_payload path ≡ false → IsFree known path
plain_free known alone path plain stored is contains = (let both : true ≡ false = sym (alone stored is path contains) ∙ plain in cc)

pub tags_free : (spec : Spec) (payload : Files) (known : Option Stored) → HasPayloadAlone known → AreFree known (tag_files spec payload)
tags_free spec payload known alone =
    let paths = keys_of (tag_files spec payload) in
    free_rising (tag_files spec payload) known (tags_rise spec payload)
    (all_so (λ path. is_payload path ≡ false) (λ path. is_payload path ≡ false) (IsFree known) paths (λ path plain _. plain_free known alone path plain) (tags_plain spec payload) (tags_plain spec payload))
