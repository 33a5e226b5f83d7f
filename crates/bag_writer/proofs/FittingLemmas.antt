-- Which payloads fit.
use Rattle.std.proofs.Common.{◌≡◌, ◌+◌, ◌++◌, ℕ, List, [], ◌∷◌, Some, slice_get, get_or, take, sym, ap, subst, ◌∙◌, inl, inr}
use Rattle.std.specs.List.{AllByRecursion, filter}
use Rattle.std.proofs.lemmas.List.{take_more}
use Rattle.std.proofs.lemmas.List.Kept.{IsStrictlySortedBy-filter}
use Rattle.bag_path.specs.Paths.{IsPath}
use Rattle.bag_rules.proofs.Words.{AreRising, cases_Bool, Files, get_or_from_slice_get, is_payload, nat_cmp, paths_in, Shown, slice_cmp, slice_get_within}
use Rattle.bag_tags.proofs.WritingLemmas.{each_append}
use Rattle.bag_tags.specs.Infos.{IsElement}
use Rattle.bag_writer.specs.FilledBags.{IsPayloadFor, IsPayloadPath}
use Rattle.bag_writer.specs.Writing.{IsAccepted, IsReadFrom, IsTooLarge, payload_paths}
use Rattle.bag_writer.specs.declared.spec.Spec.{Spec}

-- one more path
pub path_more : (paths : List (List ℕ)) (i : ℕ) (path : List ℕ) → slice_get paths i ≡ Some path → AllByRecursion IsPath (take i paths) → IsPath path → AllByRecursion IsPath (take (i + 1) paths)
path_more paths i path at before here =
    let same : get_or paths i path ≡ path = get_or_from_slice_get paths i path path at in
    subst (λ ps. AllByRecursion IsPath ps) (sym (take_more paths i path (slice_get_within paths i path at) ∙ ap (λ p. take i paths ++ p ∷ []) same))
    (each_append IsPath (take i paths) (path ∷ []) before (here, tt))

payload_fits : (paths : List (List ℕ)) → AllByRecursion IsPath paths → AllByRecursion IsPayloadPath (filter is_payload paths)
payload_fits [] all = tt
payload_fits (path ∷ paths) all = elim (cases_Bool (is_payload path)) [
  | inl is ↦ rw is ((all.0, is), payload_fits paths all.1)
  | inr other ↦ rw other (payload_fits paths all.1)
]

pub read_fits : (shown : Shown) (spec : Spec) → AreRising (paths_in shown) → AllByRecursion IsPath (paths_in shown) → AllByRecursion IsElement spec.info
    → (payload : Files) → IsReadFrom shown payload → IsAccepted (payload_paths shown) spec → ¬ IsTooLarge spec payload → IsPayloadFor spec payload
read_fits shown spec rising paths elements payload read accepted small = record {
  rising = subst AreRising (sym read.paths) (IsStrictlySortedBy-filter (slice_cmp nat_cmp) is_payload (paths_in shown) rising);
  paths = subst (AllByRecursion IsPayloadPath) (sym read.paths) (payload_fits (paths_in shown) paths);
  elements = elements;
  accepted = subst (λ (paths : List (List ℕ)). IsAccepted paths spec) (sym read.paths) accepted;
  not_too_large = small;
}
