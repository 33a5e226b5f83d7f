-- No limit stops a check of a written bag whose holes are filled.
use Rattle.std.proofs.Common.{◌≡◌, ◌∙◌, ◌≤◌, ℕ, false, not, List, [], ◌∷◌, length, map, inl, inr, refl, sym, ap, subst, arith, length-append}
use Rattle.std.proofs.lemmas.List.Filters.{length-filter_both}
use Rattle.bag_rules.proofs.Words.{Bag, false≢true, Files, Has, has, HoldsFile, is_payload, length-map, Md5, Sha1, Sha256, Sha512, payload_of, Stops, Tag, TextStops, WorkStops}
use Rattle.bag_rules.proofs.SameTexts.{plain_text}
use Rattle.bag_rules.specs.declared.limits.TheConstants.{LARGEST_FILE, LARGEST_TAG_FILE}
use Rattle.bag_rules.specs.declared.outcome.CheckFault.{CheckFault}
use Rattle.bag_writer.proofs.FewHoles.{at_most}
use Rattle.bag_writer.proofs.FilledLemmas.{payload_is, tags, tags_of}
use Rattle.bag_writer.proofs.OpeningLemmas.{few_in_text, few_listed}
use Rattle.bag_writer.proofs.PartBags.{payload_path}
use Rattle.bag_writer.proofs.SaidElements.{few_files, short}
use Rattle.bag_writer.specs.FilledBags.{IsFilled, IsPayloadFor}
use Rattle.bag_writer.specs.WrittenBags.{algs_in, listed_tags, manifest_of, tag_files}
use Rattle.bag_writer.specs.declared.spec.Spec.{Spec}
use Rattle.bag_writer.specs.declared.too_large.Large.TheVariants as large

abbrev File : Type 0
File = List ℕ × List ℕ

few_tags : (spec : Spec) (payload : Files) → length (tag_files spec payload) ≤ 11
few_tags spec payload =
    let listed = few_listed spec payload in
    let algs = at_most (has spec.algs) (Md5 ∷ Sha1 ∷ Sha256 ∷ Sha512 ∷ []) in
    let manifests = length-map (algs_in spec.algs) (manifest_of Tag (listed_tags spec payload)) in
    let both = length-append (listed_tags spec payload) (map (manifest_of Tag (listed_tags spec payload)) (algs_in spec.algs)) in
    omega (arith, listed, algs, manifests, both)

module _ (spec : Spec) (payload : Files) (fits : IsPayloadFor spec payload) (bag : Bag) (filled : IsFilled spec payload bag) where
  few : length bag.files ≤ 200000
  few =
      let both = length-filter_both (λ (file : File). is_payload file.0) (λ (file : File). not (is_payload file.0)) (λ file. refl) bag.files in
      let items : length (payload_of bag.files) ≡ length payload = ap (λ (files : Files). length files) (payload_is spec payload fits bag filled) in
      let others = ap (λ (files : Files). length files) (tags_of spec payload fits bag (tags spec payload fits bag filled)) in
      let some = few_files spec payload fits in
      let more = few_tags spec payload in
      omega (arith, both, items, others, some, more)

  -- no file is longer than any file may be, and no tag file than a tag file
  tag_short : (path octets : List ℕ) → Has (tag_files spec payload) (path, octets) → length octets ≤ LARGEST_TAG_FILE
  tag_short path octets h = short (tag_files spec payload) LARGEST_TAG_FILE (λ long. fits.not_too_large (large.TagFile long.0, long.1)) path octets h

  all_short : (path octets : List ℕ) → HoldsFile bag path octets → length octets ≤ LARGEST_FILE
  all_short path octets holds = elim ((filled.exact path octets).0 holds) [
    | inl item ↦ short payload LARGEST_FILE (λ long. fits.not_too_large (large.File long.0, long.1)) path octets item
    | inr tag ↦ omega (arith, tag_short path octets tag)
  ]

  other_short : (path octets : List ℕ) → is_payload path ≡ false → HoldsFile bag path octets → length octets ≤ LARGEST_TAG_FILE
  other_short path octets plain holds = elim ((filled.exact path octets).0 holds) [
    | inl item ↦ absurd (false≢true (sym plain ∙ (payload_path spec payload fits path octets item).1))
    | inr tag ↦ tag_short path octets tag
  ]

  text_stops : (path octets : List ℕ) (fault : CheckFault) → HoldsFile bag path octets → ¬ TextStops path octets fault
  text_stops path octets fault holds (file, is, inl long) = omega (arith, long.0, other_short path octets (ap is_payload is ∙ plain_text file) holds)
  text_stops path octets fault holds (file, is, inr (within, many)) = few_in_text spec payload fits bag (tags spec payload fits bag filled) file octets (subst (λ p. HoldsFile bag p octets) is holds) many.0 many.1

  work_stops : (fault : CheckFault) → ¬ WorkStops bag fault
  work_stops fault (inl stops) = omega (arith, stops.reason.1.0, other_short stops.path stops.octets (ap is_payload stops.reason.0) (stops.place, stops.there))
  work_stops fault (inr (none, scope, inl stops)) = text_stops stops.path stops.octets fault (stops.place, stops.there) stops.reason
  work_stops fault (inr (none, scope, inr (text, form, stops))) = omega (arith, stops.reason.1.0, all_short stops.path stops.octets (stops.place, stops.there))

  pub no_limit : (fault : CheckFault) → ¬ Stops bag fault
  no_limit fault (inl many) = omega (arith, many.0, few)
  no_limit fault (inr work) = work_stops fault work.1
