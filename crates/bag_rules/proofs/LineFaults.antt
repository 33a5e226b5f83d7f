-- What the reading of one tag file's text adds to the faults.
use Rattle.std.proofs.Common.{◌≡◌, ◌↔◌, ℕ, List, Option, Some, None, Result, IfErr, IfOk, refl, sym, ap, ◌∙◌, subst}
use Rattle.bag_path.specs.declared.version.Version.{Version}
use Rattle.bag_tags.specs.declared.tag_feed.TagValue.{TagValue}
use Rattle.bag_tags.specs.Feeds.{IsFaultOf, IsTextFor}
use Rattle.bag_tags.specs.TagLines.{Faults}
use Rattle.bag_tags.proofs.ExactTexts as exact
use Rattle.bag_tags.proofs.FeedLemmas.{no_value, one_value}
use Rattle.bag_rules.specs.ReadingInside.{IsReadOf}
use Rattle.bag_rules.proofs.Words.{Adds, BadLine, Fault, FetchList, Info, IsFirstBadLine, line_fault, LineFault, LineFile, Manifest, TagFault, ValueOf}
use Rattle.bag_rules.proofs.AddsLemmas.{adds_none, adds_one}

-- the first faulty line of a text, in other words
bad_line : (version : Version) (file : LineFile) (octets : List ℕ) (f : Fault) → IsFirstBadLine version file octets f → (fault : LineFault) × IsFaultOf version file octets fault × (BadLine file fault.line fault.cause ≡ f)
bad_line version Info octets f h = (line_fault h.0 h.1.0, h.1.1, sym h.1.2)
bad_line version FetchList octets f h = (line_fault h.0 h.1.0, h.1.1, sym h.1.2)
bad_line version (Manifest name) octets f h = (line_fault h.0 h.1.0, h.1.1, sym h.1.2)

is_bad_line : (version : Version) (file : LineFile) (octets : List ℕ) (fault : LineFault) → IsFaultOf version file octets fault → IsFirstBadLine version file octets (BadLine file fault.line fault.cause)
is_bad_line version Info octets fault h = (fault.line, (fault.cause, h, refl))
is_bad_line version FetchList octets fault h = (fault.line, (fault.cause, h, refl))
is_bad_line version (Manifest name) octets fault h = (fault.line, (fault.cause, h, refl))

one_fault : (version : Version) (file : LineFile) (octets : List ℕ) (fault other : LineFault) → IsFaultOf version file octets fault → IsFaultOf version file octets other → fault ≡ other
one_fault version Info octets = exact.one_info_fault version octets
one_fault version FetchList octets = exact.one_fetch_fault version octets
one_fault version (Manifest name) octets = exact.one_manifest_fault version name.alg name.kind octets

module _ (version : Version) (file : LineFile) (octets : List ℕ) (read : Result TagValue TagFault) (reads : IsReadOf version file octets read) where
  -- the value is what the text says, if it says something
  pub value_tells : (old new : List Fault) (v : Option TagValue) → ValueOf read file old new v → (x : TagValue) → (v ≡ Some x) ↔ IsTextFor version file octets x
  value_tells old new (Some v) is x =
      let there : IsTextFor version file octets v = subst (λ r. IfOk r (IsTextFor version file octets)) is.0 reads.value in (
        λ e. (let same : v ≡ x = cc in subst (IsTextFor version file octets) same there),
        λ s. ap Some (one_value version file octets v x there s),
      )
  value_tells old new None is x =
      let here : IsFaultOf version file octets is.0 = subst (λ r. IfErr r (Faults (IsFaultOf version file octets))) is.1 reads.fault in (
        λ e. cc,
        λ s. absurd (no_value version file octets x is.0 s here),
      )

  -- the faults that it adds are the text's first fault, if it has one
  pub faults_told : (old new : List Fault) (v : Option TagValue) → ValueOf read file old new v → Adds old new (IsFirstBadLine version file octets)
  faults_told old new (Some v) is =
      let there : IsTextFor version file octets v = subst (λ r. IfOk r (IsTextFor version file octets)) is.0 reads.value in
      subst (λ fs. Adds old fs (IsFirstBadLine version file octets)) (sym is.1)
      (adds_none old (IsFirstBadLine version file octets) (λ f h. let bad = bad_line version file octets f h in no_value version file octets v bad.0 there bad.1))
  faults_told old new None is =
      let here : IsFaultOf version file octets is.0 = subst (λ r. IfErr r (Faults (IsFaultOf version file octets))) is.1 reads.fault in
      adds_one old new (BadLine file is.0.line is.0.cause) (IsFirstBadLine version file octets) is.2 (is_bad_line version file octets is.0 here)
      (λ f h. let bad = bad_line version file octets f h in ap (λ (fault : LineFault). BadLine file fault.line fault.cause) (one_fault version file octets is.0 bad.0 here bad.1) ∙ bad.2)
