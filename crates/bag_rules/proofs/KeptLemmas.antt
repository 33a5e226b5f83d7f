-- What is kept of the tag files that were read.
use Rattle.std.proofs.Common.{◌≡◌, ◌<◌, ◌∙◌, ◌++◌, ◌∷◌, [], ℕ, true, List, Option, None, Some, Result, Ok, Err, OnOk, get_or, length, slice_get, sym, ap, subst, arith, inl, inr}
use Rattle.std.proofs.lemmas.Bool.{cases_lt}
use Rattle.std.proofs.lemmas.List.{length_push}
use Rattle.std.proofs.lemmas.Option.{same_Some, slice_get_within}
use Rattle.bag_digest.specs.declared.reading.SourceFault.{SourceFault}
use Rattle.bag_digest.specs.declared.reading.SourceFault.TheVariants as source
use Rattle.bag_digest.specs.Reading.{GaveBefore, GaveMoreThan, read_fault}
use Rattle.bag_rules.specs.declared.tag_sums.TagSums.{TagSums}
use Rattle.bag_rules.specs.declared.tag_sums.KeptFile.{KeptFile}
use Rattle.bag_rules.specs.KeptInside.{AreKept, HasSumsWithin, IsKeptOf}
use Rattle.bag_rules.specs.Trees.{HasFileAt, Shown}
use Rattle.bag_rules.proofs.Words.{Alg, AlgSet, has}
use Rattle.bag_rules.proofs.EachLemmas.{stands_at}
use Rattle.bag_rules.proofs.FileReadLemmas.{push_at, push_before}

-- a fact that holds in any case
pub on_ok_of : {X E : Type 0} (r : Result X E) (P : Type 0) → P → OnOk r P
on_ok_of (Ok x) P p = p
on_ok_of (Err e) P p = tt

pub on_ok_both : {X E : Type 0} (r : Result X E) (P Q : Type 0) → OnOk r P → OnOk r Q → OnOk r (P × Q)
on_ok_both (Ok x) P Q p q = (p, q)
on_ok_both (Err e) P Q p q = tt

-- nothing is kept
pub none_kept : (shown : Shown) (kept : TagSums) → kept.files.items ≡ [] → AreKept shown kept
none_kept shown kept none = record { each = λ i file here. absurd (let k : None ≡ Some file = subst (λ files. slice_get files i ≡ Some file) none here in cc) }

-- one more file
pub kept_push : (shown : Shown) (old new : TagSums) (file : KeptFile) → AreKept shown old → new.set ≡ old.set → new.files.items ≡ old.files.items ++ file ∷ [] → IsKeptOf shown old.set file → AreKept shown new
kept_push shown old new file are set files here = record {
  each = λ i other there.
      let at : slice_get (old.files.items ++ file ∷ []) i ≡ Some other = ap (λ fs. slice_get fs i) (sym files) ∙ there in
      let within = slice_get_within (old.files.items ++ file ∷ []) i other at in
      subst (λ s. IsKeptOf shown s other) (sym set) (elim (cases_lt i (length old.files.items)) [
        | inl below ↦ are.each i other (sym (push_before old.files.items file i below) ∙ at)
        | inr past ↦
            let last : i ≡ length old.files.items = omega (arith, past, within, length_push old.files.items file) in
            subst (IsKeptOf shown old.set) (same_Some file other (sym (push_at old.files.items file) ∙ ap (slice_get (old.files.items ++ file ∷ [])) (sym last) ∙ at)) here
      ]);
}

-- what is kept of a file that was found
pub kept_found : (shown : Shown) (kept : TagSums) (items : List KeptFile) (i place : ℕ) (d : KeptFile) (set : AlgSet) (path octets : List ℕ) → items ≡ kept.files.items → i < length items → (get_or items i d).place ≡ place
    → ((alg : Alg) → has set alg ≡ true → has kept.set alg ≡ true) → AreKept shown kept → HasFileAt shown place path octets → HasSumsWithin (get_or items i d).sums set octets
kept_found shown kept items i place d set path octets same below here covers are at =
    let file = get_or items i d in
    let there : slice_get kept.files.items i ≡ Some file = ap (λ fs. slice_get fs i) (sym same) ∙ stands_at items i d below in
    let is = are.each i file there path octets (subst (λ p. HasFileAt shown p path octets) (sym here) at) in
    record {
      sums = record { taken = kept.set; sums = is.0; covers = covers };
      within = omega (arith, is.1);
    }

-- a source that was too large gave more than the limit
pub gave_more : (old new : Option (List ℕ)) (limit : ℕ) (fault : SourceFault) → fault ≡ source.TooLarge → GaveBefore old new limit (read_fault fault) → GaveMoreThan old new limit
gave_more old new limit fault e gave = subst (λ f. GaveBefore old new limit (read_fault f)) e gave
