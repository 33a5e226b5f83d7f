use Rattle.std.proofs.Common.{◌≡◌, ◌≢◌, ◌<◌, ◌∙◌, ℕ, List, Some, ap, arith, below_more, get_or, length, slice_get, subst, sym, true}
use Rattle.std.proofs.lemmas.Option.{same_Some}
use Rattle.bag_rules.specs.declared.tag_sums.KeptFile.{KeptFile}
use Rattle.bag_rules.proofs.EachLemmas.{stands_at}
use Rattle.bag_rules.proofs.KeptLemmas.{kept_found}
use Rattle.bag_rules.proofs.Words.{slice_get_within}
use Rattle.bag_rules.proofs.tag_sums.TagSums.find.Goals as goal

not_here : (files : List KeptFile) (i : ℕ) (d : KeptFile) (place : ℕ) → i < length files → ¬ ((get_or files i d).place ≡ place) → (file : KeptFile) → slice_get files i ≡ Some file → file.place ≢ place
not_here files i d place below not file at same =
    let own : get_or files i d ≡ file = same_Some (get_or files i d) file (sym (stands_at files i d below) ∙ at) in
    not (ap (λ (f : KeptFile). f.place) own ∙ same)

pub returns-then-not-covers-clause-unkept : goal.returns-then-not-covers-clause-unkept
returns-then-not-covers-clause-unkept c = λ covers.
    absurd (let k : c.covers.result ≡ true = c.covers.ensures.1 covers in let no = c.if-not-covers.true in cc)

pub returns-then-file-place-clause-found : goal.returns-then-file-place-clause-found
returns-then-file-place-clause-found c = λ shown path octets are at.
    kept_found shown c.args.self.now c.deref-file-items.result.now c.loop-file.file-index c.args.place _ c.args.set path octets
    c.deref-file-items.ensures.value c.loop-file-test.true c.if-file-place.true (c.covers.ensures.0 c.if-not-covers.false) are at

pub loop-file-preserved : goal.loop-file-preserved
loop-file-preserved c = λ number other below there. (
    let files = c.deref-file-items.result.now in
    below_more (λ k. (file : KeptFile) → slice_get files k ≡ Some file → file.place ≢ c.args.place) c.loop-file.file-index
    (λ k below file at. c.loop-file.invariant k file below at)
    (not_here files c.loop-file.file-index _ c.args.place c.loop-file-test.true c.if-file-place.false)
    number below other there)

pub returns-clause-unkept : goal.returns-clause-unkept
returns-clause-unkept c = λ covers is.
    let there = subst (λ files. slice_get files is.number ≡ Some is.file) (sym c.deref-file-items.ensures.value) is.there in
    let inside = slice_get_within c.deref-file-items.result.now is.number is.file there in
    c.loop-file.invariant is.number is.file (omega (arith, inside, c.loop-file-test.false)) there is.placed
