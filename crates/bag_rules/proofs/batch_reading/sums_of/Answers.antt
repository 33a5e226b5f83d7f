use Rattle.std.proofs.Common.{◌≡◌, ◌∙◌, ◌+◌, ◌<◌, ◌++◌, ◌∷◌, [], ℕ, List, Some, Vec, ap, arith, inl, inr, length, length-append, refl, slice_get, sym}
use Rattle.std.specs.declared.alloc.Global.{Global}
use Rattle.std.proofs.lemmas.Option.{slice_get_read}
use Rattle.bag_digest.specs.declared.sums.Sums.{Sums}
use Rattle.bag_digest.specs.declared.streams.Stream.{Stream}
use Rattle.bag_rules.proofs.FileReadLemmas.{push_at, push_before}
use Rattle.bag_rules.proofs.Words.{cases_lt, same_Some, slice_get_within}
use Rattle.bag_rules.proofs.batch_reading.sums_of.Goals as goal
use Rattle.bag_rules.proofs.batch_reading.sums_of.Goals.{in-Some+in_ok-push, in_default}

-- the sums of the first n streams
abbrev AreFirst : {F : Type 0} → List (Stream F) → List Sums → ℕ → Type 0
AreFirst {F} streams sums n = (k : ℕ) (stream : Stream F) (found : Sums) → k < n → slice_get streams k ≡ Some stream → stream.sums ≡ Some found → slice_get sums k ≡ Some found

first_more : {F : Type 0} (streams : List (Stream F)) (old new : List Sums) (n : ℕ) (here : Stream F) (sums : Sums) → slice_get streams n ≡ Some here → here.sums ≡ Some sums
    → length old ≡ n → new ≡ old ++ sums ∷ [] → AreFirst streams old n → AreFirst streams new (n + 1)
first_more {F} streams old new n here sums at is count more before k stream found below there has = elim (cases_lt k n) [
  | inl less ↦ ap (λ xs. slice_get xs k) more ∙ push_before old sums k (omega (arith, less, count)) ∙ before k stream found less there has
  | inr above ↦
      let e : k ≡ n = omega (arith, below, above) in
      let same : here ≡ stream = same_Some here stream (sym at ∙ ap (slice_get streams) (sym e) ∙ there) in
      let own : sums ≡ found = same_Some sums found (sym is ∙ ap (λ (s : Stream F). s.sums) same ∙ has) in
      ap (λ xs. slice_get xs k) more ∙ ap (slice_get (old ++ sums ∷ [])) (e ∙ sym count) ∙ push_at old sums ∙ ap Some own
]

pub loop-stream-preserved : goal.loop-stream-preserved
loop-stream-preserved g c = λ have.
    let xs = c.args.streams.now in
    let n = c.loop-stream.stream-index in
    let here = c.stream-item.result in
    let there : slice_get xs n ≡ Some here = slice_get_read xs (length xs) n here refl c.loop-stream-test.true c.stream-item.is in
    let inv = c.loop-stream.invariant have in
    elim c.match-stream.branch [
      | in-Some+in_ok-push w ↦
          let more : c.match-stream.sums.items ≡ c.loop-stream.sums.items ++ w.in-Some.found ∷ [] = ap (λ (v : Vec Sums Global). v.items) w.sums-is ∙ w.in_ok-push.ensures.items in (
            omega (arith, ap length more, length-append c.loop-stream.sums.items (w.in-Some.found ∷ []), inv.0),
            first_more xs c.loop-stream.sums.items c.match-stream.sums.items n here w.in-Some.found there w.in-Some.is inv.0 more inv.1,
          )
      | in_default w ↦ absurd (have n here there w.in_default.is)
    ]

pub returns : goal.returns
returns g c = λ have.
    let inv = c.loop-stream.invariant have in
    record {
      count = omega (arith, inv.0, c.loop-stream-test.false, c.loop-stream.auto.stream-index-end);
      each = λ k stream found there has. inv.1 k stream found (let inside = slice_get_within c.args.streams.now k stream there in omega (arith, inside, c.loop-stream-test.false)) there has;
    }
