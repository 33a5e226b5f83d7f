-- Files that are copied, four after four.
use Rattle.std.proofs.Common.{◌≡◌, ◌≢◌, ◌∙◌, ◌+◌, ◌≤◌, ◌<◌, ℕ, List, Option, Some, None, Result, Ok, Err, MatchResult, ap, arith, false, true, inl, inr, refl, slice_get, subst, sym}
use Rattle.std.specs.Prelude.{IsOk, MatchOption, is_some}
use Rattle.std.proofs.lemmas.Bool.{cases_lt}
use Rattle.std.proofs.lemmas.Option.{same_Some}
use Rattle.bag_digest.specs.declared.algorithm.AlgSet.{AlgSet}
use Rattle.bag_digest.specs.declared.reading.SourceRead.{SourceRead}
use Rattle.bag_writer.specs.Copying.{AreDone, AreEnded, AreFresh, AreFull, HasEnded, IsCopiedTo, IsFirstOpen, IsFirstStopped, IsFresh, IsFreshBy, IsStopped, Sides, Work}
use Rattle.bag_writer.specs.declared.copying.Copying.{Copying}
use Rattle.bag_writer.specs.declared.copying.CopyStop.{CopyStop}
use Rattle.bag_writer.specs.declared.payload.CopyFault.{CopyFault}
use Rattle.bag_writer.proofs.CopyLemmas.{IsTold}

-- a search that found nothing
pub by_none : {X : Type 0} (o : Option X) (P : Type 0) (Q : X → Type 0) → MatchOption o P Q → is_some o ≡ false → P
by_none None P Q is none = is
by_none (Some x) P Q is none = absurd (let e : true ≡ false = none in cc)

-- the only one that hasn't ended
pub lone : {F G : Type 0} (copies : List (Copying F G)) (first end next k : ℕ) (copy : Copying F G) → IsFirstOpen copies first end next → AreDone copies (next + 1) end → first ≤ k → k < end
    → slice_get copies k ≡ Some copy → copy.found ≡ None → k ≡ next
lone copies first end next k copy is done from to at none = elim (cases_lt k next) [
  | inl below ↦ absurd (is.before k copy from below at none)
  | inr above ↦ elim (cases_lt next k) [
    | inl past ↦ absurd (done k copy (omega (arith, past)) to at none)
    | inr same ↦ omega (arith, above, same)
  ]
]

module _ {F G : Type 0} (s : Sides F G) (work : Work) (set : AlgSet) where
  done_by : (copy : Copying F G) (found : Option SourceRead) → found ≢ None → IsFreshBy s work set copy found → HasEnded s work set copy
  done_by copy None not fresh = absurd (not refl)
  done_by copy (Some found) not fresh = fresh

  pub done_of : (copy : Copying F G) → copy.found ≢ None → IsFresh s work set copy → HasEnded s work set copy
  done_of copy not fresh = done_by copy copy.found not fresh

  pub copied_of : (copy : Copying F G) → copy.found ≡ None → IsFresh s work set copy → IsCopiedTo s work copy.piece.items copy.source copy.target
  copied_of copy none fresh = subst (IsFreshBy s work set copy) none fresh

  -- those that were done before have ended
  pub fresh_done : (first next end : ℕ) (xs : List (Copying F G)) → next ≤ end → AreFresh s work set first end xs → AreDone xs first next → AreEnded s work set first next xs
  fresh_done first next end xs below fresh done k copy from to at = done_of copy (done k copy from to at) (fresh k copy from (omega (arith, to, below)) at)

  -- they stay so where others are copied
  pub ended_stay : (first end : ℕ) (xs ys : List (Copying F G)) → ((k : ℕ) → first ≤ k → k < end → slice_get ys k ≡ slice_get xs k) → AreEnded s work set first end xs → AreEnded s work set first end ys
  ended_stay first end xs ys same ended k copy from to now = ended k copy from to (sym (same k from to) ∙ now)

  pub fresh_stay : (first end : ℕ) (xs ys : List (Copying F G)) → ((k : ℕ) → first ≤ k → k < end → slice_get ys k ≡ slice_get xs k) → AreFresh s work set first end xs → AreFresh s work set first end ys
  fresh_stay first end xs ys same fresh k copy from to now = fresh k copy from to (sym (same k from to) ∙ now)

  pub ended_join : (first mid end : ℕ) (xs : List (Copying F G)) → AreEnded s work set first mid xs → AreEnded s work set mid end xs → AreEnded s work set first end xs
  ended_join first mid end xs a b k copy from to at = elim (cases_lt k mid) [ inl below ↦ a k copy from below at | inr above ↦ b k copy above to at ]

  -- the only one that hadn't ended has now
  module _ (first end next : ℕ) (xs ys : List (Copying F G)) (fresh : AreFresh s work set first end xs) (is : IsFirstOpen xs first end next) (others : (j : ℕ) → j ≢ next → slice_get ys j ≡ slice_get xs j) (new : Copying F G) (here : slice_get ys next ≡ Some new) where
    pub ended_before : AreEnded s work set first next ys
    ended_before k copy from to now =
        let at = sym (others k (λ e. omega (arith, e, to))) ∙ now in
        let high = is.high in
        done_of copy (is.before k copy from to at) (fresh k copy from (omega (arith, to, high)) at)

    pub ended_alone : AreDone xs (next + 1) end → HasEnded s work set new → AreEnded s work set first end ys
    ended_alone done ended k copy from to now = elim (cases_lt k next) [
      | inl below ↦ ended_before k copy from below now
      | inr above ↦ elim (cases_lt next k) [
        | inl past ↦ (let at = sym (others k (λ e. omega (arith, e, past))) ∙ now in done_of copy (done k copy (omega (arith, past)) to at) (fresh k copy from to at))
        | inr other ↦ (let e : k ≡ next = omega (arith, above, other) in let own : new ≡ copy = same_Some new copy (sym here ∙ ap (slice_get ys) (sym e) ∙ now) in subst (HasEnded s work set) own ended)
      ]
    ]

    pub stopped_alone : (fault : CopyFault) → IsStopped s work new.source new.target fault → IsFirstStopped s work set first end ys (record { place = next; fault = fault })
    stopped_alone fault stopped = record {
      low = is.low;
      high = is.high;
      before = ended_before;
      here = λ copy now. (let own : new ≡ copy = same_Some new copy (sym here ∙ now) in subst (λ (c : Copying F G). IsStopped s work c.source c.target fault) own stopped);
    }

  -- one that stopped among those behind others that have ended
  pub stopped_behind : (low first end last : ℕ) (xs : List (Copying F G)) (stop : CopyStop) → low ≤ first → end ≤ last → AreEnded s work set low first xs → IsFirstStopped s work set first end xs stop → IsFirstStopped s work set low last xs stop
  stopped_behind low first end last xs stop below above ended is = record {
    low = (let at = is.low in omega (arith, at, below));
    high = (let at = is.high in omega (arith, at, above));
    before = ended_join low first stop.place xs ended is.before;
    here = is.here;
  }

  -- what is answered, by what was told
  pub all_told : {U : Type 0} (first place end : ℕ) (xs : List (Copying F G)) (told : Option CopyFault) (result : Result U CopyStop) → MatchOption told (IsOk result) (λ fault. result ≡ Err (record { place = place; fault = fault }))
      → first ≤ place → IsTold s work place end xs told → AreEnded s work set first place xs → MatchResult result (λ done. AreEnded s work set first end xs) (IsFirstStopped s work set first end xs)
  all_told first place end xs None (Ok done) is low told ended = subst (λ n. AreEnded s work set first n xs) told ended
  all_told first place end xs None (Err stop) is low told ended = absurd (let e : false ≡ true = is in cc)
  all_told first place end xs (Some fault) result is low told ended = rw is (record { low = low; high = told.0; before = ended; here = told.1 })

pub full_stay : {F G : Type 0} (first end low high : ℕ) (xs ys : List (Copying F G)) → first ≤ low → high ≤ end → ((k : ℕ) → low ≤ k → k < high → slice_get ys k ≡ slice_get xs k) → AreFull first end xs → AreFull low high ys
full_stay first end low high xs ys below above same full k copy from to now none = full k copy (omega (arith, below, from)) (omega (arith, above, to)) (sym (same k from to) ∙ now) none
