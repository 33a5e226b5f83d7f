-- Deliveries in sequence.
use Rattle.std.proofs.Common.{◌≡◌, ◌+◌, ℕ, List, [], ◌∷◌, ◌++◌, Some, None, Vec, length, slice_get, refl, sym, ap, subst, ◌∙◌, arith}
use Rattle.bag_receiver.specs.Runs.{store_failure, store_failures}
use Rattle.bag_receiver.proofs.ReceivingLemmas.{receives}
use Rattle.bag_receiver.proofs.Words.{Answer, BadPath, CountsEach, CountsIf, Delivery, delivery_of, DeliverySteps, Digest, Does, Files, Global, IsAnswer, Keeper, Ledger, LedgerState, Length, Memory, NotListed, NoTransfer, Reader, Receiver, Receives, Refused, Repeated, Rises, Runs, Store, StoreFault, String, string_bytes, Taken, TooLarge, Whole, with_answers}
use Rattle.bag_rules.proofs.HasLemmas.{all_last}

pub steps_join : (name : List ℕ) (deliveries others : List Delivery) (old middle new : LedgerState) → DeliverySteps name deliveries old middle → DeliverySteps name others middle new
    → DeliverySteps name (deliveries ++ others) old new
steps_join name [] others old middle new e k = subst (λ (s : LedgerState). DeliverySteps name others s new) e k
steps_join name (delivery ∷ deliveries) others old middle new h k = (h.0, h.1, steps_join name deliveries others h.0 middle new h.2 k)

-- COUNTS

failures_more : (deliveries : List Delivery) (delivery : Delivery) → store_failures (deliveries ++ delivery ∷ []) ≡ store_failures deliveries + store_failure delivery.answer
failures_more [] delivery = omega arith
failures_more (one ∷ deliveries) delivery = (let rest = failures_more deliveries delivery in omega (arith, rest))

abbrev IsStore : Answer → Type 0
IsStore answer = (store : StoreFault) × (answer ≡ Refused (Keeper (Store store)))

counted_none : (n old middle new : ℕ) → CountsEach n old middle → new ≡ middle → CountsEach (n + 0) old new
counted_none n old middle new counts same = record {
  stays = λ e. (let k = counts.stays (omega (arith, e)) in same ∙ k);
  rises = (let h = counts.rises in omega (arith, h, same));
}

counted_one : (n old middle new : ℕ) → CountsEach n old middle → Rises middle new → CountsEach (n + 1) old new
counted_one n old middle new counts rises = record {
  stays = λ e. absurd (omega (arith, e));
  rises = (let h = counts.rises in omega (arith, h, rises));
}

counted : (answer : Answer) (n old middle new : ℕ) → CountsEach n old middle → CountsIf (IsStore answer) middle new → CountsEach (n + store_failure answer) old new
counted (Refused (Keeper (Store fault))) n old middle new counts then = counted_one n old middle new counts (then.rises (fault, refl))
counted (Refused (Keeper Memory)) n old middle new counts then = counted_none n old middle new counts (then.stays (λ h. absurd (let e : Refused (Keeper Memory) ≡ Refused (Keeper (Store h.0)) = h.1 in cc)))
counted Taken n old middle new counts then = counted_none n old middle new counts (then.stays (λ h. absurd (let e : Taken ≡ Refused (Keeper (Store h.0)) = h.1 in cc)))
counted Repeated n old middle new counts then = counted_none n old middle new counts (then.stays (λ h. absurd (let e : Repeated ≡ Refused (Keeper (Store h.0)) = h.1 in cc)))
counted (Refused NoTransfer) n old middle new counts then = counted_none n old middle new counts (then.stays (λ h. absurd (let e : Refused NoTransfer ≡ Refused (Keeper (Store h.0)) = h.1 in cc)))
counted (Refused (BadPath fault)) n old middle new counts then = counted_none n old middle new counts (then.stays (λ h. absurd (let e : Refused (BadPath fault) ≡ Refused (Keeper (Store h.0)) = h.1 in cc)))
counted (Refused NotListed) n old middle new counts then = counted_none n old middle new counts (then.stays (λ h. absurd (let e : Refused NotListed ≡ Refused (Keeper (Store h.0)) = h.1 in cc)))
counted (Refused Reader) n old middle new counts then = counted_none n old middle new counts (then.stays (λ h. absurd (let e : Refused Reader ≡ Refused (Keeper (Store h.0)) = h.1 in cc)))
counted (Refused TooLarge) n old middle new counts then = counted_none n old middle new counts (then.stays (λ h. absurd (let e : Refused TooLarge ≡ Refused (Keeper (Store h.0)) = h.1 in cc)))
counted (Refused Length) n old middle new counts then = counted_none n old middle new counts (then.stays (λ h. absurd (let e : Refused Length ≡ Refused (Keeper (Store h.0)) = h.1 in cc)))
counted (Refused (Digest alg)) n old middle new counts then = counted_none n old middle new counts (then.stays (λ h. absurd (let e : Refused (Digest alg) ≡ Refused (Keeper (Store h.0)) = h.1 in cc)))

-- RUNS

module _ {K : Type 0} (holds may_leave : K → Ledger → Type 0) (clean : K → Type 0) (failures : K → ℕ) where
  pub ran_nothing : (receiver : Receiver K) (name : List ℕ) → Runs holds may_leave clean failures receiver receiver name []
  ran_nothing receiver name = record {
    received = record { was_clean = λ c. c; leads = λ c now in_state. (now, in_state, receives name [] now now refl) };
    judged = tt;
    store = record { stays = λ e. refl; rises = omega arith };
  }

  pub ran_more : (old middle new : Receiver K) (name : List ℕ) (deliveries : List Delivery) (delivery : Delivery) → Runs holds may_leave clean failures old middle name deliveries
      → Does holds may_leave clean middle new (Receives name (delivery ∷ [])) → IsAnswer name delivery → CountsIf (IsStore delivery.answer) (failures middle.keeper) (failures new.keeper)
      → Runs holds may_leave clean failures old new name (deliveries ++ delivery ∷ [])
  ran_more old middle new name deliveries delivery runs does is counts = record {
    received = record {
      was_clean = λ c. runs.received.was_clean (does.was_clean c);
      leads = λ c before in_state. (
          let first = runs.received.leads (does.was_clean c) before in_state in
          let then = does.leads c first.0 first.1 in
          (then.0, then.1, receives name (deliveries ++ delivery ∷ []) before then.0 (steps_join name deliveries (delivery ∷ []) before first.0 then.0 first.2.steps then.2.steps)));
    };
    judged = all_last (IsAnswer name) deliveries delivery runs.judged is;
    store = subst (λ n. CountsEach n (failures old.keeper) (failures new.keeper)) (sym (failures_more deliveries delivery)) (counted delivery.answer _ _ _ _ runs.store counts);
  }

-- ONE MORE ANSWER

pub no_answers : (given : Files) → with_answers given [] ≡ []
no_answers [] = refl
no_answers (one ∷ given) = refl

pub answers_more : (given : Files) (answers : List Answer) (file : List ℕ × List ℕ) (answer : Answer) → slice_get given (length answers) ≡ Some file
    → with_answers given (answers ++ answer ∷ []) ≡ with_answers given answers ++ delivery_of file.0 (Whole file.1) answer ∷ []
answers_more [] answers file answer at = absurd (let e : None ≡ Some file = at in cc)
answers_more (one ∷ given) [] file answer at = (let e : Some one ≡ Some file = at in let same : one ≡ file = cc in (λ t. delivery_of ((same t).0) (Whole ((same t).1)) answer ∷ no_answers given t))
answers_more (one ∷ given) (a ∷ answers) file answer at = ap (λ ds. delivery_of one.0 (Whole one.1) a ∷ ds) (answers_more given answers file answer at)

-- an item, as its text and its octets
abbrev pub text_of : String Global × Vec ℕ Global → List ℕ × List ℕ
text_of item = (string_bytes item.0, item.1.items)
