-- How failures of the store are counted over several calls.
use Rattle.std.proofs.Common.{◌≡◌, ◌≢◌, ℕ, Ok, Err, IsErrOf, refl, ap, subst}
use Rattle.bag_digest.specs.Failures.{UsesSource}
use Rattle.bag_ledger.specs.declared.keeper_faults.PutFault.TheVariants as put
use Rattle.bag_receiver.proofs.Words.{CountsIf, deliver_fault, DeliverFault, Keeper, KeepFault, PutFault, Reader, Refused, Store, StoreFault}

-- after a call that didn't fail
pub counts_after : (failed then : Type 0) (old middle new : ℕ) → ¬ failed → CountsIf failed old middle → CountsIf then middle new → CountsIf then old new
counts_after failed then old middle new none first second = subst (λ n. CountsIf then n new) (first.stays none) second

kept_fault : (fault : PutFault) (store : StoreFault) → deliver_fault fault ≡ Keeper (Store store) → fault ≡ put.Keep (Store store)
kept_fault put.Reader store e = cc
kept_fault put.TooLarge store e = cc
kept_fault put.Length store e = cc
kept_fault (put.Digest alg) store e = cc
kept_fault (put.Keep fault) store e = cc

-- the answer is no fault
pub no_fault : {T E : Type 0} (x : T) (fault : StoreFault → E) → ((store : StoreFault) × IsErrOf (Ok x) (fault store)) → ⊥
no_fault x fault (store, e) = (let h : Ok x ≡ Err (fault store) = e in cc)

abbrev Answered : (T : Type 0) {E : Type 0} → E → (StoreFault → E) → Type 0
Answered T {E} fault as_store = (store : StoreFault) × IsErrOf {T = T} {E = E} (Err fault) (as_store store)

answered : {T E : Type 0} (fault : E) (as_store : StoreFault → E) (store : StoreFault) → fault ≡ as_store store → Answered T fault as_store
answered {T} {E} fault as_store store e = (store, (λ t. Err (e t)))

told : {T E : Type 0} (fault : E) (as_store : StoreFault → E) (h : Answered T fault as_store) → fault ≡ as_store h.0
told {T = T} {E} fault as_store h = (let e : Err fault ≡ Err (as_store h.0) = h.1 in cc)

-- a fault that is returned to the caller
pub counts_on : {T U E : Type 0} (fault : E) (as_store : StoreFault → E) (old new : ℕ) → CountsIf (Answered T fault as_store) old new → CountsIf (Answered U fault as_store) old new
counts_on {T} {U} fault as_store old new counts = record {
  rises = λ h. counts.rises (answered fault as_store h.0 (told {T = U} fault as_store h));
  stays = λ none. counts.stays (λ h. none (answered fault as_store h.0 (told {T = T} fault as_store h)));
}

-- the keeper's fault of putting is that of the delivery
pub counts_put : {T U : Type 0} (fault : PutFault) (old new : ℕ) → CountsIf (Answered T fault (λ store. put.Keep (Store store))) old new
    → CountsIf (Answered U (deliver_fault fault) (λ store. Keeper (Store store))) old new
counts_put {T} {U} fault old new counts = record {
  rises = λ h. counts.rises (answered fault (λ store. put.Keep (Store store)) h.0 (kept_fault fault h.0 (told {T = U} (deliver_fault fault) (λ store. Keeper (Store store)) h)));
  stays = λ none. counts.stays (λ h. none (answered (deliver_fault fault) (λ store. Keeper (Store store)) h.0 (ap deliver_fault (told {T = T} fault (λ store. put.Keep (Store store)) h))));
}

-- a fault of the keeper that is returned as another fault
pub counts_as : {T U E : Type 0} (hand : KeepFault → E) → ((a b : KeepFault) → hand a ≡ hand b → a ≡ b) → (fault : KeepFault) (old new : ℕ) → CountsIf (Answered T fault Store) old new
    → CountsIf (Answered U (hand fault) (λ store. hand (Store store))) old new
counts_as {T} {U} hand apart fault old new counts = record {
  rises = λ h. counts.rises (answered fault Store h.0 (apart fault (Store h.0) (told {T = U} (hand fault) (λ store. hand (Store store)) h)));
  stays = λ none. counts.stays (λ h. none (answered (hand fault) (λ store. hand (Store store)) h.0 (ap hand (told {T = T} fault Store h))));
}

-- this is the answer
pub counts_answer : {T : Type 0} (fault : DeliverFault) (old new : ℕ) → CountsIf (Answered T fault (λ store. Keeper (Store store))) old new
    → CountsIf ((store : StoreFault) × (Refused fault ≡ Refused (Keeper (Store store)))) old new
counts_answer {T} fault old new counts = record {
  rises = λ h. counts.rises (answered fault (λ store. Keeper (Store store)) h.0 (let e : Refused fault ≡ Refused (Keeper (Store h.0)) = h.1 in cc));
  stays = λ none. counts.stays (λ h. none (h.0, ap Refused (told {T = T} fault (λ store. Keeper (Store store)) h)));
}

-- READERS

module _ {S : Type 0} (failures : S → ℕ) (ready : S → Type 0) (keeps : S → S → Type 0) where
  uses_as : (failed then : Type 0) (old new : S) → (failed → then) → (then → failed) → UsesSource failures ready keeps old new failed → UsesSource failures ready keeps old new then
  uses_as failed then old new so back uses = record {
    kept = uses.kept;
    counted = record { rises = λ h. uses.counted.rises (back h); stays = λ none. uses.counted.stays (λ h. none (so h)) };
    stays_ready = λ is. (let k = uses.stays_ready is in (k.0, λ h. k.1 (back h)));
  }

  abbrev Fails : (T : Type 0) {E : Type 0} → E → E → Type 0
  Fails T {E} fault other = IsErrOf {T = T} {E = E} (Err fault) other

  read_fault : (fault : PutFault) → deliver_fault fault ≡ Reader → fault ≡ put.Reader
  read_fault put.Reader e = refl
  read_fault put.TooLarge e = cc
  read_fault put.Length e = cc
  read_fault (put.Digest alg) e = cc
  read_fault (put.Keep fault) e = cc

  is_fault : {T E : Type 0} (fault other : E) → Fails T fault other → fault ≡ other
  is_fault {T} {E} fault other h = (let e : Err fault ≡ Err other = h in cc)

  fails : {T E : Type 0} (fault other : E) → fault ≡ other → Fails T fault other
  fails {T} {E} fault other e = λ t. Err (e t)

  pub uses_put : {T U : Type 0} (fault : PutFault) (old new : S) → UsesSource failures ready keeps old new (Fails T fault put.Reader) → UsesSource failures ready keeps old new (Fails U (deliver_fault fault) Reader)
  uses_put {T} {U} fault old new = uses_as (Fails T fault put.Reader) (Fails U (deliver_fault fault) Reader) old new
      (λ h. fails (deliver_fault fault) Reader (ap deliver_fault (is_fault {T = T} fault put.Reader h)))
      (λ h. fails fault put.Reader (read_fault fault (is_fault {T = U} (deliver_fault fault) Reader h)))

  -- a reader that isn't used
  pub not_used : {U E : Type 0} (fault other : E) (source : S) → keeps source source → fault ≢ other → UsesSource failures ready keeps source source (Fails U fault other)
  not_used {U} fault other source same apart = record {
    kept = same;
    counted = record { rises = λ h. absurd (apart (is_fault {T = U} fault other h)); stays = λ none. refl };
    stays_ready = λ is. (is, λ h. apart (is_fault {T = U} fault other h));
  }

  pub uses_answer : {T : Type 0} (fault : DeliverFault) (old new : S) → UsesSource failures ready keeps old new (Fails T fault Reader) → UsesSource failures ready keeps old new (Refused fault ≡ Refused Reader)
  uses_answer {T} fault old new = uses_as (Fails T fault Reader) (Refused fault ≡ Refused Reader) old new
      (λ h. ap Refused (is_fault {T = T} fault Reader h)) (λ h. fails fault Reader (let e : Refused fault ≡ Refused Reader = h in cc))

-- only the fault
pub counts_err : {T E : Type 0} (fault : E) (as_store : StoreFault → E) (old new : ℕ) → CountsIf (Answered T fault as_store) old new → CountsIf ((store : StoreFault) × (fault ≡ as_store store)) old new
counts_err {T} {E} fault as_store old new counts = record {
  rises = λ h. counts.rises (answered fault as_store h.0 h.1);
  stays = λ none. counts.stays (λ h. none (h.0, told {T = T} fault as_store h));
}

-- the store was blamed
pub counts_blamed : {T : Type 0} (fault : KeepFault) (old new : ℕ) → CountsIf ((store : StoreFault) × (fault ≡ Store store)) old new → CountsIf (Answered T fault Store) old new
counts_blamed {T} fault old new counts = record {
  rises = λ h. counts.rises (h.0, told {T = T} fault Store h);
  stays = λ none. counts.stays (λ h. none (answered fault Store h.0 h.1));
}
