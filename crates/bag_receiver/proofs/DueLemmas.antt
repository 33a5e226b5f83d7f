-- The answer that is due.
use Rattle.std.proofs.Common.{◌≡◌, [], ◌≢◌, ℕ, List, Option, Some, None, Contains, cond, nat_eq, refl, sym, ap, ◌∙◌, arith}
use Rattle.bag_receiver.proofs.Words.{Alg, Answer, AnswerStep, BadPath, Content, Digest, Files, HasOtherLength, holding, IsAcceptance, IsDue, IsDueIn, IsExpected, IsFirstAmong, IsListedPath, IsMisfitIn, IsPath, IsTooLong, Keeper, keys_of, Length, ListsOther, Md5, no_fault_if_path, NotListed, NoTransfer, OtherDigest, OtherLength, Passes, PassesIn, path_fault, PathFault, place_of, Reader, Refused, Repeated, Sha1, Sha256, Sha512, Taken, TooLarge, TooLong, Transfer, Unread, WantFault, Whole}

-- THE FIRST ALGORITHM

alg_at : ℕ → Alg
alg_at n = cond (nat_eq n 0) Md5 (cond (nat_eq n 1) Sha1 (cond (nat_eq n 2) Sha256 Sha512))

there_again : (alg : Alg) → alg_at (place_of alg) ≡ alg
unfolding alg_at
there_again Md5 = refl
there_again Sha1 = refl
there_again Sha256 = refl
there_again Sha512 = refl

first_alg : (some : Alg → Type 0) (a b : Alg) → IsFirstAmong some a → IsFirstAmong some b → a ≡ b
first_alg some a b h k =
    let low = h.1 b k.0 in
    let high = k.1 a h.0 in
    let same : place_of a ≡ place_of b = omega (arith, low, high) in
    sym (there_again a) ∙ ap alg_at same ∙ there_again b

-- WHICH CASES EXCLUDE EACH OTHER

module _ (tags : Files) (path : List ℕ) where
  passes_within : (content : Content) → PassesIn tags path content → ¬ IsTooLong content
  passes_within (Whole content) passes long = absurd (omega (arith, passes.within, long))
  passes_within TooLong passes long = passes
  passes_within Unread passes long = passes

  misfit_within : (content : Content) (fault : WantFault) → IsMisfitIn tags path content fault → ¬ IsTooLong content
  misfit_within (Whole content) fault h long = absurd (omega (arith, h.0, long))
  misfit_within TooLong fault h long = h
  misfit_within Unread fault h long = h

  passes_length : (content : List ℕ) → Passes tags path content → ¬ HasOtherLength tags path content
  passes_length content passes h = h.3.2 (passes.lengths h.0 h.1 h.2 h.3.0 h.3.1)

  no_misfit : (content : Content) (fault : WantFault) → PassesIn tags path content → ¬ IsMisfitIn tags path content fault
  no_misfit (Whole content) OtherLength passes h = passes_length content passes h.1
  no_misfit (Whole content) (OtherDigest alg) passes h = (let other = h.1.1.0 in other.2.2 (passes.digests alg other.0 other.2.0 other.1 other.2.1))
  no_misfit TooLong fault passes h = passes
  no_misfit Unread fault passes h = passes

  one_misfit : (content : Content) (a b : WantFault) → IsMisfitIn tags path content a → IsMisfitIn tags path content b → a ≡ b
  one_misfit (Whole content) OtherLength OtherLength h k = refl
  one_misfit (Whole content) OtherLength (OtherDigest b) h k = absurd (k.1.0 h.1)
  one_misfit (Whole content) (OtherDigest a) OtherLength h k = absurd (h.1.0 k.1)
  one_misfit (Whole content) (OtherDigest a) (OtherDigest b) h k = ap OtherDigest (first_alg (ListsOther tags path content) a b h.1.1 k.1.1)
  one_misfit TooLong a b h k = absurd h
  one_misfit Unread a b h k = absurd h

-- THE KINDS OF ANSWERS

misfit_answer : WantFault → Answer
misfit_answer OtherLength = Refused Length
misfit_answer (OtherDigest alg) = Refused (Digest alg)

-- why an answer is due
data Kind (transfer : Transfer) (text : List ℕ) (content : Content) : Answer → Type 0 where
  AtPath : (fault : PathFault) → path_fault text ≡ Some fault → Kind transfer text content (Refused (BadPath fault))
  AtListing : IsPath text → ¬ IsExpected transfer.tags text → Kind transfer text content (Refused NotListed)
  AtLimit : IsListedPath transfer.tags text → IsTooLong content → Kind transfer text content (Refused TooLarge)
  AtWant : IsListedPath transfer.tags text → (fault : WantFault) → IsMisfitIn transfer.tags text content fault → (answer : Answer) → misfit_answer fault ≡ answer → Kind transfer text content answer
  AtHeld : IsListedPath transfer.tags text → PassesIn transfer.tags text content → Contains (keys_of transfer.items) text → Kind transfer text content Repeated
  AtNew : IsListedPath transfer.tags text → PassesIn transfer.tags text content → ¬ Contains (keys_of transfer.items) text → Kind transfer text content Taken

module _ (transfer : Transfer) (text : List ℕ) (content : Content) where
  kind_of : (answer : Answer) → IsDueIn transfer text content answer → Kind transfer text content answer
  unfolding misfit_answer
  kind_of Taken h = AtNew h.0 h.1 h.2
  kind_of Repeated h = AtHeld h.0 h.1 h.2
  kind_of (Refused (BadPath fault)) h = AtPath fault h
  kind_of (Refused NotListed) h = AtListing h.0 h.1
  kind_of (Refused TooLarge) h = AtLimit h.0 h.1
  kind_of (Refused Length) h = AtWant h.0 OtherLength h.1 (Refused Length) refl
  kind_of (Refused (Digest alg)) h = AtWant h.0 (OtherDigest alg) h.1 (Refused (Digest alg)) refl
  kind_of (Refused NoTransfer) h = absurd h
  kind_of (Refused Reader) h = absurd h
  kind_of (Refused (Keeper fault)) h = absurd h

  no_path : (fault : PathFault) → path_fault text ≡ Some fault → ¬ IsPath text
  no_path fault e path = let none : None ≡ Some fault = sym (no_fault_if_path text path) ∙ e in cc

  same_kind : {a b : Answer} → Kind transfer text content a → Kind transfer text content b → a ≡ b
  same_kind (AtPath x e) (AtPath y f) = (let s : Some x ≡ Some y = sym e ∙ f in let same : x ≡ y = cc in ap (λ v. Refused (BadPath v)) same)
  same_kind (AtPath x e) (AtListing p n) = absurd (no_path x e p)
  same_kind (AtPath x e) (AtLimit p l) = absurd (no_path x e p.0)
  same_kind (AtPath x e) (AtWant p v m b f) = absurd (no_path x e p.0)
  same_kind (AtPath x e) (AtHeld p q h) = absurd (no_path x e p.0)
  same_kind (AtPath x e) (AtNew p q h) = absurd (no_path x e p.0)
  same_kind (AtListing p n) (AtPath x e) = absurd (no_path x e p)
  same_kind (AtListing p n) (AtListing r o) = refl
  same_kind (AtListing p n) (AtLimit r l) = absurd (n r.1)
  same_kind (AtListing p n) (AtWant r v m b f) = absurd (n r.1)
  same_kind (AtListing p n) (AtHeld r q h) = absurd (n r.1)
  same_kind (AtListing p n) (AtNew r q h) = absurd (n r.1)
  same_kind (AtLimit r l) (AtPath x e) = absurd (no_path x e r.0)
  same_kind (AtLimit r l) (AtListing p n) = absurd (n r.1)
  same_kind (AtLimit r l) (AtLimit s m) = refl
  same_kind (AtLimit r l) (AtWant s v m b f) = absurd (misfit_within transfer.tags text content v m l)
  same_kind (AtLimit r l) (AtHeld s q h) = absurd (passes_within transfer.tags text content q l)
  same_kind (AtLimit r l) (AtNew s q h) = absurd (passes_within transfer.tags text content q l)
  same_kind (AtWant r v m a f) (AtPath x e) = absurd (no_path x e r.0)
  same_kind (AtWant r v m a f) (AtListing p n) = absurd (n r.1)
  same_kind (AtWant r v m a f) (AtLimit s l) = absurd (misfit_within transfer.tags text content v m l)
  same_kind (AtWant r v m a f) (AtWant s w n b g) = sym f ∙ ap misfit_answer (one_misfit transfer.tags text content v w m n) ∙ g
  same_kind (AtWant r v m a f) (AtHeld s q h) = absurd (no_misfit transfer.tags text content v q m)
  same_kind (AtWant r v m a f) (AtNew s q h) = absurd (no_misfit transfer.tags text content v q m)
  same_kind (AtHeld r q h) (AtPath x e) = absurd (no_path x e r.0)
  same_kind (AtHeld r q h) (AtListing p n) = absurd (n r.1)
  same_kind (AtHeld r q h) (AtLimit s l) = absurd (passes_within transfer.tags text content q l)
  same_kind (AtHeld r q h) (AtWant s v m b f) = absurd (no_misfit transfer.tags text content v q m)
  same_kind (AtHeld r q h) (AtHeld s p k) = refl
  same_kind (AtHeld r q h) (AtNew s p k) = absurd (k h)
  same_kind (AtNew r q h) (AtPath x e) = absurd (no_path x e r.0)
  same_kind (AtNew r q h) (AtListing p n) = absurd (n r.1)
  same_kind (AtNew r q h) (AtLimit s l) = absurd (passes_within transfer.tags text content q l)
  same_kind (AtNew r q h) (AtWant s v m b f) = absurd (no_misfit transfer.tags text content v q m)
  same_kind (AtNew r q h) (AtHeld s p k) = absurd (h k)
  same_kind (AtNew r q h) (AtNew s p k) = refl

pub one_due : (transfer : Option Transfer) (text : List ℕ) (content : Content) (a b : Answer) → IsDue transfer text content a → IsDue transfer text content b → a ≡ b
one_due None text content a b h k = h ∙ sym k
one_due (Some transfer) text content a b h k = same_kind transfer text content (kind_of transfer text content a h) (kind_of transfer text content b k)

pub due_passes : (transfer : Transfer) (text : List ℕ) (content : Content) (answer : Answer) → IsDue (Some transfer) text content answer → IsAcceptance answer → PassesIn transfer.tags text content
due_passes transfer text content Taken h taken = h.1
due_passes transfer text content Repeated h taken = h.1
due_passes transfer text content (Refused fault) h taken = absurd taken

-- WHAT IS DUE, AS A STEP

pub taken_step : (transfer : Transfer) (text octets : List ℕ) (doubtful : Files) → IsDue (Some transfer) text (Whole octets) Taken
    → AnswerStep transfer.tags text (Whole octets) Taken (record { held = transfer.items; doubtful = doubtful }) (record { held = (holding transfer text octets).items; doubtful = [] })
taken_step transfer text octets doubtful h = (octets, refl, record { passes = h.1; not_held = h.2; becomes = refl }, refl)

pub other_step : (transfer : Transfer) (text : List ℕ) (content : Content) (answer : Answer) (doubtful : Files) → IsDue (Some transfer) text content answer → answer ≢ Taken
    → AnswerStep transfer.tags text content answer (record { held = transfer.items; doubtful = doubtful }) (record { held = transfer.items; doubtful = doubtful })
other_step transfer text content Taken doubtful h other = absurd (other refl)
other_step transfer text content Repeated doubtful h other = (h.1, h.2, refl)
other_step transfer text content (Refused (BadPath fault)) doubtful h other = refl
other_step transfer text content (Refused NotListed) doubtful h other = refl
other_step transfer text content (Refused TooLarge) doubtful h other = refl
other_step transfer text content (Refused Length) doubtful h other = refl
other_step transfer text content (Refused (Digest alg)) doubtful h other = refl
other_step transfer text content (Refused NoTransfer) doubtful h other = refl
other_step transfer text content (Refused Reader) doubtful h other = refl
other_step transfer text content (Refused (Keeper fault)) doubtful h other = absurd h
