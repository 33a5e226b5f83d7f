-- The first delivery accepted for a path.
use Rattle.std.proofs.Common.{◌∙◌, ◌≡◌, ◌⊎◌, ℕ, List, [], ◌∷◌, ◌++◌, refl, sym, ap, subst, inl, inr}
use Rattle.bag_receiver.proofs.Words.{Accepts, Answer, Content, Decided, Delivery, IsAcceptance, IsAccepted, IsFirstAccepted, Refused, Repeated, Taken, TooLong, Unread, Whole}
use Rattle.bag_rules.proofs.ValidityLemmas.{decided_octets}

-- WHETHER A DELIVERY WAS ACCEPTED FOR THE PATH

abbrev pub IsAcceptedFor : Delivery → List ℕ → Type 0
IsAcceptedFor delivery path = (content : List ℕ) × IsAccepted delivery path content

acceptance : (answer : Answer) → Decided (IsAcceptance answer)
acceptance Taken = inl tt
acceptance Repeated = inl tt
acceptance (Refused fault) = inr (λ h. h)

brought : (content : Content) → Decided ((octets : List ℕ) × (content ≡ Whole octets))
brought (Whole octets) = inl (octets, refl)
brought TooLong = inr (λ h. let e : TooLong ≡ Whole h.0 = h.1 in cc)
brought Unread = inr (λ h. let e : Unread ≡ Whole h.0 = h.1 in cc)

accepted_or_not : (delivery : Delivery) (path : List ℕ) → Decided (IsAcceptedFor delivery path)
accepted_or_not delivery path = elim (decided_octets delivery.text path) [
  | inr other ↦ inr (λ h. other h.1.brings.0)
  | inl same ↦ elim (brought delivery.content) [
    | inr none ↦ inr (λ h. none (h.0, h.1.brings.1))
    | inl whole ↦ elim (acceptance delivery.answer) [ inr refused ↦ inr (λ h. refused h.1.acceptance) | inl taken ↦ inl (whole.0, record { brings = (same, whole.1); acceptance = taken }) ]
  ]
]

-- at most one content
accepted_one : (delivery : Delivery) (path content other : List ℕ) → IsAccepted delivery path content → IsAccepted delivery path other → content ≡ other
accepted_one delivery path content other a b = let e : Whole content ≡ Whole other = sym a.brings.1 ∙ b.brings.1 in cc

-- THE FIRST ONE, BY RECURSION

abbrev pub FirstIn : List Delivery → List ℕ → List ℕ → Type 0
FirstIn [] path content = ⊥
FirstIn (delivery ∷ deliveries) path content = IsAccepted delivery path content
    ⊎ ((¬ IsAcceptedFor delivery path) × FirstIn deliveries path content)

from_split : (before : List Delivery) (delivery : Delivery) (rest : List Delivery) (path content : List ℕ) → IsAccepted delivery path content → ((other : List ℕ) → ¬ Accepts before path other) → FirstIn (before ++ delivery ∷ rest) path content
from_split [] delivery rest path content here none = inl here
from_split (one ∷ before) delivery rest path content here none =
    inr (λ h. none h.0 (one, inl refl, h.1), from_split before delivery rest path content here (λ other h. none other (h.0, inr h.1, h.2)))

pub first_in : (deliveries : List Delivery) (path content : List ℕ) → IsFirstAccepted deliveries path content → FirstIn deliveries path content
first_in deliveries path content h = subst (λ ds. FirstIn ds path content) (sym h.split) (from_split h.before h.delivery h.after path content h.accepted h.first)

pub in_first : (deliveries : List Delivery) (path content : List ℕ) → FirstIn deliveries path content → IsFirstAccepted deliveries path content
in_first [] path content h = absurd h
in_first (delivery ∷ deliveries) path content (inl here) = record { before = []; delivery = delivery; after = deliveries; split = refl; accepted = here; first = λ other h. h.1 }
in_first (delivery ∷ deliveries) path content (inr later) =
    let h = in_first deliveries path content later.1 in
    record {
      before = delivery ∷ h.before;
      delivery = h.delivery;
      after = h.after;
      split = ap (λ ds. delivery ∷ ds) h.split;
      accepted = h.accepted;
      first = λ other k. elim k.1 [ inl e ↦ later.0 (other, subst (λ d. IsAccepted d path other) (sym e) k.2) | inr there ↦ h.first other (k.0, there, k.2) ];
    }

pub first_one : (deliveries : List Delivery) (path content other : List ℕ) → FirstIn deliveries path content → FirstIn deliveries path other → content ≡ other
first_one [] path content other a b = absurd a
first_one (delivery ∷ deliveries) path content other (inl a) (inl b) = accepted_one delivery path content other a b
first_one (delivery ∷ deliveries) path content other (inl a) (inr b) = absurd (b.0 (content, a))
first_one (delivery ∷ deliveries) path content other (inr a) (inl b) = absurd (a.0 (other, b))
first_one (delivery ∷ deliveries) path content other (inr a) (inr b) = first_one deliveries path content other a.1 b.1

pub first_accepts : (deliveries : List Delivery) (path content : List ℕ) → FirstIn deliveries path content → Accepts deliveries path content
first_accepts [] path content h = absurd h
first_accepts (delivery ∷ deliveries) path content (inl here) = (delivery, inl refl, here)
first_accepts (delivery ∷ deliveries) path content (inr later) = let k = first_accepts deliveries path content later.1 in (k.0, inr k.1, k.2)

-- if some delivery was accepted for the path, there is a first one
pub accepts_first : (deliveries : List Delivery) (path content : List ℕ) → Accepts deliveries path content → (first : List ℕ) × FirstIn deliveries path first
accepts_first [] path content h = absurd h.1
accepts_first (delivery ∷ deliveries) path content h = elim (accepted_or_not delivery path) [
  | inl here ↦ (here.0, inl here.1)
  | inr not_here ↦ elim h.1 [
    | inl e ↦ absurd (not_here (content, subst (λ d. IsAccepted d path content) (sym e) h.2))
    | inr there ↦ (let k = accepts_first deliveries path content (h.0, there, h.2) in (k.0, inr (not_here, k.1)))
  ]
]

-- THE FIRST ONE OF LISTS JOINED

pub first_left : (deliveries others : List Delivery) (path content : List ℕ) → FirstIn deliveries path content → FirstIn (deliveries ++ others) path content
first_left [] others path content h = absurd h
first_left (delivery ∷ deliveries) others path content (inl here) = inl here
first_left (delivery ∷ deliveries) others path content (inr later) = inr (later.0, first_left deliveries others path content later.1)

pub first_right : (deliveries others : List Delivery) (path content : List ℕ) → ((other : List ℕ) → ¬ FirstIn deliveries path other) → FirstIn others path content → FirstIn (deliveries ++ others) path content
first_right [] others path content none h = h
first_right (delivery ∷ deliveries) others path content none h = elim (accepted_or_not delivery path) [
  | inl here ↦ absurd (none here.0 (inl here.1))
  | inr not_here ↦ inr (not_here, first_right deliveries others path content (λ other k. none other (inr (not_here, k))) h)
]

pub first_cases : (deliveries others : List Delivery) (path content : List ℕ) → FirstIn (deliveries ++ others) path content → FirstIn deliveries path content ⊎ (((other : List ℕ) → ¬ FirstIn deliveries path other) × FirstIn others path content)
first_cases [] others path content h = inr (λ other k. k, h)
first_cases (delivery ∷ deliveries) others path content (inl here) = inl (inl here)
first_cases (delivery ∷ deliveries) others path content (inr later) = elim (first_cases deliveries others path content later.1) [
  | inl k ↦ inl (inr (later.0, k))
  | inr k ↦ inr (λ other first. elim first [ inl here ↦ later.0 (other, here) | inr rest ↦ k.0 other rest.1 ], k.1)
]
