-- Why tag files are refused.
use Rattle.std.proofs.Common.{◌≡◌, ◌≢◌, ◌↔◌, ◌<◌, ◌≤◌, ◌∷◌, ◌∙◌, [], ap, refl, subst, sym, inl, inr, arith, string_bytes}
use Rattle.std.specs.declared.cmp.Ordering.{Ordering}
use Rattle.bag_rules.specs.contracts.fault.FaultOrd.TheImpl as order
use Rattle.bag_rules.specs.contracts.fault.FaultOrd.TheImpl.Laws as laws
use Rattle.bag_rules.specs.declared.scope.OutsideCause.TheVariants.{Version}
use Rattle.bag_rules.specs.Bags.{paths_of}
use Rattle.bag_rules.specs.Opening.{FewLines, HasOpeningFault, IsFirst, IsFirstOpeningFault, NotOutside, RefusesTags}
use Rattle.bag_rules.specs.declared.plan_fault.PlanFault.TheVariants.{Rules}
use Rattle.bag_rules.specs.Transfers.{tag_bag}
use Rattle.bag_rules.proofs.Words.{Algorithm, AreRising, AreTagFiles, BadDeclaration, Bag, Broken, cases_lt, Encoding, Equal, Fault, Files, Greater, HasFault, IsInScope, IsJudged, IsOutside, HasScope, Judged, Less, NoDeclaration, number_of, ordering_reverse, Outside, OutsideCause, tied_itself, tier_of}
use Rattle.bag_rules.proofs.OneVerdictLemmas.{not_encoding, not_version, one_verdict}
use Rattle.bag_rules.proofs.OrderLemmas.{by_number}
use Rattle.bag_rules.proofs.VerdictLemmas.{number_by_tier}

-- THE ORDER

-- a fault of a lower number comes first, and none comes after itself
not_after : (x y : Fault) → number_of x < number_of y → order.ghosts.cmp x y ≢ Greater
not_after x y below e =
    let less : order.ghosts.cmp y x ≡ Less = laws.lawful.total.antisymm y x ∙ ap ordering_reverse e in
    omega (arith, below, by_number y x less)

itself : (x y : Fault) → x ≡ y → order.ghosts.cmp x y ≢ Greater
itself x y same e =
    let tied : order.ghosts.cmp x x ≡ Equal = tied_itself laws.lawful.total x in
    let k : Equal ≡ Greater = sym tied ∙ ap (order.ghosts.cmp x) same ∙ e in
    cc

-- the first of these is the first of those if they are the same
pub first_as : {X : Type 0} (compare : X → X → Ordering) (P Q : X → Type 0) (x : X) → ((y : X) → P y ↔ Q y) → IsFirst compare P x → IsFirst compare Q x
first_as compare P Q x same is = record { has = (same x).0 is.has; first = λ other has. is.first other ((same other).1 has) }

-- FAULTS OF THE DECLARATION

low_number : (f : Fault) → tier_of f < 2 → number_of f ≤ 2
low_number NoDeclaration below = omega arith
low_number f below = omega (arith, below)

low_tier : (f : Fault) → number_of f ≤ 2 → tier_of f ≡ 1
low_tier NoDeclaration low = refl
low_tier (BadDeclaration cause) low = refl
low_tier _ low = absurd (omega (arith, low))

module _ (tags : Files) where
  opening : (f : Fault) → number_of f ≤ 2 → HasFault (tag_bag tags) f → HasOpeningFault tags f
  opening NoDeclaration low broken = (broken, λ mended. mended)
  opening (BadDeclaration cause) low broken = (broken, λ mended. mended)
  opening _ low broken = absurd (omega (arith, low))

  of_bag : (f : Fault) → number_of f ≤ 2 → HasOpeningFault tags f → HasFault (tag_bag tags) f
  of_bag NoDeclaration low has = has.0
  of_bag (BadDeclaration cause) low has = has.0
  of_bag _ low has = absurd (omega (arith, low))

  module _ (fault : Fault) (judged : IsJudged (tag_bag tags) (fault ∷ [])) (out : ¬ IsInScope (tag_bag tags)) where
    own : HasFault (tag_bag tags) fault
    own = ((judged.exact fault).0 (inl refl)).0

    -- the one fault of a bag out of scope is its declaration's
    own_low : number_of fault ≤ 2
    own_low = elim (cases_lt (tier_of fault) 2) [
      | inl below ↦ low_number fault below
      | inr above ↦ absurd (out (judged.in_scope (λ other below broken. ((judged.exact fault).0 (inl refl)).1 other (omega (arith, above, below)) broken)))
    ]

    first_low : IsFirstOpeningFault tags fault
    first_low = record {
      has = opening fault own_low own;
      first = λ other has. elim (cases_lt 2 (number_of other)) [
        | inl later ↦ not_after fault other (let low = own_low in omega (arith, low, later))
        | inr early ↦ (
            let low : number_of other ≤ 2 = omega (arith, early) in
            let here = (judged.exact other).1 (of_bag other low has, λ lower below broken. omega (arith, subst (λ t. tier_of lower < t) (low_tier other low) below, (number_by_tier lower).1)) in
            elim here [ inl same ↦ itself fault other same | inr none ↦ absurd none ]
            )
      ];
    }

  pub broken_refused : (fault : Fault) → AreTagFiles tags → HasScope (tag_bag tags) (Broken fault) → FewLines tags → RefusesTags tags (Rules fault)
  broken_refused fault are (judged, out) few = (
    few,
    λ cause outside. absurd (one_verdict (tag_bag tags) (Judged (fault ∷ [])) (Outside cause) are.rising judged outside),
    first_low fault judged out,
  )

-- IN THE SCOPE

scope_known : (bag : Bag) (cause : OutsideCause) → AreRising (paths_of bag) → IsInScope bag → ¬ IsOutside bag cause
scope_known bag Version rising scope out = not_version bag rising scope.declared out
scope_known bag Encoding rising scope out = not_encoding bag rising scope.declared out
scope_known bag (Algorithm name) rising scope out = scope.known out.1.path (string_bytes name) out.1.there out.1.unknown

pub not_outside : (tags : Files) → AreTagFiles tags → IsInScope (tag_bag tags) → NotOutside tags
not_outside tags are scope cause out = scope_known (tag_bag tags) cause are.rising scope out
