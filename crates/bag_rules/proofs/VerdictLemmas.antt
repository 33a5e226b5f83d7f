-- From what a check found to the verdict.
use Rattle.std.proofs.Common.{◌≡◌, ◌↔◌, ◌<◌, ◌≤◌, ◌==◌, ◌∙◌, ℕ, true, false, List, [], ◌∷◌, ◌++◌, length, refl, sym, ap, subst, inl, inr, arith}
use Rattle.bag_rules.proofs.Words.{Adds, AreInOrder, AreRising, BadDeclaration, Bag, cases_order, Declaration, declaration_file, Declares, eqb-true, excludes, Fault, Has, HasFault, HasFaultOf, IsDeclarationFault, IsInScope, IsJudged, kind_of_lines, kinds_beside_lines, kinds_of_files, kinds_of_form, list_any, NoDeclaration, NoneBelow, number_of, tier_of}
use Rattle.bag_rules.specs.Bags.{paths_of}
use Rattle.bag_rules.proofs.AddsLemmas.{adds_kinds, adds_of}
use Rattle.bag_rules.proofs.TreeLemmas.{one_octets}

-- the kinds as a check finds them
pub found_form : (fault : Fault) → list_any (λ kind. kind == number_of fault) (kind_of_lines ++ kinds_beside_lines) ≡ list_any (λ kind. kind == number_of fault) kinds_of_form
found_form NoDeclaration = refl
found_form _ = refl

pub found_files : (fault : Fault) → list_any (λ kind. kind == number_of fault) (9 ∷ 11 ∷ 10 ∷ 12 ∷ 14 ∷ 13 ∷ []) ≡ list_any (λ kind. kind == number_of fault) kinds_of_files
found_files NoDeclaration = refl
found_files _ = refl

-- the tier of a kind
tiers : (fault : Fault) → (list_any (λ kind. kind == number_of fault) kinds_of_form ≡ (tier_of fault == 2)) × (list_any (λ kind. kind == number_of fault) kinds_of_files ≡ (tier_of fault == 3))
tiers NoDeclaration = (refl, refl)
tiers _ = (refl, refl)

form_tier : (fault : Fault) → (list_any (λ kind. kind == number_of fault) kinds_of_form ≡ true) ↔ (tier_of fault ≡ 2)
form_tier fault = (λ h. eqb-true (tier_of fault) 2 (sym (tiers fault).0 ∙ h), λ h. (tiers fault).0 ∙ ap (λ n. n == 2) h)

file_tier : (fault : Fault) → (list_any (λ kind. kind == number_of fault) kinds_of_files ≡ true) ↔ (tier_of fault ≡ 3)
file_tier fault = (λ h. eqb-true (tier_of fault) 3 (sym (tiers fault).1 ∙ h), λ h. (tiers fault).1 ∙ ap (λ n. n == 3) h)

-- the tiers, by the numbers of their kinds
pub number_by_tier : (fault : Fault) → (tier_of fault < 3 → number_of fault ≤ 8) × (1 ≤ tier_of fault) × (tier_of fault ≤ 3)
number_by_tier NoDeclaration = (λ h. omega arith, omega arith, omega arith)
number_by_tier fault = (λ h. omega (arith, h), omega arith, omega arith)

-- a bag that declares something has no fault of the declaration
pub declared_none : (bag : Bag) (declaration : Declaration) → AreRising (paths_of bag) → Declares bag declaration → NoneBelow 2 bag
declared_none bag declaration rising declares NoDeclaration below broken = broken (declares.0, declares.1)
declared_none bag declaration rising declares (BadDeclaration cause) below broken =
    excludes declares.0 declaration cause declares.2 (subst (λ o. IsDeclarationFault o cause) (one_octets bag declaration_file broken.0 declares.0 rising broken.1 declares.1) broken.2)
declared_none bag declaration rising declares _ below broken = absurd (omega (arith, below))

pub some_first : (faults : List Fault) → (length faults == 0) ≡ false → (fault : Fault) × Has faults fault
some_first [] h = cc
some_first (fault ∷ faults) h = (fault, inl refl)

pub none_first : (faults : List Fault) → (length faults == 0) ≡ true → faults ≡ []
none_first [] h = refl
none_first (fault ∷ faults) h = absurd (let k : length (fault ∷ faults) ≡ 0 = eqb-true (length (fault ∷ faults)) 0 h in omega (arith, k))

-- the faulty lines, and then the other faults of the form
pub form_found : (bag : Bag) (start lines faults : List Fault) → start ≡ [] → Adds start lines (HasFaultOf bag kind_of_lines) → Adds lines faults (HasFaultOf bag kinds_beside_lines) → Adds [] faults (HasFaultOf bag kinds_of_form)
form_found bag start lines faults e a b = subst (λ (fs : List Fault). Adds fs faults (HasFaultOf bag kinds_of_form)) e
    (adds_of bag (kind_of_lines ++ kinds_beside_lines) kinds_of_form start faults found_form (adds_kinds bag kind_of_lines kinds_beside_lines start lines faults a b))

-- some fault of the form was found
pub form_some : (bag : Bag) (faults : List Fault) → Adds [] faults (HasFaultOf bag kinds_of_form) → (length faults == 0) ≡ false → NoneBelow 3 bag → ⊥
form_some bag faults adds some none = let first = some_first faults some in elim ((adds first.0).0 first.1) [
  | inl old ↦ old
  | inr new ↦ none first.0 (omega (arith, (form_tier first.0).0 new.1)) new.0
]

-- no fault of the form was found
pub form_none : (bag : Bag) (faults : List Fault) → NoneBelow 2 bag → Adds [] faults (HasFaultOf bag kinds_of_form) → faults ≡ [] → NoneBelow 3 bag
form_none bag faults none adds empty fault below broken = elim (cases_order (tier_of fault) 2) [
  | inl here ↦ subst (λ fs. Has fs fault) empty ((adds fault).1 (inr (broken, (form_tier fault).1 here)))
  | inr other ↦ elim other [ inl lower ↦ none fault lower broken | inr above ↦ absurd (omega (arith, below, above)) ]
]

-- what was found of the kinds of one tier
tier_found : (bag : Bag) (kinds : List ℕ) (tier : ℕ) (faults : List Fault) → ((fault : Fault) → (list_any (λ kind. kind == number_of fault) kinds ≡ true) ↔ (tier_of fault ≡ tier))
    → Adds [] faults (HasFaultOf bag kinds) → (fault : Fault) → Has faults fault ↔ (HasFault bag fault × (tier_of fault ≡ tier))
tier_found bag kinds tier faults tells adds fault = (
  λ h. elim ((adds fault).0 h) [ inl old ↦ absurd old | inr new ↦ (new.0, (tells fault).0 new.1) ],
  λ h. (adds fault).1 (inr (h.0, (tells fault).1 h.1)),
)

-- the faults of one tier, if there is no fault of a lower one
tier_judged : (tier : ℕ) (bag : Bag) (faults report : List Fault) → (NoneBelow 2 bag → IsInScope bag) → NoneBelow tier bag
    → ((fault : Fault) → Has faults fault ↔ (HasFault bag fault × (tier_of fault ≡ tier))) → ((fault : Fault) → tier < tier_of fault → ¬ NoneBelow (tier_of fault) bag)
    → AreInOrder report → ((fault : Fault) → Has report fault ↔ Has faults fault) → IsJudged bag report
tier_judged tier bag faults report scope none are above in_order same = record {
  in_order = in_order;
  exact = λ fault. (
    λ h. (let found = (are fault).0 ((same fault).0 h) in (found.0, subst (λ t. NoneBelow t bag) (sym found.1) none)),
    λ h. (same fault).1 ((are fault).1 (
      h.0,
      elim (cases_order (tier_of fault) tier) [
        | inl here ↦ here
        | inr other ↦ elim other [ inl lower ↦ absurd (none fault lower h.0) | inr later ↦ absurd (above fault later h.1) ]
      ],
    )),
  );
  in_scope = scope;
}

-- the verdict on a bag with faults of the form
pub judged_by_form : (bag : Bag) (faults report : List Fault) → IsInScope bag → NoneBelow 2 bag → Adds [] faults (HasFaultOf bag kinds_of_form) → (length faults == 0) ≡ false
    → AreInOrder report → ((fault : Fault) → Has report fault ↔ Has faults fault) → IsJudged bag report
judged_by_form bag faults report scope none adds some in_order same =
    let are = tier_found bag kinds_of_form 2 faults form_tier adds in
    let first = some_first faults some in
    let found = (are first.0).0 first.1 in
    tier_judged 2 bag faults report (λ none. scope) none are (λ fault above below. below first.0 (omega (arith, above, found.1)) found.0) in_order same

-- the verdict on a bag of the right form
pub judged_by_files : (bag : Bag) (faults report : List Fault) → IsInScope bag → NoneBelow 3 bag → Adds [] faults (HasFaultOf bag kinds_of_files)
    → AreInOrder report → ((fault : Fault) → Has report fault ↔ Has faults fault) → IsJudged bag report
judged_by_files bag faults report scope none adds in_order same =
    tier_judged 3 bag faults report (λ none. scope) none (tier_found bag kinds_of_files 3 faults file_tier adds) (λ fault above below. absurd (omega (arith, above, (number_by_tier fault).2))) in_order same

-- the verdict on a bag with one fault of a tier
pub judged_by_one : (bag : Bag) (own : Fault) (report : List Fault) → HasFault bag own → NoneBelow (tier_of own) bag → ((fault : Fault) → tier_of fault ≡ tier_of own → HasFault bag fault → own ≡ fault)
    → (NoneBelow 2 bag → IsInScope bag) → AreInOrder report → ((fault : Fault) → Has report fault ↔ Has (own ∷ []) fault) → IsJudged bag report
judged_by_one bag own report broken none only scope in_order same =
    tier_judged (tier_of own) bag (own ∷ []) report scope none
    (λ fault. (
      λ h. elim h [ inl is ↦ subst (λ f. HasFault bag f × (tier_of f ≡ tier_of own)) is (broken, refl) | inr none ↦ absurd none ],
      λ h. inl (only fault h.1 h.0),
    ))
    (λ fault above below. below own above broken)
    in_order same

-- and on one with a fault of the declaration
pub judged_by_declaration : (bag : Bag) (own : Fault) (report : List Fault) → HasFault bag own → tier_of own ≡ 1 → ((fault : Fault) → tier_of fault < 2 → HasFault bag fault → own ≡ fault)
    → AreInOrder report → ((fault : Fault) → Has report fault ↔ Has (own ∷ []) fault) → IsJudged bag report
judged_by_declaration bag own report broken first only = judged_by_one bag own report broken (λ fault below b. omega (arith, below, first, (number_by_tier fault).1))
    (λ fault tier. only fault (omega (arith, tier, first))) (λ none. absurd (none own (omega (arith, first)) broken))
