use Rattle.std.proofs.Common.{◌≡◌, ◌≤◌, ◌++◌, ◌∷◌, [], ◌↔◌, IsTrue, length, true, false, refl, sym, arith, rules, tests}
use Rattle.bag_rules.proofs.Words.{Adds, cases_from_any, count_from_yields_List, filter, is_oxum, IsBadOxum, MetadataElement, OxumForm, OxumTwice, YieldsList-from_filter, YieldsList-from_slice}
use Rattle.bag_rules.proofs.AddsLemmas.{adds_one, adds_same}
use Rattle.bag_rules.proofs.AnyLemmas.{some_or_none, some_if, none_if}
use Rattle.bag_rules.proofs.FormLemmas.{IsFormFault, IsTwiceFault, form_then_twice}
use Rattle.bag_rules.proofs.form_faults.add_element_faults.Goals as goal
use Rattle.bag_rules.proofs.form_faults.add_element_faults.Goals.{After-count, then-any+in_ok-push, else-any}

-- what the first test adds
first : (c : After-count) → Adds c.args.faults.now.items c.if-any.faults.items (IsFormFault c.args.elements.now)
first c =
    let elements = c.args.elements.now in
    let old = c.args.faults.now.items in
    let mid = c.if-any.faults.items in
    let found = some_or_none IsBadOxum c.any.result elements
    (cases_from_any _ _ c.any.result IsBadOxum (λ (e : MetadataElement). ¬ IsBadOxum e) c.any.ensures.ran (YieldsList-from_slice elements cc) (λ x q k. (let says : IsTrue true ↔ IsBadOxum x.now = search (rules, tests) in says.0 refl)) (λ x q k. (search (rules, tests), λ bad. (let says : IsTrue false ↔ IsBadOxum x.now = search (rules, tests) in let no : false ≡ true = says.1 bad in cc)))) in
    elim c.if-any.branch [
      | then-any+in_ok-push w ↦
          let bad = some_if IsBadOxum c.any.result elements found w.if-any.true in
          let added : w.push.new.self.items ≡ old ++ OxumForm ∷ [] = w.in_ok-push.ensures.items in
          let more : mid ≡ old ++ OxumForm ∷ [] = cc in
          adds_one old mid OxumForm (IsFormFault elements) more (bad.0, bad.1, bad.2, refl) (λ f h. sym h.3)
      | else-any w ↦ adds_same old mid (IsFormFault elements) (cc) (λ f h. none_if IsBadOxum c.any.result elements found w.if-any.false h.0 h.1 h.2)
    ]

-- how many there are
number : (c : After-count) → c.count.result ≡ length (filter is_oxum c.args.elements.now)
number c = count_from_yields_List _ _ c.count.ensures.ran (YieldsList-from_filter _ is_oxum (YieldsList-from_slice c.args.elements.now cc) c.filter.ensures.closure (λ x r q k. search (rules, tests)))

pub returns-in_ok-push-2 : goal.returns-in_ok-push-2
returns-in_ok-push-2 c =
    let elements = c.args.elements.now in
    let mid = c.if-any.faults.items in
    let at = (goal.at.returns-in_ok-push-2 c).After-count in
    let two : 2 ≤ length (filter is_oxum elements) = rw (← number at) (omega arith) in
    form_then_twice elements c.args.faults.now.items mid _ (first at) (adds_one mid _ OxumTwice (IsTwiceFault elements) c.in_ok-push-2.ensures.items (two, refl) (λ f h. sym h.1))

pub returns-else-count-gt1 : goal.returns-else-count-gt1
returns-else-count-gt1 c =
    let elements = c.args.elements.now in
    let mid = c.if-any.faults.items in
    let at = (goal.at.returns-else-count-gt1 c).After-count in
    let few : length (filter is_oxum elements) ≤ 1 = rw (← number at) (omega arith) in
    form_then_twice elements c.args.faults.now.items mid mid (first at) (adds_same mid mid (IsTwiceFault elements) refl (λ f h. omega (arith, few, h.0)))
