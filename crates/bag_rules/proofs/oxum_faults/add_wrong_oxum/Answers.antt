use Rattle.std.proofs.Common.{◌≡◌, ◌↔◌, IsTrue, rules, tests, true, false, refl, None, Some}
use Rattle.bag_rules.proofs.Words.{cases_from_any, Has, IsOtherOxum, MatchBool, MetadataElement, YieldsList-from_slice}
use Rattle.bag_rules.proofs.AnyLemmas.{some_or_none, some_if, none_if}
use Rattle.bag_rules.proofs.PayloadLemmas.{no_wrong, wrong_there, wrong_away}
use Rattle.bag_rules.proofs.oxum_faults.add_wrong_oxum.Goals as goal
use Rattle.bag_rules.proofs.oxum_faults.add_wrong_oxum.Goals.{After-any}

pub returns-in_default : goal.returns-in_default
returns-in_default c = λ bag are size_is.
    let none : c.args.texts.now.info ≡ None = search rules in
    no_wrong bag c.args.texts.now are c.args.faults.now.items none

-- what the search found
found : (c : After-any) → MatchBool c.any.result ((e : MetadataElement) × Has c.elements-elements.result.now e × IsOtherOxum c.args.size e) ((e : MetadataElement) → Has c.elements-elements.result.now e → ¬ IsOtherOxum c.args.size e)
found c =
    let elements = c.elements-elements.result.now in
    some_or_none (IsOtherOxum c.args.size) c.any.result elements
    (cases_from_any _ _ c.any.result (IsOtherOxum c.args.size) (λ (e : MetadataElement). ¬ IsOtherOxum c.args.size e) c.any.ensures.ran (YieldsList-from_slice elements cc)
    (λ x q k. (let says : IsTrue true ↔ IsOtherOxum c.args.size x.now = search (rules, tests) in says.0 refl))
    (λ x q k. (search (rules, tests), λ other. (let says : IsTrue false ↔ IsOtherOxum c.args.size x.now = search (rules, tests) in let no : false ≡ true = says.1 other in cc))))

pub returns-in_ok-push : goal.returns-in_ok-push
returns-in_ok-push c = λ bag are size_is.
    let elements = c.elements-elements.result.now in
    let some : c.args.texts.now.info ≡ Some elements = search rules in
    let other = some_if (IsOtherOxum c.args.size) c.any.result elements (found (goal.at.returns-in_ok-push c).After-any) c.if-any.true in
    wrong_there bag c.args.texts.now are elements some c.args.size size_is c.args.faults.now.items _ other c.in_ok-push.ensures.items

pub returns-else-any : goal.returns-else-any
returns-else-any c = λ bag are size_is.
    let elements = c.elements-elements.result.now in
    let some : c.args.texts.now.info ≡ Some elements = search rules in
    wrong_away bag c.args.texts.now are elements some c.args.size size_is c.args.faults.now.items
    (none_if (IsOtherOxum c.args.size) c.any.result elements (found (goal.at.returns-else-any c).After-any) c.if-any.false)
