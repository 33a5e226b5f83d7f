use Rattle.std.proofs.Common.{◌≡◌, List, Some, None, subst, rules}
use Rattle.bag_rules.proofs.Words.{Adds, IsOxumFault, MetadataElement, on_ok_weaker}
use Rattle.bag_rules.proofs.FormLemmas.{no_oxum_fault, all_oxum}
use Rattle.bag_rules.proofs.form_faults.add_oxum_faults.Goals as goal

pub returns-in-None : goal.returns-in-None
returns-in-None c = λ bag are.
    let none : c.args.texts.now.info ≡ None = search rules in
    no_oxum_fault bag c.args.texts.now are c.args.faults.now.items none

pub returns-in-Some : goal.returns-in-Some
returns-in-Some c = λ bag are. on_ok_weaker c.add_element_faults.result (λ added.
    let some : c.args.texts.now.info ≡ Some c.in-Some.info = search rules in
    let same : c.elements.result.now ≡ c.in-Some.info = c.elements.ensures in
    all_oxum bag c.args.texts.now are c.in-Some.info _ _ some
    (subst (λ (es : List MetadataElement). Adds c.args.faults.now.items c.add_element_faults.new.faults.items (IsOxumFault es)) same added))
    c.add_element_faults.ensures
