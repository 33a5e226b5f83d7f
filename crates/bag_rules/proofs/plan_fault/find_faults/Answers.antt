use Rattle.std.proofs.Common.{[], List, refl, subst, sym}
use Rattle.bag_rules.specs.Opening.{HasOpeningFault}
use Rattle.bag_rules.specs.OpeningInside.{HasOpeningFaultOf, IsListedIn}
use Rattle.bag_rules.specs.Transfers.{AreExpected, tag_bag}
use Rattle.bag_rules.proofs.Words.{HasFaultOf, kinds_of_files, kinds_of_form, Listing}
use Rattle.bag_rules.proofs.AddsLemmas.{adds_kinds_by, adds_so}
use Rattle.bag_rules.proofs.ListedPaths.{expected_as}
use Rattle.bag_rules.proofs.OpeningFaults.{all_found, form_back, form_there}
use Rattle.bag_rules.proofs.VerdictLemmas.{form_found}
use Rattle.bag_rules.proofs.OctetsLemmas.{files_of_bag}
use Rattle.bag_rules.proofs.plan_fault.find_faults.Goals as goal
use Rattle.bag_rules.proofs.plan_fault.find_faults.Goals.{In_ok-expected}

-- the paths that were found are those that are expected
expects : (c : In_ok-expected) → AreExpected c.args.tags.now c.in_ok-expected.expected.items
expects c =
    let texts = c.in_ok-texts.texts in
    let are = c.in_ok-texts.ensures.read c.requires.known.version_is in
    record {
      rising = c.in_ok-expected.ensures.rising;
      exact = λ path.
          let same = expected_as c.args.tags.now texts are path in
          let found = c.in_ok-expected.ensures.exact path in (
            λ has. same.0 (subst (λ (ls : List Listing). IsListedIn ls path) c.deref.ensures.value (found.0 has)),
            λ listed. found.1 (subst (λ (ls : List Listing). IsListedIn ls path) (sym c.deref.ensures.value) (same.1 listed)),
          );
    }

pub add_opening_faults-requires-clause-texts : goal.add_opening_faults-requires-clause-texts
add_opening_faults-requires-clause-texts c = c.in_ok-texts.ensures.read c.requires.known.version_is

pub add_opening_faults-requires-clause-expected : goal.add_opening_faults-requires-clause-expected
add_opening_faults-requires-clause-expected c = subst (AreExpected c.args.tags.now) (sym c.deref-2.ensures.value) (expects (goal.at.add_opening_faults-requires-clause-expected c).In_ok-expected)

pub returns-clause-read : goal.returns-clause-read
returns-clause-read c = (c.in_ok-texts.ensures.read c.requires.known.version_is, expects (goal.at.returns-clause-read c).In_ok-expected)

pub returns-clause-found : goal.returns-clause-found
returns-clause-found c =
    let tags = c.args.tags.now in
    let bag = tag_bag tags in
    let known = c.requires.known in
    let are = c.in_ok-texts.ensures.read known.version_is in
    let form = form_found bag _ _ _ c.requires.none (c.in_ok-texts.ensures.faulty known.version_is) (c.in_ok-add_form_faults.ensures bag (files_of_bag bag refl) are) in
    all_found c.args.version tags _ known
    (adds_kinds_by (HasOpeningFault tags) kinds_of_form kinds_of_files [] _ _ (adds_so [] _ (HasFaultOf bag kinds_of_form) (HasOpeningFaultOf tags kinds_of_form) (form_there tags) (form_back tags) form) c.in_ok-add_opening_faults.ensures)
