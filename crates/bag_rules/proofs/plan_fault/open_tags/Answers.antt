use Rattle.bag_rules.specs.Opening.{FewLines, Opens}
use Rattle.bag_rules.proofs.OpeningVerdicts.{not_outside}
use Rattle.bag_rules.proofs.plan_fault.open_tags.Goals as goal

pub returns-in-Some-2-clause-refused : goal.returns-in-Some-2-clause-refused
returns-in-Some-2-clause-refused c =
    let tags = c.args.tags.now in
    let known = c.in_ok-version.ensures.known in
    let few : FewLines tags = rw c.in_default.is at c.first_large.ensures in
    (few, not_outside tags known.tag_files known.in_scope, c.in_ok-texts.ensures.read.2, rw c.in-Some-2.is at c.in_ok-path.ensures)

pub returns-in-None-clause-opened : goal.returns-in-None-clause-opened
returns-in-None-clause-opened c =
    let known = c.in_ok-version.ensures.known in
    let read = c.in_ok-texts.ensures.read in
    let opens : Opens c.args.tags.now = record {
      few_lines = rw c.in_default.is at c.first_large.ensures;
      in_scope = known.in_scope;
      no_fault = read.2;
      no_clash = rw c.in-None.is at c.in_ok-path.ensures;
    } in
    (known.tag_files, opens, read.0, read.1)
