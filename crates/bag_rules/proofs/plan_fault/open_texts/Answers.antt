use Rattle.std.proofs.Common.{List, subst}
use Rattle.bag_rules.specs.contracts.fault.FaultOrd.TheImpl as order
use Rattle.bag_rules.specs.Opening.{HasOpeningFault}
use Rattle.bag_rules.proofs.Words.{Fault, Has}
use Rattle.bag_rules.proofs.OpeningVerdicts.{first_as, not_outside}
use Rattle.bag_rules.proofs.plan_fault.open_texts.Goals as goal

pub returns-in-Some-clause-refused : goal.returns-in-Some-clause-refused
returns-in-Some-clause-refused c = λ few.
    let tags = c.args.tags.now in
    (few, not_outside tags c.requires.tag_files c.requires.in_scope, first_as order.ghosts.cmp (Has c.find_faults.new.faults.items) (HasOpeningFault tags) c.in-Some.fault c.in_ok-opened.ensures.found c.in-Some.ensures)

pub returns-in-None-clause-read : goal.returns-in-None-clause-read
returns-in-None-clause-read c = (
  c.in_ok-opened.ensures.read.0,
  c.in_ok-opened.ensures.read.1,
  λ fault has. subst (λ (fs : List Fault). Has fs fault) c.in-None.ensures ((c.in_ok-opened.ensures.found fault).1 has),
)
