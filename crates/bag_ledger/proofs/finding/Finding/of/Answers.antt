use Rattle.bag_rules.proofs.WantedLemmas.{misfit_other}
use Rattle.bag_ledger.proofs.finding.Finding.of.Goals as goal

pub returns-in-Ok-clause-told : goal.returns-in-Ok-clause-told
returns-in-Ok-clause-told c = λ set taken covers sized took.
    c.in-Ok.ensures.octets taken (record { set = set; are_sums = (sized, c.finish.ensures set taken (rw c.in-Hashed.is at took)); covers = covers })

pub returns-in-Err-clause-told : goal.returns-in-Err-clause-told
returns-in-Err-clause-told c = λ set taken covers sized took.
    misfit_other c.args.want taken c.in-Err.field-0 (c.in-Err.ensures.octets taken (record { set = set; are_sums = (sized, c.finish.ensures set taken (rw c.in-Hashed.is at took)); covers = covers }))
