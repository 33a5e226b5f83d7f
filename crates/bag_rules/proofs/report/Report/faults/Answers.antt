use Rattle.std.proofs.Common.{subst}
use Rattle.bag_rules.proofs.Words.{IsNonDecreasingBy, number_of}
use Rattle.bag_rules.proofs.OrderLemmas.{numbers_rise}
use Rattle.bag_rules.proofs.report.Report.faults.Goals as goal

pub returns-clause-by_number : goal.returns-clause-by_number
returns-clause-by_number c = subst (IsNonDecreasingBy number_of) c.self.view_is (numbers_rise _ c.self.invariant)
