-- Content that was read and isn't the wanted one.
use Rattle.std.proofs.Common.{ℕ, List, Option}
use Rattle.bag_digest.specs.Reading.{GaveAll}
use Rattle.bag_rules.specs.declared.limits.TheConstants.{LARGEST_ITEM}
use Rattle.bag_rules.specs.declared.want.Want.{Want}
use Rattle.bag_rules.specs.declared.want.WantFault.{WantFault}
use Rattle.bag_rules.specs.declared.want.WantFault.TheVariants.{Length, Digest}
use Rattle.bag_rules.specs.Wants.{IsFirstMisfitOf}
use Rattle.bag_ledger.specs.Keeping.{RefusesGiven, given_by}
use Rattle.bag_ledger.specs.PutFaults.{misfit_fault}

pub read_tested : (want : Want) (old new : Option (List ℕ)) (octets : List ℕ) (fault : WantFault) → GaveAll old new LARGEST_ITEM octets → IsFirstMisfitOf want octets fault
    → RefusesGiven (given_by old new) want (misfit_fault fault)
read_tested want old new octets Length gave misfit = (octets, gave, misfit)
read_tested want old new octets (Digest alg) gave misfit = (octets, gave, misfit)
