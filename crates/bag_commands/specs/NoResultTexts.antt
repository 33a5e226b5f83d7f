-- Why a command ended without a result, as printed.
use Rattle.std.specs.Prelude.{ℕ, List, codes}
use Rattle.bag_ledger.specs.declared.keeper_faults.KeepFault.{KeepFault}
use Rattle.bag_ledger.specs.declared.keeper_faults.KeepFault.TheVariants as keep
use Rattle.bag_rules.specs.declared.outcome.CheckFault.{CheckFault}
use Rattle.bag_rules.specs.declared.outcome.CheckFault.TheVariants as check
use Rattle.bag_commands.specs.declared.no_result.NoResult.{NoResult}
use Rattle.bag_commands.specs.declared.no_result.NoResult.TheVariants as no_result

abbrev pub no_result_text : NoResult → List ℕ
no_result_text no_result.Files = codes "bag: files"
no_result_text no_result.Memory = codes "bag: memory"
no_result_text no_result.TagTooLarge = codes "bag: tag too large"
no_result_text no_result.TooLarge = codes "bag: too large"
no_result_text no_result.TooMany = codes "bag: too many"
no_result_text no_result.Store = codes "bag: store"

-- why a check couldn't be completed
abbrev pub no_result_of_check : CheckFault → NoResult
no_result_of_check check.Tree = no_result.Files
no_result_of_check check.Memory = no_result.Memory
no_result_of_check (check.TagTooLarge path) = no_result.TagTooLarge
no_result_of_check (check.TooLarge path) = no_result.TooLarge
no_result_of_check check.TooMany = no_result.TooMany

-- why a keeper had no answer
abbrev pub no_result_of_keep : KeepFault → NoResult
no_result_of_keep keep.Memory = no_result.Memory
no_result_of_keep (keep.Store why) = no_result.Store
