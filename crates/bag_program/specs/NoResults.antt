-- Why a command stops before its work.
use Rattle.bag_commands.specs.declared.no_result.NoResult.{NoResult}
use Rattle.bag_commands.specs.declared.no_result.NoResult.TheVariants as no_result
use Rattle.bag_folder.specs.declared.fault.OpenFault.{OpenFault}
use Rattle.bag_folder.specs.declared.fault.OpenFault.TheVariants as open_fault

-- why a folder wasn't opened, as the reason why the command stops
abbrev pub no_result_of_open : OpenFault → NoResult
no_result_of_open (open_fault.Files unfit) = no_result.Files
no_result_of_open open_fault.Memory = no_result.Memory
