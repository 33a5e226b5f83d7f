-- The result of `make` as printed, and its status.
use Rattle.std.specs.Prelude.{ℕ, List, ◌++◌, None, Option, Result, Ok, Err, Some, codes}
use Rattle.std.specs.Fmt.{decimal}
use Rattle.bag_tags.specs.declared.oxum.Oxum.{Oxum}
use Rattle.bag_writer.specs.declared.too_large.Large.{Large}
use Rattle.bag_writer.specs.declared.write_fault.WriteFault.{WriteFault}
use Rattle.bag_writer.specs.declared.write_fault.WriteFault.TheVariants as fault
use Rattle.bag_commands.specs.declared.status.TheConstants.{DONE, FAILED, REFUSED}
use Rattle.bag_commands.specs.declared.no_result.NoResult.TheVariants as no_result
use Rattle.bag_commands.specs.NoResultTexts.{no_result_text}

-- why no bag, or only part of one, was made
abbrev pub fault_line : WriteFault → List ℕ
fault_line fault.NoAlgorithm = codes "bag: no algorithm"
fault_line fault.OxumGiven = codes "bag: oxum given"
fault_line (fault.BadHole i) = codes "bag: bad hole"
fault_line (fault.Clash path) = codes "bag: clash"
fault_line fault.Tree = no_result_text no_result.Files
fault_line fault.Sink = no_result_text no_result.Files
fault_line (fault.TooLarge large) = no_result_text no_result.TooLarge
fault_line fault.Memory = no_result_text no_result.Memory

-- its line: the number of payload files and of their octets, or the fault
abbrev pub make_text : Result Oxum WriteFault → List ℕ
make_text (Ok oxum) = codes "made " ++ decimal oxum.streams ++ codes " files, "
    ++ decimal oxum.octets ++ codes " octets"
make_text (Err why) = fault_line why

-- a payload that can't be a bag's as it is counts as refused; files and memory fail
abbrev pub fault_status : WriteFault → ℕ
fault_status fault.Tree = FAILED
fault_status fault.Sink = FAILED
fault_status fault.Memory = FAILED
fault_status why = REFUSED

abbrev pub make_status : Result Oxum WriteFault → ℕ
make_status (Ok oxum) = DONE
make_status (Err why) = fault_status why

-- what is too large, if the result says that something is
abbrev pub large_in : Result Oxum WriteFault → Option Large
large_in (Err (fault.TooLarge large)) = Some large
large_in answer = None
