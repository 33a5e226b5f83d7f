use Rattle.std.proofs.Common.{map, take}
use Rattle.bag_commands.specs.Outputs.{WroteLines}
use Rattle.bag_commands.specs.FaultTexts.{fault_text}
use Rattle.bag_commands.proofs.verdict.write_report.Given as goal

abbrev pub invariant-loop-fault : goal.invariant-loop-fault
invariant-loop-fault g l = WroteLines g.W.Write.contents l.fn.out l.out (map fault_text (take l.fault-index l.fault-items))
