use Rattle.std.proofs.Common.{map, take}
use Rattle.bag_commands.specs.ListTexts.{name_text}
use Rattle.bag_commands.specs.Outputs.{WroteLines}
use Rattle.bag_commands.proofs.list.write_each.Given as goal

abbrev pub invariant-loop-name : goal.invariant-loop-name
invariant-loop-name g l = WroteLines g.W.Write.contents l.fn.out l.out (map name_text (take l.name-index l.names))
