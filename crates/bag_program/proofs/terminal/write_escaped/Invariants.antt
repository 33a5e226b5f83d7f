use Rattle.std.proofs.Common.{take}
use Rattle.std.specs.Io.KnownBytes.{Appends}
use Rattle.std.specs.List.{flat_map}
use Rattle.bag_program.specs.Terminals.{escape_of}
use Rattle.bag_program.proofs.terminal.write_escaped.Given as goal

abbrev pub invariant-loop-octet : goal.invariant-loop-octet
invariant-loop-octet g l = Appends (g.W.Write.contents l.fn.writer) (g.W.Write.contents l.writer) (flat_map escape_of (take l.octet-index l.octets))
