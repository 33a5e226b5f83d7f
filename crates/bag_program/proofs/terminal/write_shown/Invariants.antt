use Rattle.std.specs.Io.KnownBytes.{Appends}
use Rattle.std.specs.List.{flat_map}
use Rattle.bag_program.specs.Terminals.{shown_char}
use Rattle.bag_program.proofs.terminal.write_shown.Given as goal

abbrev pub invariant-loop-c : goal.invariant-loop-c
invariant-loop-c g l = Appends (g.W.Write.contents l.fn.writer) (g.W.Write.contents l.writer) (flat_map shown_char l.yielded)
