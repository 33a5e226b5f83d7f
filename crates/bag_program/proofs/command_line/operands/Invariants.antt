use Rattle.std.proofs.Common.{◌≡◌, map, string_bytes}
use Rattle.bag_program.proofs.RequestLemmas.{IsFront}
use Rattle.bag_program.proofs.command_line.operands.Given as goal

abbrev pub invariant-loop-i : goal.invariant-loop-i
invariant-loop-i l = (l.words.items ≡ l.fn.words.items) × IsFront (map string_bytes l.fn.words.items) l.i
