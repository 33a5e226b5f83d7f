use Rattle.std.proofs.Common.{take}
use Rattle.std.specs.List.{All}
use Rattle.bag_path.specs.Lines.{IsPlain}
use Rattle.bag_path.proofs.lines.text_len.Given as goal

abbrev pub invariant-loop-i : goal.invariant-loop-i
invariant-loop-i l = All IsPlain (take l.i l.octets)
