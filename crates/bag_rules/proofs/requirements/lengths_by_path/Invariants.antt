use Rattle.std.proofs.Common.{take}
use Rattle.bag_rules.proofs.Words.{AreByPath}
use Rattle.bag_rules.proofs.requirements.lengths_by_path.Given as goal

abbrev pub invariant-loop-line : goal.invariant-loop-line
invariant-loop-line l = AreByPath (take l.line-index l.lines) l.lengths
