use Rattle.std.proofs.Common.{take}
use Rattle.bag_sqlite.proofs.Words.{AreTexts}
use Rattle.bag_sqlite.proofs.adopting.are_texts.Given as goal

abbrev pub invariant-loop-row : goal.invariant-loop-row
invariant-loop-row l = AreTexts (take l.row-index l.rows)
