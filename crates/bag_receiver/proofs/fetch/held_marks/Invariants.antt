use Rattle.std.proofs.Common.{take}
use Rattle.bag_rules.specs.Plans.{item_paths}
use Rattle.bag_receiver.specs.FetchingInside.{AreMarks}
use Rattle.bag_receiver.proofs.Words.{AreRising}
use Rattle.bag_receiver.proofs.fetch.held_marks.Given as goal

abbrev pub invariant-loop-size : goal.invariant-loop-size
invariant-loop-size l = AreRising l.paths → AreMarks l.paths l.marks.items (item_paths (take l.size-index l.sizes))
