use Rattle.std.proofs.Common.{◌++◌, ℕ, List, take}
use Rattle.bag_path.specs.LineCounts.{HasCounted}
use Rattle.bag_path.proofs.LineCountLemmas.{IsCount}
use Rattle.bag_path.proofs.line_count.LineCount.update.Given as goal

abbrev pub invariant-loop-octet : goal.invariant-loop-octet
invariant-loop-octet l = (octets : List ℕ) → HasCounted l.fn.self octets → IsCount l.lines l.last (octets ++ take l.octet-index l.piece)
