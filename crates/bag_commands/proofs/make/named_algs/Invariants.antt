use Rattle.std.proofs.Common.{map, string_bytes, take}
use Rattle.bag_commands.specs.Making.{NamesSet}
use Rattle.bag_commands.proofs.make.named_algs.Given as goal

abbrev pub invariant-loop-word : goal.invariant-loop-word
invariant-loop-word l = NamesSet (map string_bytes (take l.word-index l.words)) l.algs
