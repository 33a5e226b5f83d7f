use Rattle.bag_tags.specs.WordsReading.{cuts}
use Rattle.bag_tags.proofs.WordsLemmas.{Spans}
use Rattle.bag_tags.proofs.splitting.front_len.Given as goal

abbrev pub invariant-loop-i : goal.invariant-loop-i
invariant-loop-i l = Spans (cuts l.cut) l.text l.i
