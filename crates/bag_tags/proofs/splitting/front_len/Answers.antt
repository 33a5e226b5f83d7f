use Rattle.std.proofs.Common.{◌∙◌, sym, arith}
use Rattle.bag_tags.specs.WordsReading.{cuts}
use Rattle.bag_tags.proofs.WordsLemmas.{spans_on, spans_stop, spans_end}
use Rattle.bag_tags.proofs.splitting.front_len.Goals as goal

pub returns-then-is_at-clause-front : goal.returns-then-is_at-clause-front
returns-then-is_at-clause-front c = spans_stop (cuts c.args.cut) c.args.text.now c.loop-i.i c.loop-i-test.true (sym c.is_at.ensures ∙ c.if-is_at.true) c.loop-i.invariant

pub loop-i-preserved : goal.loop-i-preserved
loop-i-preserved c = spans_on (cuts c.args.cut) c.args.text.now c.loop-i.i c.loop-i-test.true (sym c.is_at.ensures ∙ c.if-is_at.false) c.loop-i.invariant

pub returns-clause-front : goal.returns-clause-front
returns-clause-front c = spans_end (cuts c.args.cut) c.args.text.now c.loop-i.i (omega arith) c.loop-i.invariant
