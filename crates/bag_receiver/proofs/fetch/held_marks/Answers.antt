use Rattle.std.proofs.Common.{take}
use Rattle.bag_rules.specs.Plans.{item_paths}
use Rattle.bag_receiver.proofs.FetchLemmas.{marks_next}
use Rattle.bag_receiver.proofs.fetch.held_marks.Goals as goal

pub loop-size-preserved : goal.loop-size-preserved
loop-size-preserved c = λ rising.
    marks_next c.args.paths.now c.mark_path.new.marks.items c.args.sizes.now c.loop-size.size-index c.size-item.result c.loop-size-test.true c.size-item.is
    (c.mark_path.ensures rising (item_paths (take c.loop-size.size-index c.args.sizes.now)) (c.loop-size.invariant rising))
