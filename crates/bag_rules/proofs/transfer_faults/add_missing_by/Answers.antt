use Rattle.std.proofs.Common.{◌≡◌, length, arith}
use Rattle.bag_rules.specs.Plans.{item_paths}
use Rattle.bag_rules.proofs.Words.{IsPairMissing, Pair}
use Rattle.bag_rules.proofs.EachLemmas.{each_all, each_more}
use Rattle.bag_rules.proofs.MissingLemmas.{missing_by}
use Rattle.bag_rules.proofs.transfer_faults.add_missing_by.Goals as goal

pub loop-pair-preserved : goal.loop-pair-preserved
loop-pair-preserved c = λ rising.
    each_more c.pairs-pair-items.result.now c.loop-pair.pair-index c.pair-item.result (λ (pair : Pair). IsPairMissing (item_paths c.args.sizes.now) c.name-name.result pair.path) _ _ _
    c.loop-pair-test.true c.pair-item.is (c.loop-pair.invariant rising) (c.in_ok-add_missing_pair.ensures rising)

pub returns : goal.returns
returns c = λ rising.
    let all : c.loop-pair.pair-index ≡ length c.pairs-pair-items.result.now = omega arith in
    missing_by (item_paths c.args.sizes.now) c.args.manifest.now c.pairs-pair-items.result.now c.name-name.result _ _ c.pairs-pair-items.ensures.pairs c.name-name.ensures
    (each_all c.pairs-pair-items.result.now c.loop-pair.pair-index (λ (pair : Pair). IsPairMissing (item_paths c.args.sizes.now) c.name-name.result pair.path) _ _ all (c.loop-pair.invariant rising))
