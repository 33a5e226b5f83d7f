use Rattle.std.proofs.Common.{◌≡◌, length, arith}
use Rattle.bag_rules.proofs.Words.{IsPairMissing, Pair, paths_in}
use Rattle.bag_rules.proofs.EachLemmas.{each_more, each_all}
use Rattle.bag_rules.proofs.MissingLemmas.{missing_by}
use Rattle.bag_rules.proofs.listing_faults.add_missing_by.Goals as goal

pub loop-pair-preserved : goal.loop-pair-preserved
loop-pair-preserved g c =
    each_more c.pairs-pair-items.result.now c.loop-pair.pair-index c.pair-item.result (λ (pair : Pair). IsPairMissing (paths_in (g.T.Paths.shown c.args.tree.now)) c.name-name.result pair.path) _ _ _
    c.loop-pair-test.true c.pair-item.is c.loop-pair.invariant c.in_ok-add_missing_pair.ensures

pub returns : goal.returns
returns g c =
    let of = λ (pair : Pair). IsPairMissing (paths_in (g.T.Paths.shown c.args.tree.now)) c.name-name.result pair.path in
    let all : c.loop-pair.pair-index ≡ length c.pairs-pair-items.result.now = omega arith in
    missing_by (paths_in (g.T.Paths.shown c.args.tree.now)) c.args.manifest.now c.pairs-pair-items.result.now c.name-name.result _ _ c.pairs-pair-items.ensures.pairs
    c.name-name.ensures (each_all c.pairs-pair-items.result.now c.loop-pair.pair-index of _ _ all c.loop-pair.invariant)
