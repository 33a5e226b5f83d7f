use Rattle.std.proofs.Common.{◌≡◌, length, arith}
use Rattle.bag_rules.proofs.Words.{IsMissingBy, paths_in}
use Rattle.bag_rules.proofs.EachLemmas.{each_more, each_all}
use Rattle.bag_rules.proofs.listing_faults.add_missing.Goals as goal

pub loop-manifest-preserved : goal.loop-manifest-preserved
loop-manifest-preserved g c =
    each_more c.args.manifests.now c.loop-manifest.manifest-index c.manifest-item.result (λ manifest. IsMissingBy (paths_in (g.T.Paths.shown c.args.tree.now)) manifest) _ _ _
    c.loop-manifest-test.true c.manifest-item.is c.loop-manifest.invariant c.in_ok-add_missing_by.ensures

pub returns : goal.returns
returns g c =
    let all : c.loop-manifest.manifest-index ≡ length c.args.manifests.now = omega arith in
    each_all c.args.manifests.now c.loop-manifest.manifest-index (λ manifest. IsMissingBy (paths_in (g.T.Paths.shown c.args.tree.now)) manifest) _ _ all c.loop-manifest.invariant
