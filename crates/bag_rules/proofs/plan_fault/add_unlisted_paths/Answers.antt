use Rattle.std.proofs.Common.{◌≡◌, length, arith}
use Rattle.bag_rules.proofs.Words.{IsFileUnlisted}
use Rattle.bag_rules.proofs.EachLemmas.{each_more, each_all}
use Rattle.bag_rules.proofs.plan_fault.add_unlisted_paths.Goals as goal

pub loop-path-preserved : goal.loop-path-preserved
loop-path-preserved c =
    each_more c.args.paths.now c.loop-path.path-index c.path-item.result (IsFileUnlisted c.args.version c.args.manifests.now) _ _ _
    c.loop-path-test.true c.path-item.is c.loop-path.invariant c.in_ok-add_unlisted.ensures

pub returns : goal.returns
returns c =
    let all : c.loop-path.path-index ≡ length c.args.paths.now = omega arith in
    each_all c.args.paths.now c.loop-path.path-index (IsFileUnlisted c.args.version c.args.manifests.now) _ _ all c.loop-path.invariant
