use Rattle.std.proofs.Common.{◌≡◌, ℕ, List, length, arith}
use Rattle.bag_rules.proofs.Words.{IsUnlistedBy, paths_in}
use Rattle.bag_rules.proofs.EachLemmas.{each_at, each_all}
use Rattle.bag_rules.proofs.form_faults.add_unlisted_manifests.Goals as goal

pub loop-i-preserved : goal.loop-i-preserved
loop-i-preserved g c = record {
  all = c.loop-i.invariant.all;
  added = each_at (paths_in (g.T.Paths.shown c.args.tree.now)) c.loop-i.i c.path.result.now (λ path. IsUnlistedBy c.args.manifests.now path) _ _ _ c.path.ensures c.loop-i.invariant.added c.in_ok-add_unlisted_by.ensures;
}

pub returns : goal.returns
returns g c =
    let paths = paths_in (g.T.Paths.shown c.args.tree.now) in
    let all : c.loop-i.i ≡ length paths = omega (arith, c.loop-i.invariant.all) in
    each_all paths c.loop-i.i (λ (path : List ℕ). IsUnlistedBy c.args.manifests.now path) _ _ all c.loop-i.invariant.added
