use Rattle.std.proofs.Common.{◌≡◌, ◌≢◌, length, arith, rules}
use Rattle.bag_rules.specs.OpeningInside.{IsTagMissing}
use Rattle.bag_rules.proofs.Words.{IsMissingBy, paths_in, Tag}
use Rattle.bag_rules.proofs.AddsLemmas.{adds_none, adds_so}
use Rattle.bag_rules.proofs.EachLemmas.{each_more, each_all}
use Rattle.bag_rules.proofs.plan_fault.add_missing_tags.Goals as goal
use Rattle.bag_rules.proofs.plan_fault.add_missing_tags.Goals.{then-eq+in_ok-add_missing_by, else-eq}

pub loop-manifest-preserved : goal.loop-manifest-preserved
loop-manifest-preserved g c =
    let listing = c.manifest-item.result in
    let paths = paths_in (g.T.Paths.shown c.args.tags.now) in
    let old = c.loop-manifest.faults.items in
    each_more c.args.manifests.now c.loop-manifest.manifest-index listing (IsTagMissing paths) _ _ _
    c.loop-manifest-test.true c.manifest-item.is c.loop-manifest.invariant
    (elim c.if-eq.branch [
      | then-eq+in_ok-add_missing_by w ↦
          let tag : listing.kind ≡ Tag = search rules in
          rw w.faults-is (adds_so old w.add_missing_by.new.faults.items (IsMissingBy paths listing) (IsTagMissing paths listing) (λ f h. (tag, h)) (λ f h. h.1) w.in_ok-add_missing_by.ensures)
      | else-eq w ↦
          let other : listing.kind ≢ Tag = search rules in
          rw w.faults-is (adds_none old (IsTagMissing paths listing) (λ f h. other h.0))
    ])

pub returns : goal.returns
returns g c =
    let all : c.loop-manifest.manifest-index ≡ length c.args.manifests.now = omega arith in
    each_all c.args.manifests.now c.loop-manifest.manifest-index (IsTagMissing (paths_in (g.T.Paths.shown c.args.tags.now))) _ _ all c.loop-manifest.invariant
