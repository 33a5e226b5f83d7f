use Rattle.std.proofs.Common.{◌≡◌, length, arith, rules}
use Rattle.bag_rules.specs.FilesInside.{IsPayloadMissing}
use Rattle.bag_rules.specs.Plans.{item_paths}
use Rattle.bag_rules.proofs.Words.{IsMissingBy, Payload}
use Rattle.bag_rules.proofs.AddsLemmas.{adds_none, adds_so}
use Rattle.bag_rules.proofs.EachLemmas.{each_all, each_more}
use Rattle.bag_rules.proofs.transfer_faults.add_missing_items.Goals as goal
use Rattle.bag_rules.proofs.transfer_faults.add_missing_items.Goals.{then-eq+in_ok-add_missing_by, else-eq}

pub loop-manifest-preserved : goal.loop-manifest-preserved
loop-manifest-preserved c = λ rising.
    let paths = item_paths c.args.sizes.now in
    let listing = c.manifest-item.result in
    each_more c.args.manifests.now c.loop-manifest.manifest-index listing (IsPayloadMissing paths) _ _ _ c.loop-manifest-test.true c.manifest-item.is (c.loop-manifest.invariant rising)
    (elim c.if-eq.branch [
      | then-eq+in_ok-add_missing_by w ↦
          let payload : listing.kind ≡ Payload = search rules in
          rw w.faults-is (adds_so _ _ (IsMissingBy paths listing) (IsPayloadMissing paths listing) (λ f h. (payload, h)) (λ f h. h.1) (w.in_ok-add_missing_by.ensures rising))
      | else-eq w ↦ rw w.faults-is (adds_none c.loop-manifest.faults.items (IsPayloadMissing paths listing) (λ f h. (let payload : listing.kind ≡ Payload = h.0 in absurd (search rules))))
    ])

pub returns : goal.returns
returns c = λ rising.
    let all : c.loop-manifest.manifest-index ≡ length c.args.manifests.now = omega arith in
    each_all c.args.manifests.now c.loop-manifest.manifest-index (IsPayloadMissing (item_paths c.args.sizes.now)) _ _ all (c.loop-manifest.invariant rising)
