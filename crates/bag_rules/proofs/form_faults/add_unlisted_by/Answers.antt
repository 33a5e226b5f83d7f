use Rattle.std.proofs.Common.{◌≡◌, ◌≢◌, ◌∙◌, ◌++◌, ◌∷◌, [], length, arith, rules, sym, ap, not}
use Rattle.bag_rules.proofs.Words.{Adds, manifest_file, ManifestNotListed, Payload, PayloadManifest, Tag}
use Rattle.bag_rules.proofs.EachLemmas.{each_more, each_all}
use Rattle.bag_rules.proofs.FormLemmas.{IsNotListedIn, no_tag_manifest, listed_in, not_listed_in, unlisted_by_some, unlisted_by_none}
use Rattle.bag_rules.proofs.form_faults.add_unlisted_by.Goals as goal
use Rattle.bag_rules.proofs.form_faults.add_unlisted_by.Goals.{then-eq+then-is_none+in_ok-push, else-eq, else-eq-via-then-eq+else-is_none, else-eq-via-else-eq}

pub returns-in_default : goal.returns-in_default
returns-in_default c = unlisted_by_none c.args.path.now c.args.manifests.now c.args.faults.now.items
    (λ alg is. c.in_default.not-PayloadManifest alg (c.of.ensures.only (PayloadManifest alg) is))

pub loop-manifest-preserved : goal.loop-manifest-preserved
loop-manifest-preserved c =
    let path = c.args.path.now in
    let alg = c.in-PayloadManifest.alg in
    let listing = c.manifest-item.result in
    let step : Adds c.loop-manifest.faults.items c.if-eq.faults.items (IsNotListedIn path alg listing) = elim c.if-eq.branch [
      | then-eq+then-is_none+in_ok-push w ↦
          let tag : listing.kind ≡ Tag = search rules in
          let named : w.alg.result ≡ listing.alg = w.alg.ensures in
          let added : w.push.new.self.items ≡ c.loop-manifest.faults.items ++ ManifestNotListed w.alg.result alg ∷ [] = w.in_ok-push.ensures.items in
          not_listed_in path alg listing w.get.result _ _ tag (sym w.get.ensures.listed) (w.is_none.ensures ∙ ap not w.if-is_none.true) cc
      | else-eq w ↦
          let same : c.if-eq.faults.items ≡ c.loop-manifest.faults.items = cc in
          elim w.else-eq.branch [
            | else-eq-via-then-eq+else-is_none v ↦ listed_in path alg listing v.get.result _ _ (sym v.get.ensures.listed) (v.is_none.ensures ∙ ap not v.if-is_none.false) same
            | else-eq-via-else-eq v ↦ (let other : listing.kind ≢ Tag = search rules in no_tag_manifest path alg listing _ _ other same)
          ]
    ] in
    each_more c.args.manifests.now c.loop-manifest.manifest-index listing (IsNotListedIn path alg) _ _ _ c.loop-manifest-test.true c.manifest-item.is c.loop-manifest.invariant step

pub returns : goal.returns
returns c =
    let path = c.args.path.now in
    let alg = c.in-PayloadManifest.alg in
    let all : c.loop-manifest.manifest-index ≡ length c.args.manifests.now = omega arith in
    let named : path ≡ manifest_file Payload alg = c.in-PayloadManifest.ensures.named in
    let is : c.of.result ≡ PayloadManifest alg = c.of.ensures.only (PayloadManifest alg) named in
    unlisted_by_some path alg c.args.manifests.now _ _ named
    (λ other e. let k : PayloadManifest alg ≡ PayloadManifest other = sym is ∙ c.of.ensures.only (PayloadManifest other) e in cc)
    (each_all c.args.manifests.now c.loop-manifest.manifest-index (IsNotListedIn path alg) _ _ all c.loop-manifest.invariant)
