use Rattle.std.proofs.Common.{◌≡◌, ◌↔◌, ◌||◌, ◌+◌, ◌++◌, ◌∷◌, ◌∙◌, [], true, is_some, sym, ap, subst, take, rules}
use Rattle.bag_rules.specs.FilesInside.{HasPayloadListing}
use Rattle.bag_rules.proofs.Words.{Alg, has, is_alg, Listing, lists_path, Payload, take_more}
use Rattle.bag_rules.proofs.ListedLemmas.{listed_or_not}
use Rattle.bag_rules.proofs.SuchManifests.{none_more, one_more}
use Rattle.bag_rules.proofs.unlisted.payload_algs.Goals as goal
use Rattle.bag_rules.proofs.unlisted.payload_algs.Goals.{then-eq+then-is_some-lists, else-eq, else-eq-via-then-eq+else-is_some-lists, else-eq-via-else-eq}

pub loop-manifest-preserved : goal.loop-manifest-preserved
loop-manifest-preserved c =
    let path = c.args.path.now in
    let lists = c.args.lists in
    let such = λ (listing : Listing). (listing.kind ≡ Payload) × (lists_path listing.pairs path ≡ lists) in
    let listing = c.manifest-item.result in
    let before = take c.loop-manifest.manifest-index c.args.manifests.now in
    let more : take (c.loop-manifest.manifest-index + 1) c.args.manifests.now ≡ before ++ listing ∷ [] =
    take_more c.args.manifests.now c.loop-manifest.manifest-index listing c.loop-manifest-test.true ∙ ap (λ (l : Listing). before ++ l ∷ []) (sym c.manifest-item.is) in
    subst (λ ls. (alg : Alg) → (has c.if-eq.set alg ≡ true) ↔ HasPayloadListing ls path lists alg) (sym more)
    (elim c.if-eq.branch [
      | then-eq+then-is_some-lists w ↦
          let payload : listing.kind ≡ Payload = search rules in
          let so : is_some w.get.result ≡ lists = search rules in
          one_more before listing such c.loop-manifest.set c.loop-manifest.invariant c.if-eq.set (payload, listed_or_not listing.pairs path w.get.result (sym w.get.ensures.listed) ∙ so)
          (λ alg. ap (λ s. has s alg) w.set-is ∙ w.with-set.ensures alg ∙ ap (λ a. is_alg a alg || has c.loop-manifest.set alg) w.alg.ensures)
      | else-eq w ↦
          subst (λ s. (alg : Alg) → (has s alg ≡ true) ↔ HasPayloadListing (before ++ listing ∷ []) path lists alg) (sym w.set-is)
          (none_more before listing such c.loop-manifest.set c.loop-manifest.invariant (λ such. elim w.else-eq.branch [
            | else-eq-via-then-eq+else-is_some-lists v ↦
                let so : is_some v.get.result ≡ lists = sym (listed_or_not listing.pairs path v.get.result (sym v.get.ensures.listed)) ∙ such.1 in
                absurd (search rules)
            | else-eq-via-else-eq v ↦ (let payload : listing.kind ≡ Payload = such.0 in absurd (search rules))
          ]))
    ])
