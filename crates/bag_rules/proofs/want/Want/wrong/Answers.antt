use Rattle.std.proofs.Common.{◌≡◌, ◌↔◌, ◌||◌, ◌+◌, ◌++◌, ◌∷◌, ◌∙◌, [], true, false, None, Some, sym, ap, subst, take, rules}
use Rattle.bag_rules.specs.Wants.{HasSuch}
use Rattle.bag_rules.proofs.Words.{Alg, digest_in, FitsListing, has, is_alg, listed_digest, Listing, same_Some, take_more}
use Rattle.bag_rules.proofs.SuchManifests.{none_more, one_more}
use Rattle.bag_rules.proofs.want.Want.wrong.Goals as goal
use Rattle.bag_rules.proofs.want.Want.wrong.Goals.{in-Some+then-not-contains, in-Some+else-not-contains, in_default}

pub loop-manifest-preserved : goal.loop-manifest-preserved
loop-manifest-preserved c =
    let listings = c.args.self.now.manifests.now in
    let listing = c.manifest-item.result in
    let path = c.args.self.now.path.now in
    let digests = c.args.digests.now in
    let such = λ (listing : Listing). ¬ FitsListing path digests listing in
    let before = take c.loop-manifest.manifest-index listings in
    let more : take (c.loop-manifest.manifest-index + 1) listings ≡ before ++ listing ∷ [] =
    take_more listings c.loop-manifest.manifest-index listing c.loop-manifest-test.true ∙ ap (λ (l : Listing). before ++ l ∷ []) (sym c.manifest-item.is) in
    subst (λ ls. (alg : Alg) → (has c.match-get.set alg ≡ true) ↔ HasSuch ls such alg) (sym more)
    (elim c.match-get.branch [
      | in-Some+then-not-contains w ↦
          let some : listed_digest listing.pairs path ≡ Some w.in-Some.digest = sym c.get.ensures.listed ∙ w.in-Some.is in
          one_more before listing such c.loop-manifest.set c.loop-manifest.invariant c.match-get.set
          (λ fits. (let k : true ≡ false = sym (w.contains.ensures.1 (ap (digest_in digests) w.in-Some.ensures.by_alg ∙ fits w.in-Some.digest some)) ∙ w.if-not-contains.true in cc))
          (λ alg. ap (λ s. has s alg) w.set-is ∙ w.with-set.ensures alg ∙ ap (λ a. is_alg a alg || has c.loop-manifest.set alg) w.alg.ensures)
      | in-Some+else-not-contains w ↦
          subst (λ s. (alg : Alg) → (has s alg ≡ true) ↔ HasSuch (before ++ listing ∷ []) such alg) (sym w.set-is)
          (none_more before listing such c.loop-manifest.set c.loop-manifest.invariant (λ wrong. wrong (λ digest some.
          let same : w.in-Some.digest ≡ digest = same_Some w.in-Some.digest digest (sym w.in-Some.is ∙ c.get.ensures.listed ∙ some) in
          subst (λ d. digest_in digests listing.alg ≡ Some d) same (ap (digest_in digests) (sym w.in-Some.ensures.by_alg) ∙ w.contains.ensures.0 w.if-not-contains.false))))
      | in_default w ↦
          subst (λ s. (alg : Alg) → (has s alg ≡ true) ↔ HasSuch (before ++ listing ∷ []) such alg) (sym w.set-is)
          (none_more before listing such c.loop-manifest.set c.loop-manifest.invariant (λ wrong. wrong (λ digest some.
          let none : c.get.result ≡ None = search rules in
          (let k : None ≡ Some digest = sym none ∙ c.get.ensures.listed ∙ some in cc))))
    ])
