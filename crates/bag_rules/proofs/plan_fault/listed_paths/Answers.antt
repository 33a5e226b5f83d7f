use Rattle.std.proofs.Common.{◌≡◌, ◌≢◌, ◌↔◌, ◌+◌, ◌++◌, ◌∷◌, ◌∙◌, [], ℕ, List, length, sym, ap, subst, take, rules, arith}
use Rattle.bag_rules.specs.OpeningInside.{IsListedIn}
use Rattle.bag_rules.proofs.Words.{Has, Listing, Payload, take-length, take_more}
use Rattle.bag_rules.proofs.ListedPaths.{listed_more, listed_same}
use Rattle.bag_rules.proofs.plan_fault.listed_paths.Goals as goal
use Rattle.bag_rules.proofs.plan_fault.listed_paths.Goals.{then-eq+in_ok-add_paths, else-eq}

pub loop-manifest-init : goal.loop-manifest-init
loop-manifest-init c path = (λ h. absurd (subst (λ (ps : List (List ℕ)). Has ps path) c.new-paths.ensures.items h), λ l. absurd l.1)

pub loop-manifest-preserved : goal.loop-manifest-preserved
loop-manifest-preserved c =
    let listing = c.manifest-item.result in
    let before = take c.loop-manifest.manifest-index c.args.manifests.now in
    let more : take (c.loop-manifest.manifest-index + 1) c.args.manifests.now ≡ before ++ listing ∷ [] =
    take_more c.args.manifests.now c.loop-manifest.manifest-index listing c.loop-manifest-test.true ∙ ap (λ (l : Listing). before ++ l ∷ []) (sym c.manifest-item.is) in
    subst (λ ls. (path : List ℕ) → Has c.if-eq.paths.items path ↔ IsListedIn ls path) (sym more)
    (elim c.if-eq.branch [
      | then-eq+in_ok-add_paths w ↦
          let payload : listing.kind ≡ Payload = search rules in
          rw w.paths-is (listed_more before listing c.loop-manifest.paths.items c.loop-manifest.invariant w.add_paths.new.paths.items payload (rw (← w.pairs.ensures.pairs) w.in_ok-add_paths.ensures))
      | else-eq w ↦
          let other : listing.kind ≢ Payload = search rules in
          rw w.paths-is (listed_same before listing c.loop-manifest.paths.items c.loop-manifest.invariant other)
    ])

pub returns : goal.returns
returns c =
    let n : c.loop-manifest.manifest-index ≡ length c.args.manifests.now = omega arith in
    subst (λ ls. (path : List ℕ) → Has c.loop-manifest.paths.items path ↔ IsListedIn ls path) (ap (λ k. take k c.args.manifests.now) n ∙ take-length c.args.manifests.now) c.loop-manifest.invariant
