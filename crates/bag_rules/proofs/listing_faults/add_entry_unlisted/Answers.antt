use Rattle.std.proofs.Common.{◌≡◌, ◌∙◌, ◌++◌, ◌∷◌, [], arith, refl, sym, ap, rules}
use Rattle.bag_rules.proofs.Words.{FetchNotListed, IsUnlistedIn}
use Rattle.bag_rules.proofs.UnlistedLemmas.{told_all, told_none, told_one}
use Rattle.bag_rules.proofs.listing_faults.add_entry_unlisted.Goals as goal
use Rattle.bag_rules.proofs.listing_faults.add_entry_unlisted.Goals.{then-has+in_ok-path+in_ok-push, else-has}

pub loop-manifest-preserved : goal.loop-manifest-preserved
loop-manifest-preserved c =
    let path = c.args.path.now in
    let set = c.unlisted_in-unlisted.result in
    elim c.if-has.branch [
      | then-has+in_ok-path+in_ok-push w ↦
          let own : w.in_ok-path.path ≡ path = search rules in
          rw w.faults-is (told_one set (λ a. FetchNotListed a path) c.loop-manifest.manifest-index _ _ _ _ c.loop-manifest-test.true c.loop-manifest.invariant (sym c.has.ensures ∙ w.if-has.true)
          (w.in_ok-push.ensures.items ∙ ap (λ p. c.loop-manifest.faults.items ++ FetchNotListed _ p ∷ []) own))
      | else-has w ↦ rw w.faults-is (told_none set (λ a. FetchNotListed a path) c.loop-manifest.manifest-index _ _ _ _ c.loop-manifest-test.true c.loop-manifest.invariant (sym c.has.ensures ∙ w.if-has.false) refl)
    ]

pub returns : goal.returns
returns c =
    let path = c.args.path.now in
    told_all c.unlisted_in-unlisted.result (λ a. FetchNotListed a path) (λ alg. IsUnlistedIn c.args.version c.args.manifests.now alg path) c.loop-manifest.manifest-index _ _ (omega arith) c.unlisted_in-unlisted.ensures c.loop-manifest.invariant
