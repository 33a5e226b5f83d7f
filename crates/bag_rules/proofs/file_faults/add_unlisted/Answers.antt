use Rattle.std.proofs.Common.{◌≡◌, ◌∙◌, ◌++◌, ◌∷◌, [], false, true, arith, refl, sym, ap, rules}
use Rattle.bag_rules.proofs.Words.{false≢true, is_payload, IsUnlistedIn, Unlisted}
use Rattle.bag_rules.proofs.AddsLemmas.{adds_none, adds_so}
use Rattle.bag_rules.proofs.UnlistedLemmas.{told_all, told_none, told_one}
use Rattle.bag_rules.proofs.file_faults.add_unlisted.Goals as goal
use Rattle.bag_rules.proofs.file_faults.add_unlisted.Goals.{then-has+in_ok-path+in_ok-push, else-has}

pub returns-then-not-is_payload : goal.returns-then-not-is_payload
returns-then-not-is_payload c =
    let other : is_payload c.args.path.now ≡ false = search rules in
    adds_none c.args.faults.now.items _ (λ f h. false≢true (sym other ∙ h.0))

pub loop-manifest-preserved : goal.loop-manifest-preserved
loop-manifest-preserved c =
    let path = c.args.path.now in
    let set = c.unlisted_in-unlisted.result in
    elim c.if-has.branch [
      | then-has+in_ok-path+in_ok-push w ↦
          let own : w.in_ok-path.path ≡ path = search rules in
          rw w.faults-is (told_one set (λ a. Unlisted a path) c.loop-manifest.manifest-index _ _ _ _ c.loop-manifest-test.true c.loop-manifest.invariant (sym c.has.ensures ∙ w.if-has.true)
          (w.in_ok-push.ensures.items ∙ ap (λ p. c.loop-manifest.faults.items ++ Unlisted _ p ∷ []) own))
      | else-has w ↦ rw w.faults-is (told_none set (λ a. Unlisted a path) c.loop-manifest.manifest-index _ _ _ _ c.loop-manifest-test.true c.loop-manifest.invariant (sym c.has.ensures ∙ w.if-has.false) refl)
    ]

pub returns : goal.returns
returns c =
    let path = c.args.path.now in
    let payload : is_payload path ≡ true = search rules in
    adds_so _ _ _ _ (λ f h. (payload, h)) (λ f h. h.1)
    (told_all c.unlisted_in-unlisted.result (λ a. Unlisted a path) (λ alg. IsUnlistedIn c.args.version c.args.manifests.now alg path) c.loop-manifest.manifest-index _ _ (omega arith) c.unlisted_in-unlisted.ensures c.loop-manifest.invariant)
