use Rattle.std.proofs.Common.{◌≡◌, ◌∙◌, false, inl, rules, subst, sym, true}
use Rattle.bag_rules.proofs.FileFaultLemmas.{listed_is_read, not_read}
use Rattle.bag_rules.proofs.Words.{Alg, has, is_payload, IsReadBy, lists_by, same_Some}
use Rattle.bag_rules.proofs.file_batch.algs_at.Goals as goal
use Rattle.bag_rules.proofs.file_batch.algs_at.Goals.{else-is_empty-via-then-is_empty+else-not-is_payload, else-is_empty-via-else-is_empty}

pub returns-then-not-is_payload : goal.returns-then-not-is_payload
returns-then-not-is_payload g c = record {
  known = λ path at.
      let wants = c.args.wants.now in
      let own = c.in_ok-path.path in
      let here : own ≡ path = (let k : own ≡ c.path.result.now = search rules in k ∙ same_Some c.path.result.now path (sym c.path.ensures ∙ at)) in
      let set_is : (alg : Alg) → has c.algs-set.result alg ≡ lists_by wants.manifests.now own alg = rw (← c.of.ensures.manifests, ← c.of.ensures.path_is) c.algs-set.ensures in
      let other : is_payload own ≡ false = search rules in
      subst (λ p. ¬ IsReadBy wants.manifests.now p) here (not_read wants.manifests.now own c.algs-set.result set_is (c.is_empty.ensures.0 c.if-is_empty.true) other);
  only = λ path at. tt;
}

pub returns : goal.returns
returns g c = record {
  known = λ path at.
      let wants = c.args.wants.now in
      let own = c.in_ok-path.path in
      let here : own ≡ path = (let k : own ≡ c.path.result.now = search rules in k ∙ same_Some c.path.result.now path (sym c.path.ensures ∙ at)) in
      let set_is : (alg : Alg) → has c.algs-set.result alg ≡ lists_by wants.manifests.now own alg = rw (← c.of.ensures.manifests, ← c.of.ensures.path_is) c.algs-set.ensures in
      let read : IsReadBy wants.manifests.now own = elim c.else-is_empty.branch [
        | else-is_empty-via-then-is_empty+else-not-is_payload w ↦ inl (search rules)
        | else-is_empty-via-else-is_empty w ↦ listed_is_read wants.manifests.now own c.algs-set.result set_is (λ h. let k : true ≡ false = sym (c.is_empty.ensures.1 h) ∙ w.if-is_empty.false in cc)
      ] in
      (subst (IsReadBy wants.manifests.now) here read, λ alg listed. set_is alg ∙ subst (λ p. lists_by wants.manifests.now p alg ≡ true) (sym here) listed);
  only = λ path at alg holds.
      let wants = c.args.wants.now in
      let own = c.in_ok-path.path in
      let here : own ≡ path = (let k : own ≡ c.path.result.now = search rules in k ∙ same_Some c.path.result.now path (sym c.path.ensures ∙ at)) in
      let set_is : (alg : Alg) → has c.algs-set.result alg ≡ lists_by wants.manifests.now own alg = rw (← c.of.ensures.manifests, ← c.of.ensures.path_is) c.algs-set.ensures in
      subst (λ p. lists_by wants.manifests.now p alg ≡ true) here (sym (set_is alg) ∙ holds);
}
