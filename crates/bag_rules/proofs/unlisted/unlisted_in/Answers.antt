use Rattle.std.proofs.Common.{◌≡◌, ◌↔◌, ◌∙◌, true, sym, subst}
use Rattle.bag_path.specs.declared.version.Version.{Version}
use Rattle.bag_rules.proofs.Words.{false≢true, has, IsUnlistedIn, V097}
use Rattle.bag_rules.proofs.unlisted.unlisted_in.Goals as goal

pub returns-in-V097 : goal.returns-in-V097
returns-in-V097 c = λ alg.
    let others = c.payload_algs-others.ensures in
    let none = c.is_empty.ensures.0 c.if-is_empty.true in
    let told : (has c.only_first.result alg ≡ true) ↔ IsUnlistedIn V097 c.args.manifests.now alg c.args.path.now = (
      λ h.
          let first = (c.only_first.ensures alg).0 h in
          (((others alg).0 first.0, λ other l. first.1 other ((others other).1 l)), λ other l. false≢true (sym (none other) ∙ (c.payload_algs.ensures other).1 l)),
      λ h. (c.only_first.ensures alg).1 ((others alg).1 h.0.0, λ other l. h.0.1 other ((others other).0 l)),
    ) in
    subst (λ (v : Version). (has c.only_first.result alg ≡ true) ↔ IsUnlistedIn v c.args.manifests.now alg c.args.path.now) (sym c.in-V097.is) told
