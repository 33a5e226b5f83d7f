use Rattle.std.proofs.Common.{◌≡◌, ◌∙◌, ap, false, true, refl, rules, slice_get, subst, sym}
use Rattle.std.specs.Bool.{then_some}
use Rattle.bag_rules.specs.FileBatchInside.{IsSumsOf}
use Rattle.bag_rules.proofs.AddsLemmas.{adds_none}
use Rattle.bag_rules.proofs.BatchLemmas.{unread_tag}
use Rattle.bag_rules.proofs.FileFaultLemmas.{no_faults_by}
use Rattle.bag_rules.proofs.TreeLemmas.{path_shown}
use Rattle.bag_rules.proofs.Words.{Adds, given_at, is_payload, IsFaultIn, lists_by, payload_length, same_Some}
use Rattle.bag_rules.proofs.file_faults.add_faults_at.Goals as goal

pub returns-in-None : goal.returns-in-None
returns-in-None g c = λ shown paths are path octets at.
    let wants = c.args.wants.now in
    let unread = subst (IsSumsOf wants path octets) c.in-None.is (c.sums.ensures shown wants path octets are at) in
    let other : is_payload path ≡ false = unread_tag wants path unread in (
      rw other refl,
      adds_none c.args.faults.now.items (IsFaultIn wants path octets) (no_faults_by wants.version wants.manifests.now (given_at wants.lengths path) path octets unread (c.requires.ready.1 path other)),
    )

pub returns : goal.returns
returns g c = λ shown paths are path octets at.
    let wants = c.args.wants.now in
    let own = c.in_ok-path.path in
    let here : own ≡ path = (let k : own ≡ c.path.result.now = search rules in k ∙ same_Some c.path.result.now path (sym c.path.ensures ∙ ap (λ ps. slice_get ps c.args.i) (sym paths) ∙ path_shown at)) in
    let found = subst (IsSumsOf wants path octets) c.in-Some.is (c.sums.ensures shown wants path octets are at) in
    let sums = found.sums.sums in
    let added = c.in_ok-add_faults_of-in-Some.ensures found.set octets sums
    (λ alg listed. found.covers alg (subst (λ p. lists_by wants.manifests.now p alg ≡ true) (c.of.ensures.path_is ∙ here) (subst (λ ms. lists_by ms c.of.result.path.now alg ≡ true) c.of.ensures.manifests listed))) in (
      c.then_some.ensures ∙ ap (λ b. then_some b c.in-Some.sums.length) c.is_payload.ensures ∙ ap (then_some (is_payload own)) sums.sums.0 ∙ ap (λ p. payload_length p octets) here,
      subst (λ p. Adds c.args.faults.now.items c.add_faults_of.new.faults.items (IsFaultIn wants p octets)) here
          (rw (← c.of.ensures.manifests, ← c.of.ensures.given, ← c.of.ensures.path_is) added),
    )
