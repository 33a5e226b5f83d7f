use Rattle.std.proofs.Common.{◌≡◌, ◌≢◌, ◌∙◌, ◌++◌, ◌∷◌, [], true, false, None, Some, arith, ap, subst, sym, rules, length}
use Rattle.bag_rules.proofs.Words.{digest_in, IsOtherDigest, listed_digest, name_in, same_Some, WrongDigest}
use Rattle.bag_rules.proofs.EachLemmas.{each_all, each_more}
use Rattle.bag_rules.proofs.FileFaultLemmas.{adds_wrong, none_wrong}
use Rattle.bag_rules.proofs.file_faults.add_other_digests.Goals as goal
use Rattle.bag_rules.proofs.file_faults.add_other_digests.Goals.{in-Some+then-not-contains+in_ok-path+in_ok-push, in-Some+else-not-contains, in_default}

pub loop-manifest-preserved : goal.loop-manifest-preserved
loop-manifest-preserved c =
    let listing = c.manifest-item.result in
    let path = c.args.want.now.path.now in
    let digests = c.args.digests.now in
    let old = c.loop-manifest.faults.items in
    each_more c.args.want.now.manifests.now c.loop-manifest.manifest-index listing (IsOtherDigest path digests) _ _ _ c.loop-manifest-test.true c.manifest-item.is c.loop-manifest.invariant
    (elim c.match-get.branch [
      | in-Some+then-not-contains+in_ok-path+in_ok-push w ↦
          let digest = w.in-Some.digest in
          let some : listed_digest listing.pairs path ≡ Some digest = sym c.get.ensures.listed ∙ w.in-Some.is in
          let other : digest_in digests listing.alg ≢ Some digest = λ h. (let k : true ≡ false = sym (w.contains.ensures.1 (ap (digest_in digests) w.in-Some.ensures.by_alg ∙ h)) ∙ w.if-not-contains.true in cc) in
          let own : w.in_ok-path.path ≡ path = search rules in
          rw w.faults-is (adds_wrong _ _ listing path digests digest some other (w.in_ok-push.ensures.items ∙ ap (λ f. old ++ f ∷ []) (let k : WrongDigest w.name-manifest.result w.in_ok-path.path ≡ WrongDigest (name_in listing) path = cc in k)))
      | in-Some+else-not-contains w ↦ rw w.faults-is (none_wrong old listing path digests (λ digest some.
          let same : w.in-Some.digest ≡ digest = same_Some w.in-Some.digest digest (sym w.in-Some.is ∙ c.get.ensures.listed ∙ some) in
          subst (λ d. digest_in digests listing.alg ≡ Some d) same (ap (digest_in digests) (sym w.in-Some.ensures.by_alg) ∙ w.contains.ensures.0 w.if-not-contains.false)))
      | in_default w ↦ rw w.faults-is (none_wrong old listing path digests (λ digest some.
          let none : c.get.result ≡ None = search rules in
          (let k : None ≡ Some digest = sym none ∙ c.get.ensures.listed ∙ some in cc)))
    ])

pub returns : goal.returns
returns c =
    let n : c.loop-manifest.manifest-index ≡ length c.args.want.now.manifests.now = omega arith in
    each_all c.args.want.now.manifests.now c.loop-manifest.manifest-index (IsOtherDigest c.args.want.now.path.now c.args.digests.now) _ _ n c.loop-manifest.invariant
