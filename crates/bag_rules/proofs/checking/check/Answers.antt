use Rattle.std.proofs.Common.{◌≡◌, ◌≤◌, ◌∙◌, ◌∷◌, [], Contains, Result, Ok, ap, length, arith, rules, subst, sym}
use Rattle.bag_rules.proofs.Words.{AreRising, Bag, CheckFault, declaration_file, has, IfOk-weaker, IsVerdict, Judged, manifest_file, Means, octets_in, Outcome, Outside, paths_in, Shown, Tag, WorkStops}
use Rattle.bag_rules.proofs.DeclaredLemmas.{ended_stops, scope_stopped, verdict_means}
use Rattle.bag_rules.proofs.LimitLemmas.{within_count}
use Rattle.bag_rules.proofs.TextStops.{done_or_memory}
use Rattle.bag_rules.proofs.TreeLemmas.{rises, same_count}
use Rattle.bag_rules.proofs.TreeUses.{not_tree, uses_kept, uses_on}
use Rattle.bag_rules.specs.Checking.{IsVerdictOnSome}
use Rattle.bag_rules.specs.OctetsRead.{Extends, IsBagBy, KeepsOnly, KnownOctets, KnowsFrom}
use Rattle.bag_rules.proofs.OctetsLemmas.{bag_by, extends_on, rises_as, some_of}
use Rattle.bag_rules.proofs.checking.check.Goals as goal

-- the verdict on each bag with the octets that were read is that on some bag of the tree
some_verdict : (shown : Shown) (found : KnownOctets) (outcome : Outcome) → AreRising (paths_in shown) → Extends (octets_in shown) found → ((bag : Bag) → IsBagBy shown found bag → IsVerdict bag outcome) → IsVerdictOnSome shown outcome
some_verdict shown found outcome rising more verdict =
    let one = bag_by shown found in
    let is = verdict one.0 one.1 in
    record { bag = one.0; is_bag = some_of more one.1; verdict = is; meaning = verdict_means one.0 outcome (rises_as one.0 one.1.files rising) is }

pub returns-in-Known : goal.returns-in-Known
returns-in-Known g c =
    let same = c.in_ok-version.ensures.reads.tree.same in
    record {
      verdict = λ bag is. c.check_in_scope.ensures.verdict bag (same ∙ is) (rw c.in-Known.is at (c.in_ok-version.ensures.scope bag is));
      some =
          let shown = g.T.Paths.shown c.args.tree.now in
          let kept = c.read_scope.new.kept in
          let read = c.in_ok-version.ensures.some c.new-kept.ensures.empty.0 in
          IfOk-weaker c.check_in_scope.result _ _
          (λ outcome on. some_verdict shown on.0 outcome c.count.ensures.rising (extends_on (octets_in shown) read.0 on.0 read.1.more on.1) (λ bag is. on.2 bag (subst (λ s. IsBagBy s on.0 bag) (sym same) is)))
          (c.check_in_scope.ensures.some read.0 (subst (λ s. KnowsFrom 0 s kept read.0) (sym same) read.1.knows) (subst (λ s. KeepsOnly s kept (λ path. path ≡ declaration_file)) (sym same) read.1.only)
          (λ alg there. ap (λ set. has set alg) (read.1.set ∙ c.new-kept.ensures.empty.1) ∙ c.tag_algorithms.ensures alg (subst (λ s. Contains (paths_in s) (manifest_file Tag alg)) same there))
          (λ bag is. rw c.in-Known.is at (read.2 bag (subst (λ s. IsBagBy s read.0 bag) same is))));
      meaning = λ bag is.
          let scope = rw c.in-Known.is at (c.in_ok-version.ensures.scope bag is) in
          IfOk-weaker c.check_in_scope.result _ _ (λ outcome verdict. verdict_means bag outcome (rises bag is c.count.ensures.rising) verdict)
          (c.check_in_scope.ensures.verdict bag (same ∙ is) scope);
      limits = λ bag is.
          let scope = rw c.in-Known.is at (c.in_ok-version.ensures.scope bag is) in
          let few : length bag.files ≤ 200000 = omega (arith, c.if-count-gt-MOST_FILES.false, c.count.ensures.files, same_count bag is) in
          within_count bag c.check_in_scope.result few (scope_stopped bag c.check_in_scope.result (c.in_ok-version.ensures.limits bag is) scope.0
          (c.check_in_scope.ensures.limits bag (same ∙ is) scope));
      tree = uses_on c.in_ok-version.ensures.reads.tree (λ e. cc e) c.check_in_scope.ensures.tree;
      unread = (
        λ many. absurd (omega (arith, many, c.if-count-gt-MOST_FILES.false, c.count.ensures.files)),
        λ few undeclared. absurd (let e = rw c.in-Known.is at (c.in_ok-version.ensures.undeclared undeclared) in cc),
      );
    }

pub returns-in-Unknown : goal.returns-in-Unknown
returns-in-Unknown g c = record {
  verdict = λ bag is. (rw c.in-Unknown.is at (c.in_ok-version.ensures.scope bag is)).0;
  some =
      let read = c.in_ok-version.ensures.some c.new-kept.ensures.empty.0 in
      some_verdict (g.T.Paths.shown c.args.tree.now) read.0 (Outside c.in-Unknown.cause) c.count.ensures.rising read.1.more (λ bag is. (rw c.in-Unknown.is at (read.2 bag is)).0);
  meaning = λ bag is. tt;
  limits = λ bag is.
      let scope = rw c.in-Unknown.is at (c.in_ok-version.ensures.scope bag is) in
      let few : length bag.files ≤ 200000 = omega (arith, c.if-count-gt-MOST_FILES.false, c.count.ensures.files, same_count bag is) in
      let outcome : Result Outcome CheckFault = Ok (Outside c.in-Unknown.cause) in
      within_count bag outcome few (ended_stops bag (c.in_ok-version.ensures.limits bag is) scope.1);
  tree = uses_kept c.in_ok-version.ensures.reads.tree (λ e. cc e) (λ e. cc e);
  unread = (
    λ many. absurd (omega (arith, many, c.if-count-gt-MOST_FILES.false, c.count.ensures.files)),
    λ few undeclared. absurd (let e = rw c.in-Unknown.is at (c.in_ok-version.ensures.undeclared undeclared) in cc),
  );
}

pub returns : goal.returns
returns g c = record {
  verdict = λ bag is.
      let scope = rw c.in-Broken.is at (c.in_ok-version.ensures.scope bag is) in
      IfOk-weaker c.judged_by_one.result _ _ (λ outcome e. subst (IsVerdict bag) (sym e) scope.0) c.judged_by_one.ensures.ok;
  some =
      let read = c.in_ok-version.ensures.some c.new-kept.ensures.empty.0 in
      IfOk-weaker c.judged_by_one.result _ _
      (λ outcome e. some_verdict (g.T.Paths.shown c.args.tree.now) read.0 outcome c.count.ensures.rising read.1.more (λ bag is. subst (IsVerdict bag) (sym e) (rw c.in-Broken.is at (read.2 bag is)).0))
      c.judged_by_one.ensures.ok;
  meaning = λ bag is.
      let scope = rw c.in-Broken.is at (c.in_ok-version.ensures.scope bag is) in
      IfOk-weaker c.judged_by_one.result _ _ (λ outcome e. subst (Means bag) (sym e) (verdict_means bag (Judged (c.in-Broken.fault ∷ [])) (rises bag is c.count.ensures.rising) scope.0)) c.judged_by_one.ensures.ok;
  limits = λ bag is.
      let scope = rw c.in-Broken.is at (c.in_ok-version.ensures.scope bag is) in
      let few : length bag.files ≤ 200000 = omega (arith, c.if-count-gt-MOST_FILES.false, c.count.ensures.files, same_count bag is) in
      within_count bag c.judged_by_one.result few (done_or_memory c.judged_by_one.result (WorkStops bag) c.judged_by_one.ensures.err (ended_stops bag (c.in_ok-version.ensures.limits bag is) scope.1));
  tree = uses_kept c.in_ok-version.ensures.reads.tree (λ e. cc e) (not_tree c.judged_by_one.result c.judged_by_one.ensures.err);
  unread = (
    λ many. absurd (omega (arith, many, c.if-count-gt-MOST_FILES.false, c.count.ensures.files)),
    λ few undeclared. (
        let none = rw c.in-Broken.is at (c.in_ok-version.ensures.undeclared undeclared) in
        search rules),
  );
}
