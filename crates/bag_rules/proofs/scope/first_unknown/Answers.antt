use Rattle.std.proofs.Common.{◌≡◌, ◌∙◌, slice_get, sym, ap, subst, arith, inl, inr}
use Rattle.bag_rules.proofs.Words.{cases_lt, IsUnknownManifest, paths_in}
use Rattle.bag_rules.proofs.PlaceLemmas.{path_here}
use Rattle.bag_rules.proofs.scope.first_unknown.Goals as goal

pub loop-i-init : goal.loop-i-init
loop-i-init g c = record {
  none = λ i path word below there unknown. omega (arith, below);
  all = c.count-i-end.ensures.files;
}

pub returns-in-Some : goal.returns-in-Some
returns-in-Some g c = record {
  place = c.loop-i.i;
  path = c.path.result.now;
  there = c.path.ensures;
  unknown = subst (λ word. IsUnknownManifest c.path.result.now word) (sym c.in_ok-from_str.ensures.ok) c.in-Some.ensures;
  before = c.loop-i.invariant.none;
}

pub loop-i-preserved : goal.loop-i-preserved
loop-i-preserved g c = record {
  none = λ i path word below there unknown. elim (cases_lt i c.loop-i.i) [
    | inl before ↦ c.loop-i.invariant.none i path word before there unknown
    | inr here ↦
        let same : i ≡ c.loop-i.i = omega (arith, below, here) in
        let own : c.path.result.now ≡ path = path_here _ _ path c.path.ensures (ap (slice_get (paths_in (g.T.Paths.shown c.args.tree.now))) (sym same) ∙ there) in
        c.in_default.ensures word (subst (λ p. IsUnknownManifest p word) (sym own) unknown)
  ];
  all = c.loop-i.invariant.all;
}

pub returns : goal.returns
returns g c = λ i path word below there unknown. c.loop-i.invariant.none i path word (omega (arith, below, c.loop-i.invariant.all, c.loop-i-test.false)) there unknown
