use Rattle.std.proofs.Common.{◌≡◌, ◌∙◌, Some, slice_get, below_more, true, sym, ap, arith, subst}
use Rattle.bag_rules.proofs.Words.{Alg, has, is_alg, manifest_file, or_left, or_right, paths_in, same_Some, slice_get_within, Tag}
use Rattle.bag_tags.specs.declared.name.TagName.TheVariants.{TagManifest}
use Rattle.bag_rules.proofs.AlgLemmas.{itself}
use Rattle.bag_rules.proofs.RisingPaths.{place_of}
use Rattle.bag_rules.proofs.checking.tag_algorithms.Goals as goal
use Rattle.bag_rules.proofs.checking.tag_algorithms.Goals.{in-TagManifest, in_default}

pub loop-i-preserved : goal.loop-i-preserved
loop-i-preserved g c =
    let paths = paths_in (g.T.Paths.shown c.args.tree.now) in
    let named = λ (alg : Alg) (at : slice_get paths c.loop-i.i ≡ Some (manifest_file Tag alg)). c.of.ensures.only (TagManifest alg) (same_Some c.path.result.now (manifest_file Tag alg) (sym c.path.ensures ∙ at)) in
    record {
      all = c.loop-i.invariant.all;
      covers = below_more (λ k. (alg : Alg) → slice_get paths k ≡ Some (manifest_file Tag alg) → has c.match-of.set alg ≡ true) c.loop-i.i
          (λ k below alg at. elim c.match-of.branch [
            | in-TagManifest w ↦ ap (λ s. has s alg) w.set-is ∙ w.with-set.ensures alg ∙ or_right (is_alg w.in-TagManifest.alg alg) (has c.loop-i.set alg) (c.loop-i.invariant.covers k below alg at)
            | in_default w ↦ ap (λ s. has s alg) w.set-is ∙ c.loop-i.invariant.covers k below alg at
          ])
          (λ alg at. elim c.match-of.branch [
            | in-TagManifest w ↦
                let same : w.in-TagManifest.alg ≡ alg = (let is = named alg at in let e = w.in-TagManifest.is in cc) in
                ap (λ s. has s alg) w.set-is ∙ w.with-set.ensures alg ∙ or_left (is_alg w.in-TagManifest.alg alg) (has c.loop-i.set alg) (subst (λ a. is_alg a alg ≡ true) (sym same) (itself alg))
            | in_default w ↦ absurd (w.in_default.not-TagManifest alg (named alg at))
          ]);
    }

pub returns : goal.returns
returns g c = λ alg there.
    let paths = paths_in (g.T.Paths.shown c.args.tree.now) in
    let place = place_of paths (manifest_file Tag alg) there in
    let inside = slice_get_within paths place.0 (manifest_file Tag alg) place.1 in
    c.loop-i.invariant.covers place.0 (omega (arith, inside, c.loop-i.invariant.all)) alg place.1
