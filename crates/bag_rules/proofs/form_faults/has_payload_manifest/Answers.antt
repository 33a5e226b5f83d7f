use Rattle.std.proofs.Common.{◌≡◌, ◌≢◌, ◌∙◌, ℕ, List, Some, slice_get, below_more, arith, sym, refl, false, true}
use Rattle.bag_rules.proofs.Words.{Alg, manifest_file, paths_in, Payload, PayloadManifest, same_Some, slice_get_within}
use Rattle.bag_rules.proofs.RisingPaths.{place_of}
use Rattle.bag_rules.proofs.form_faults.has_payload_manifest.Goals as goal

pub loop-i-preserved : goal.loop-i-preserved
loop-i-preserved g c = record {
  all = c.loop-i.invariant.all;
  none = below_more (λ k. (path : List ℕ) (alg : Alg) → slice_get (paths_in (g.T.Paths.shown c.args.tree.now)) k ≡ Some path → path ≢ manifest_file Payload alg) c.loop-i.i
      c.loop-i.invariant.none
      (λ path alg at is. c.in_default.not-PayloadManifest alg (c.of.ensures.only (PayloadManifest alg) (same_Some c.path.result.now path (sym c.path.ensures ∙ at) ∙ is)));
}

pub returns : goal.returns
returns g c = (
  λ h. absurd (let k : false ≡ true = h in cc),
  λ h.
      let place = place_of (paths_in (g.T.Paths.shown c.args.tree.now)) (manifest_file Payload h.0) h.1 in
      let inside = slice_get_within (paths_in (g.T.Paths.shown c.args.tree.now)) place.0 (manifest_file Payload h.0) place.1 in
      absurd (c.loop-i.invariant.none place.0 (omega (arith, inside, c.loop-i.invariant.all)) (manifest_file Payload h.0) h.0 place.1 refl),
)
