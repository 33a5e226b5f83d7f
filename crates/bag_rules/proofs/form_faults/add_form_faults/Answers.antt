use Rattle.std.proofs.Common.{◌≡◌, ◌∙◌, ◌++◌, ◌∷◌, [], List, true, false, sym, subst}
use Rattle.bag_rules.proofs.Words.{Adds, HasFaultOf, IsUnlistedManifest, Listing, manifest_file, NoManifest, NoPayloadDir, on_ok_weaker, paths_in, Payload}
use Rattle.bag_rules.proofs.AddsLemmas.{adds_kinds}
use Rattle.bag_rules.proofs.FormLemmas.{dir_there, dir_away, manifest_there, manifest_away, all_unlisted}
use Rattle.bag_rules.proofs.OctetsLemmas.{shows_as, there_as}
use Rattle.bag_rules.proofs.form_faults.add_form_faults.Goals as goal
use Rattle.bag_rules.proofs.form_faults.add_form_faults.Goals.{then-not-has_payload_dir+in_ok-push, else-not-has_payload_dir, then-not-has_payload_manifest+in_ok-push-2, else-not-has_payload_manifest}

pub returns : goal.returns
returns g c = λ bag is are. on_ok_weaker c.add_oxum_faults.result (λ added.
    let paths = paths_in (g.T.Paths.shown c.args.tree.now) in
    let old = c.args.faults.now.items in
    let first = c.if-not-has_payload_dir.faults.items in
    let second = c.if-not-has_payload_manifest.faults.items in
    let third = c.add_unlisted_manifests.new.faults.items in
    let dir : Adds old first (HasFaultOf bag (3 ∷ [])) = elim c.if-not-has_payload_dir.branch [
      | then-not-has_payload_dir+in_ok-push w ↦
          let more : w.push.new.self.items ≡ old ++ NoPayloadDir ∷ [] = w.in_ok-push.ensures.items in
          dir_away bag old first (is.payload_dir ∙ sym c.has_payload_dir.ensures.dir ∙ w.if-not-has_payload_dir.true) cc
      | else-not-has_payload_dir w ↦ dir_there bag old first (is.payload_dir ∙ sym c.has_payload_dir.ensures.dir ∙ w.if-not-has_payload_dir.false) cc
    ] in
    let manifest : Adds first second (HasFaultOf bag (4 ∷ [])) = elim c.if-not-has_payload_manifest.branch [
      | then-not-has_payload_manifest+in_ok-push-2 w ↦
          let more : w.push-then-not-has_payload_manifest.new.self.items ≡ first ++ NoManifest ∷ [] = w.in_ok-push-2.ensures.items in
          manifest_away bag first second
          (λ alg there. let k : false ≡ true = sym w.if-not-has_payload_manifest.true ∙ c.has_payload_manifest.ensures.1 (alg, shows_as bag is (manifest_file Payload alg) there) in cc) cc
      | else-not-has_payload_manifest w ↦
          let some = c.has_payload_manifest.ensures.0 w.if-not-has_payload_manifest.false in
          manifest_there bag first second some.0 (there_as bag is (manifest_file Payload some.0) some.1) cc
    ] in
    let unlisted : Adds second third (HasFaultOf bag (6 ∷ [])) = all_unlisted bag c.args.texts.now are paths second third (λ path. (there_as bag is path, shows_as bag is path))
    (subst (λ (ls : List Listing). Adds second third (IsUnlistedManifest paths ls)) c.deref.ensures.value c.in_ok-add_unlisted_manifests.ensures) in
    adds_kinds bag (3 ∷ 4 ∷ 6 ∷ []) (7 ∷ 8 ∷ []) old third _
    (adds_kinds bag (3 ∷ 4 ∷ []) (6 ∷ []) old second third (adds_kinds bag (3 ∷ []) (4 ∷ []) old first second dir manifest) unlisted)
    added)
    (c.add_oxum_faults.ensures bag are)
