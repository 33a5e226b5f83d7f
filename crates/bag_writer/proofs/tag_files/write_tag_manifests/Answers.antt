use Rattle.std.proofs.Common.{◌≡◌, ◌∙◌, ◌+◌, ◌++◌, None, ap, subst, sym, arith}
use Rattle.std.proofs.lemmas.Result.{err_from_is_err_and}
use Rattle.bag_rules.proofs.Words.{Files, Tag}
use Rattle.bag_writer.proofs.TagSteps.{Writes, writes_more, writes_none, writes_part}
use Rattle.bag_writer.proofs.TagTexts.{all_manifests, both_manifests, first_manifests, last_manifests, manifests_more, manifests_same, next_manifest}
use Rattle.bag_writer.proofs.tag_files.write_tag_manifests.Goals as goal
use Rattle.bag_writer.proofs.tag_files.write_tag_manifests.Goals.{then-has+in_ok-write_tag_manifest, else-has}

pub loop-alg-init : goal.loop-alg-init
loop-alg-init g c = λ files are can. writes_none g.S.Sink.stored g.S.Sink.is_open g.S.Sink.failures g.S.Sink.sure c.args.sink.now

pub write_tag_manifest-requires : goal.write_tag_manifest-requires
write_tag_manifest-requires g c = (c.args.set, c.requires.0, c.requires.1, sym c.has.ensures ∙ c.if-has.true, c.requires.2)

pub returns-in_err-write_tag_manifest : goal.returns-in_err-write_tag_manifest
returns-in_err-write_tag_manifest g c = λ files are can.
    let error = err_from_is_err_and c.from_residual.result c.from_residual.ensures.1 in
    let i = c.loop-alg.alg-index in
    let wanted = sym c.has.ensures ∙ c.if-has.true in
    rw (error.1, error.2) (writes_part g.S.Sink.stored g.S.Sink.is_open g.S.Sink.failures g.S.Sink.sure (first_manifests Tag files c.args.set i) _ (last_manifests Tag files c.args.set (i + 1)) _ c.args.sink.now _ _ _
    (ap (λ (fs : Files). first_manifests Tag files c.args.set i ++ fs) (sym (next_manifest Tag files c.args.set i _ c.loop-alg-test.true wanted)) ∙ both_manifests Tag files c.args.set i)
    (c.loop-alg.invariant files are can) (c.in_err-write_tag_manifest.ensures c.args.set files are wanted can))

pub loop-alg-preserved : goal.loop-alg-preserved
loop-alg-preserved g c = λ files are can.
    let i = c.loop-alg.alg-index in
    let so_far = c.loop-alg.invariant files are can in
    elim c.if-has.branch [
      | then-has+in_ok-write_tag_manifest w ↦
          let wanted = sym c.has.ensures ∙ w.if-has.true in
          rw w.sink-is (writes_more g.S.Sink.stored g.S.Sink.is_open g.S.Sink.failures g.S.Sink.sure (first_manifests Tag files c.args.set i) _ _ c.args.sink.now _ _ (manifests_more Tag files c.args.set i _ c.loop-alg-test.true wanted) so_far (w.in_ok-write_tag_manifest.ensures c.args.set files are wanted can))
      | else-has w ↦
          let other = sym c.has.ensures ∙ w.if-has.false in
          rw w.sink-is (subst (λ (fs : Files). Writes g.S.Sink.stored g.S.Sink.is_open g.S.Sink.failures g.S.Sink.sure fs c.args.sink.now c.loop-alg.sink None) (sym (manifests_same Tag files c.args.set i _ c.loop-alg-test.true other)) so_far)
    ]

pub returns : goal.returns
returns g c = λ files are can.
    let all : c.loop-alg.alg-index ≡ 4 = omega arith in
    subst (λ (fs : Files). Writes g.S.Sink.stored g.S.Sink.is_open g.S.Sink.failures g.S.Sink.sure fs c.args.sink.now c.loop-alg.sink None) (all_manifests Tag files c.args.set c.loop-alg.alg-index all) (c.loop-alg.invariant files are can)
