use Rattle.std.proofs.Common.{◌≡◌, ◌∙◌, ◌+◌, ◌++◌, None, ap, subst, sym, arith}
use Rattle.std.proofs.lemmas.Result.{err_from_is_err_and}
use Rattle.bag_rules.proofs.Words.{Files, Payload}
use Rattle.bag_writer.specs.TagWriting.{AddsItems}
use Rattle.bag_writer.proofs.TagSteps.{Writes, adds_more, adds_none, writes_more, writes_none, writes_part}
use Rattle.bag_writer.proofs.TagTexts.{all_manifests, both_manifests, first_manifests, last_manifests, manifests_more, manifests_same, next_manifest}
use Rattle.bag_writer.proofs.tag_files.write_payload_manifests.Goals as goal
use Rattle.bag_writer.proofs.tag_files.write_payload_manifests.Goals.{then-has+in_ok-write_payload_manifest, else-has}

pub loop-alg-init : goal.loop-alg-init
loop-alg-init g c = λ payload are can. (writes_none g.S.Sink.stored g.S.Sink.is_open g.S.Sink.failures g.S.Sink.sure c.args.sink.now, adds_none c.args.set c.args.listed.now.items)

pub write_payload_manifest-requires : goal.write_payload_manifest-requires
write_payload_manifest-requires g c = (c.requires.0, c.requires.1, sym c.has.ensures ∙ c.if-has.true, c.requires.2)

pub returns-in_err-write_payload_manifest-clause-written : goal.returns-in_err-write_payload_manifest-clause-written
returns-in_err-write_payload_manifest-clause-written g c = λ payload are can.
    let error = err_from_is_err_and c.from_residual.result c.from_residual.ensures.1 in
    let i = c.loop-alg.alg-index in
    let wanted = sym c.has.ensures ∙ c.if-has.true in
    rw (error.1, error.2) (writes_part g.S.Sink.stored g.S.Sink.is_open g.S.Sink.failures g.S.Sink.sure (first_manifests Payload payload c.args.set i) _ (last_manifests Payload payload c.args.set (i + 1)) _ c.args.sink.now _ _ _
    (ap (λ (fs : Files). first_manifests Payload payload c.args.set i ++ fs) (sym (next_manifest Payload payload c.args.set i _ c.loop-alg-test.true wanted)) ∙ both_manifests Payload payload c.args.set i)
    (c.loop-alg.invariant payload are can).0 (c.in_err-write_payload_manifest.ensures.written payload are wanted can))

pub loop-alg-preserved : goal.loop-alg-preserved
loop-alg-preserved g c = λ payload are can.
    let i = c.loop-alg.alg-index in
    let so_far = c.loop-alg.invariant payload are can in
    elim c.if-has.branch [
      | then-has+in_ok-write_payload_manifest w ↦
          let wanted = sym c.has.ensures ∙ w.if-has.true in
          let more = manifests_more Payload payload c.args.set i _ c.loop-alg-test.true wanted in
          rw (w.sink-is, w.listed-is) (
            writes_more g.S.Sink.stored g.S.Sink.is_open g.S.Sink.failures g.S.Sink.sure (first_manifests Payload payload c.args.set i) _ _ c.args.sink.now _ _ more so_far.0 (w.in_ok-write_payload_manifest.ensures.written payload are wanted can),
            adds_more c.args.set (first_manifests Payload payload c.args.set i) _ _ _ _ _ more so_far.1 (w.in_ok-write_payload_manifest.ensures.listed payload are wanted can),
          )
      | else-has w ↦
          let same = sym (manifests_same Payload payload c.args.set i _ c.loop-alg-test.true (sym c.has.ensures ∙ w.if-has.false)) in
          rw (w.sink-is, w.listed-is) (
            subst (λ (fs : Files). Writes g.S.Sink.stored g.S.Sink.is_open g.S.Sink.failures g.S.Sink.sure fs c.args.sink.now c.loop-alg.sink None) same so_far.0,
            subst (λ (fs : Files). AddsItems c.args.set fs c.args.listed.now.items c.loop-alg.listed.items) same so_far.1,
          )
    ]

pub returns-clause-written : goal.returns-clause-written
returns-clause-written g c = λ payload are can.
    let all : c.loop-alg.alg-index ≡ 4 = omega arith in
    subst (λ (fs : Files). Writes g.S.Sink.stored g.S.Sink.is_open g.S.Sink.failures g.S.Sink.sure fs c.args.sink.now c.loop-alg.sink None) (all_manifests Payload payload c.args.set c.loop-alg.alg-index all) (c.loop-alg.invariant payload are can).0

pub returns-clause-listed : goal.returns-clause-listed
returns-clause-listed g c = λ payload are can.
    let all : c.loop-alg.alg-index ≡ 4 = omega arith in
    subst (λ (fs : Files). AddsItems c.args.set fs c.args.listed.now.items c.loop-alg.listed.items) (all_manifests Payload payload c.args.set c.loop-alg.alg-index all) (c.loop-alg.invariant payload are can).1
