use Rattle.std.proofs.Common.{◌∙◌, ◌+◌, List, ℕ, ap, arith, refl, sym}
use Rattle.std.proofs.lemmas.List.{take_all}
use Rattle.std.specs.List.{filter}
use Rattle.bag_path.specs.Paths.{is_payload}
use Rattle.bag_rules.specs.Trees.{paths_in}
use Rattle.bag_writer.specs.Writing.{payload_paths}
use Rattle.bag_writer.proofs.KeptPaths.{left_step}
use Rattle.bag_writer.proofs.MeasuredTags.{empty_measured, first_lines, lines, lines_more}
use Rattle.bag_writer.proofs.too_large.is_long_manifest.Goals as goal

pub loop-i-init : goal.loop-i-init
loop-i-init g c = refl

pub loop-i-preserved-then-not-is_payload : goal.loop-i-preserved-then-not-is_payload
loop-i-preserved-then-not-is_payload g c =
    let paths = paths_in (g.P.Paths.shown c.args.tree.now) in
    let same = ap (lines c.args.alg) (left_step is_payload paths c.loop-i.i c.path-path.result.now c.path-path.ensures (sym c.is_payload.ensures ∙ c.if-not-is_payload.true)) in
    omega (arith, same, c.loop-i.invariant)

pub returns-then-line-left : goal.returns-then-line-left
returns-then-line-left g c =
    let paths = paths_in (g.P.Paths.shown c.args.tree.now) in
    let more = lines_more c.args.alg paths c.loop-i.i c.path-path.result.now c.path-path.ensures (sym c.is_payload.ensures ∙ c.if-not-is_payload.false) in
    let some = first_lines c.args.alg paths (c.loop-i.i + 1) in
    let all = empty_measured c.args.alg (payload_paths (g.P.Paths.shown c.args.tree.now)) in
    (λ _. omega (arith, more, some, all, c.loop-i.invariant, c.if-line-left.true, c.len.ensures, c.spelled_length.ensures.exact), λ _. refl)

pub loop-i-preserved : goal.loop-i-preserved
loop-i-preserved g c =
    let paths = paths_in (g.P.Paths.shown c.args.tree.now) in
    let more = lines_more c.args.alg paths c.loop-i.i c.path-path.result.now c.path-path.ensures (sym c.is_payload.ensures ∙ c.if-not-is_payload.false) in
    omega (arith, more, c.loop-i.invariant, c.if-line-left.false, c.len.ensures, c.spelled_length.ensures.exact)

pub returns : goal.returns
returns g c =
    let paths = paths_in (g.P.Paths.shown c.args.tree.now) in
    let whole = ap (λ (ps : List (List ℕ)). lines c.args.alg (filter is_payload ps)) (take_all c.loop-i.i paths (omega (arith, c.loop-i-test.false, c.count-i-end.ensures.files))) in
    let all = empty_measured c.args.alg (payload_paths (g.P.Paths.shown c.args.tree.now)) in
    (λ never. absurd (cc), λ long. absurd (omega (arith, long, all, whole, c.loop-i.invariant)))
