use Rattle.std.proofs.Common.{◌≡◌, ◌∙◌, ◌<◌, ◌+◌, length, take, true, false, cond, ap, sym, refl, arith}
use Rattle.std.specs.List.{filter}
use Rattle.std.proofs.lemmas.List.{take_all}
use Rattle.std.proofs.lemmas.List.Filters.{length-filter_more}
use Rattle.bag_path.specs.Paths.{is_payload}
use Rattle.bag_rules.specs.Trees.{paths_in}
use Rattle.bag_rules.proofs.Words.{get_or_from_slice_get}
use Rattle.bag_writer.proofs.writing.payload_count.Goals as goal
use Rattle.bag_writer.proofs.writing.payload_count.Goals.{then-is_payload, else-is_payload}

pub loop-i-init : goal.loop-i-init
loop-i-init g c = (refl, omega arith)

pub overflow_add-count : goal.overflow_add-count
overflow_add-count g c = omega (arith, c.loop-i.invariant.1, c.loop-i-test.true, c.count-i-end.type_inv)

pub loop-i-preserved : goal.loop-i-preserved
loop-i-preserved g c =
    let paths = paths_in (g.P.Paths.shown c.args.paths.now) in
    let path = c.path.result.now in
    let within : c.loop-i.i < length paths = omega (arith, c.loop-i-test.true, c.count-i-end.ensures.files) in
    let here = get_or_from_slice_get paths c.loop-i.i path path c.path.ensures in
    let more : length (filter is_payload (take (c.loop-i.i + 1) paths)) ≡ length (filter is_payload (take c.loop-i.i paths)) + cond (is_payload path) 1 0 =
    length-filter_more is_payload paths c.loop-i.i path within ∙ ap (λ p. length (filter is_payload (take c.loop-i.i paths)) + cond (is_payload p) 1 0) here in
    elim c.if-is_payload.branch [
      | then-is_payload w ↦ (
          let yes : is_payload path ≡ true = sym c.is_payload.ensures ∙ w.if-is_payload.true in
          let one = more ∙ ap (λ b. length (filter is_payload (take c.loop-i.i paths)) + cond b 1 0) yes in
          (omega (arith, one, w.count-is, c.loop-i.invariant.0), omega (arith, w.count-is, c.loop-i.invariant.1))
          )
      | else-is_payload w ↦ (
          let no : is_payload path ≡ false = sym c.is_payload.ensures ∙ w.if-is_payload.false in
          let none = more ∙ ap (λ b. length (filter is_payload (take c.loop-i.i paths)) + cond b 1 0) no in
          (omega (arith, none, w.count-is, c.loop-i.invariant.0), omega (arith, w.count-is, c.loop-i.invariant.1))
          )
    ]

pub returns-clause-count : goal.returns-clause-count
returns-clause-count g c =
    let paths = paths_in (g.P.Paths.shown c.args.paths.now) in
    c.loop-i.invariant.0 ∙ ap (λ ps. length (filter is_payload ps)) (take_all c.loop-i.i paths (omega (arith, c.loop-i-test.false, c.count-i-end.ensures.files)))
