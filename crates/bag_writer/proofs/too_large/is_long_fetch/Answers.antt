use Rattle.std.proofs.Common.{◌+◌, List, ap, arith, length, refl}
use Rattle.std.proofs.lemmas.List.{take_all}
use Rattle.std.proofs.lemmas.List.Sums.{sum_by-take-le}
use Rattle.std.specs.List.{sum_by}
use Rattle.bag_rules.proofs.Words.{slice_get_read}
use Rattle.bag_writer.specs.declared.spec.Hole.{Hole}
use Rattle.bag_writer.proofs.EmptyBags.{fetch_long, long_fetch}
use Rattle.bag_writer.proofs.MeasuredTags.{hole_line, holes_more}
use Rattle.bag_writer.proofs.too_large.is_long_fetch.Goals as goal

pub loop-hole-init : goal.loop-hole-init
loop-hole-init c = refl

pub returns-then-line-left : goal.returns-then-line-left
returns-then-line-left c = λ paths.
    let holes = c.args.holes.now in
    let there = slice_get_read holes (length holes) c.loop-hole.hole-index c.hole-item.result refl c.loop-hole-test.true c.hole-item.is in
    let more = holes_more holes c.loop-hole.hole-index c.hole-item.result there in
    let some = sum_by-take-le hole_line holes (c.loop-hole.hole-index + 1) in
    (λ _. fetch_long paths holes (omega (arith, more, some, c.loop-hole.invariant, c.if-line-left.true, c.saturating_add-line.ensures, c.len.ensures, c.spelled_length.ensures.exact)), λ _. refl)

pub loop-hole-preserved : goal.loop-hole-preserved
loop-hole-preserved c =
    let holes = c.args.holes.now in
    let there = slice_get_read holes (length holes) c.loop-hole.hole-index c.hole-item.result refl c.loop-hole-test.true c.hole-item.is in
    let more = holes_more holes c.loop-hole.hole-index c.hole-item.result there in
    omega (arith, more, c.loop-hole.invariant, c.if-line-left.false, c.saturating_add-line.ensures, c.len.ensures, c.spelled_length.ensures.exact)

pub returns : goal.returns
returns c = λ paths.
    let holes = c.args.holes.now in
    let whole = ap (λ (hs : List Hole). sum_by hole_line hs) (take_all c.loop-hole.hole-index holes (omega (arith, c.loop-hole-test.false))) in
    (λ never. absurd (cc), λ long. let less = long_fetch paths holes long in absurd (omega (arith, less, whole, c.loop-hole.invariant)))
