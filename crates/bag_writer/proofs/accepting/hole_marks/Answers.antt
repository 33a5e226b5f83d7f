use Rattle.std.proofs.Common.{◌∙◌, ◌++◌, ◌∷◌, [], List, Some, ap, arith, length, drop, subst, sym, take}
use Rattle.std.proofs.lemmas.Option.{slice_get-get_or, slice_get_within}
use Rattle.std.proofs.lemmas.List.{take_more}
use Rattle.bag_rules.specs.Trees.{paths_in}
use Rattle.bag_writer.specs.Accepting.{AreMarks}
use Rattle.bag_writer.specs.Writing.{payload_paths}
use Rattle.bag_writer.specs.declared.spec.Hole.{Hole}
use Rattle.bag_writer.proofs.BadHoles.{is_bad, none_bad_more, not_bad}
use Rattle.bag_writer.proofs.HoleMarks.{nothing_marked, written_back}
use Rattle.bag_writer.proofs.accepting.hole_marks.Goals as goal

pub loop-i-init : goal.loop-i-init
loop-i-init g c = (
  nothing_marked _ _ c.args.holes.now (paths_in (g.P.Paths.shown c.args.tree.now)) (c.in_ok-marks.ensures.items_if_clones_equal (λ y same. same)) c.count.ensures.files,
  λ j below bad. absurd (omega (arith, below)),
)

pub returns-then-not-mark-clause-refused : goal.returns-then-not-mark-clause-refused
returns-then-not-mark-clause-refused g c =
    let here = slice_get-get_or c.args.holes.now c.loop-i.i c.index-holes-i.result c.loop-i-test.true ∙ ap Some (sym c.index-holes-i.is) in (
      is_bad (payload_paths (g.P.Paths.shown c.args.tree.now)) c.args.holes.now c.loop-i.i c.index-holes-i.result here (c.if-not-mark.ensures (take c.loop-i.i c.args.holes.now) (c.deref_mut.ensures.value ∙ c.loop-i.invariant.0)),
      c.loop-i.invariant.1,
    )

pub loop-i-preserved : goal.loop-i-preserved
loop-i-preserved g c =
    let paths = paths_in (g.P.Paths.shown c.args.tree.now) in
    let payload = payload_paths (g.P.Paths.shown c.args.tree.now) in
    let holes = c.args.holes.now in
    let here = slice_get-get_or holes c.loop-i.i c.index-holes-i.result c.loop-i-test.true ∙ ap Some (sym c.index-holes-i.is) in
    let marked = c.if-not-mark.ensures (take c.loop-i.i holes) (c.deref_mut.ensures.value ∙ c.loop-i.invariant.0) in
    let more = take_more holes c.loop-i.i c.index-holes-i.result c.loop-i-test.true ∙ ap (λ (hole : Hole). take c.loop-i.i holes ++ hole ∷ []) (sym c.index-holes-i.is) in (
      written_back c.mark.new.marks (drop (length c.mark.new.marks) c.loop-i.marks.items) c.loop-i.marks.len (omega (arith, c.deref_mut.ensures.len, c.mark.auto.marks))
          ∙ subst (λ (done : List Hole). AreMarks paths done c.mark.new.marks) (sym more) marked.1,
      none_bad_more payload holes c.loop-i.i c.loop-i.invariant.1 (not_bad payload holes c.loop-i.i c.index-holes-i.result here marked.0),
    )

pub returns-clause-good : goal.returns-clause-good
returns-clause-good g c = λ j bad.
    c.loop-i.invariant.1 j (omega (arith, slice_get_within c.args.holes.now j bad.0 bad.1)) bad
