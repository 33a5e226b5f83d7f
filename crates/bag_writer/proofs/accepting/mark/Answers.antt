use Rattle.std.proofs.Common.{◌≡◌, ◌∙◌, ℕ, List, Bool, Some, false, true, Contains, ap, arith, inl, inr, slice_get, subst, sym}
use Rattle.std.proofs.Math.ListN.{set}
use Rattle.std.proofs.lemmas.Bool.{false≢true}
use Rattle.std.proofs.lemmas.Option.{slice_get_within}
use Rattle.bag_path.specs.Paths.{is_payload}
use Rattle.bag_rules.specs.Trees.{paths_in}
use Rattle.bag_tags.specs.FetchEntries.{IsUrl}
use Rattle.bag_writer.proofs.HoleMarks.{mark_is, marked}
use Rattle.bag_writer.proofs.KeptPaths.{not_kept, not_there, passes_kept}
use Rattle.bag_writer.proofs.accepting.mark.Goals.{then-not-is_payload-via-then-not-is_payload, then-not-is_payload-via-else-not-is_payload+then-not-is_url}
use Rattle.bag_writer.proofs.accepting.mark.Goals as goal

pub returns-then-not-is_payload : goal.returns-then-not-is_payload
returns-then-not-is_payload g c = elim c.then-not-is_payload.branch [
  | then-not-is_payload-via-then-not-is_payload w ↦ λ before are. inl (not_kept is_payload (paths_in (g.P.Paths.shown c.args.tree.now)) c.args.hole.now.path (sym c.is_payload.ensures ∙ w.if-not-is_payload.true))
  | then-not-is_payload-via-else-not-is_payload+then-not-is_url w ↦ λ before are. inr (inl (λ url. false≢true (sym w.if-not-is_url.true ∙ w.is_url.ensures.1 (subst IsUrl (sym w.as_bytes.ensures.value) url))))
]

pub bounds-marks-i : goal.bounds-marks-i
bounds-marks-i g c = omega (arith, c.requires, slice_get_within (paths_in (g.P.Paths.shown c.args.tree.now)) c.in-Some.i c.as_str.result.now c.in-Some.ensures.found)

pub bounds-marks-i-2 : goal.bounds-marks-i-2
bounds-marks-i-2 g c = omega (arith, c.requires, slice_get_within (paths_in (g.P.Paths.shown c.args.tree.now)) c.in-Some.i c.as_str.result.now c.in-Some.ensures.found)

pub returns-in_default : goal.returns-in_default
returns-in_default g c = λ before are.
    let paths = paths_in (g.P.Paths.shown c.args.tree.now) in
    inl (not_there is_payload paths c.args.hole.now.path (subst (λ (path : List ℕ). ¬ Contains paths path) c.as_str.ensures.text c.in_default.ensures.absent))

pub returns-then-marks-i : goal.returns-then-marks-i
returns-then-marks-i g c = λ before are.
    let paths = paths_in (g.P.Paths.shown c.args.tree.now) in
    let here : slice_get paths c.in-Some.i ≡ Some c.args.hole.now.path = c.in-Some.ensures.found ∙ ap Some c.as_str.ensures.text in
    inr (inr (sym (mark_is c.args.marks.now before paths c.in-Some.i c.args.hole.now.path false are here) ∙ c.if-marks-i.true))

pub returns : goal.returns
returns g c = λ before are.
    let paths = paths_in (g.P.Paths.shown c.args.tree.now) in
    let path = c.args.hole.now.path in
    let here : slice_get paths c.in-Some.i ≡ Some path = c.in-Some.ensures.found ∙ ap Some c.as_str.ensures.text in (
      record {
        there = passes_kept is_payload paths c.in-Some.i path here (sym c.is_payload.ensures ∙ c.if-not-is_payload.false);
        is_url = subst IsUrl c.as_bytes.ensures.value (c.is_url.ensures.0 c.if-not-is_url.false);
        new = sym (mark_is c.args.marks.now before paths c.in-Some.i path false are here) ∙ c.if-marks-i.false;
      },
      ap (λ (marks : List Bool). set marks c.in-Some.i true) are
          ∙ marked before c.args.hole.now paths c.in-Some.i here (λ k there. c.in-Some.ensures.only k (there ∙ ap Some (sym c.as_str.ensures.text))),
    )
