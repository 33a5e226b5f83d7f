use Rattle.std.proofs.Common.{◌∙◌, sym}
use Rattle.bag_path.specs.Paths.{is_payload}
use Rattle.bag_rules.specs.Trees.{paths_in}
use Rattle.bag_writer.proofs.KeptPaths.{kept_step, left_step}
use Rattle.bag_writer.proofs.accepting.payload_paths.Goals.{then-is_payload+in_ok-clone+in_ok-push, else-is_payload}
use Rattle.bag_writer.proofs.accepting.payload_paths.Goals as goal

pub loop-i-preserved : goal.loop-i-preserved
loop-i-preserved g c =
    let paths = paths_in (g.P.Paths.shown c.args.tree.now) in
    elim c.if-is_payload.branch [
      | then-is_payload+in_ok-clone+in_ok-push w ↦ let step = kept_step is_payload paths c.loop-i.i c.path-path.result.now c.path-path.ensures (sym c.is_payload.ensures ∙ w.if-is_payload.true) in cc (step, w.paths-is, w.in_ok-push.ensures.items, w.in_ok-clone.ensures.cases, c.loop-i.invariant)
      | else-is_payload w ↦ let step = left_step is_payload paths c.loop-i.i c.path-path.result.now c.path-path.ensures (sym c.is_payload.ensures ∙ w.if-is_payload.false) in cc (step, w.paths-is, c.loop-i.invariant)
    ]
