use Rattle.std.proofs.Common.{◌∙◌, ap, arith, sym}
use Rattle.bag_path.specs.Paths.{is_payload}
use Rattle.bag_folder.proofs.CourierLemmas.{file_at, passed_from, taken_from}
use Rattle.bag_folder.proofs.tree_courier.next_payload.Goals as goal

pub returns-then-is_payload-clause-found : goal.returns-then-is_payload-clause-found
returns-then-is_payload-clause-found g c =
    let shown = g.T.Paths.shown c.args.tree.now in
    let found = file_at shown.files c.loop-i.i c.path.result.now c.path.ensures in
    record {
      file = found.0;
      here = found.1;
      first = c.loop-i.invariant ∙ taken_from shown c.loop-i.i found.0 found.1 (ap is_payload found.2 ∙ sym c.is_payload.ensures ∙ c.if-is_payload.true);
      room = omega (arith, c.loop-i-test.true, c.count-i-end.type_inv);
    }

pub loop-i-preserved : goal.loop-i-preserved
loop-i-preserved g c =
    let shown = g.T.Paths.shown c.args.tree.now in
    let found = file_at shown.files c.loop-i.i c.path.result.now c.path.ensures in
    c.loop-i.invariant ∙ passed_from shown c.loop-i.i found.0 found.1 (ap is_payload found.2 ∙ sym c.is_payload.ensures ∙ c.if-is_payload.false)
