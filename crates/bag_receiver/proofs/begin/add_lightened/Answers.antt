use Rattle.std.proofs.Common.{◌≡◌, ◌∙◌, ap, subst}
use Rattle.bag_receiver.proofs.BeginPlaces.{not_placed_by, placed_by}
use Rattle.bag_receiver.proofs.Words.{emptied, IsUtf8}
use Rattle.bag_receiver.proofs.begin.add_lightened.Goals as goal

pub returns-clause-placed : goal.returns-clause-placed
returns-clause-placed c =
    let body : c.in_ok-body.body.items ≡ emptied c.args.file.now.1.items = c.in_ok-body.ensures.body ∙ ap emptied c.as_slice.ensures.value in
    let utf8 = subst IsUtf8 c.as_str-path.ensures.value c.as_str-path.utf8 in
    placed_by c.add.result c.args.tags.now c.add.new.self _ c.args.file.now.1.items c.in_ok-body.body.items utf8 body (rw (← c.as_str-path.ensures.value) c.add.ensures.added) (rw (← c.as_str-path.ensures.value) c.add.ensures.fault)

pub returns-clause-refused : goal.returns-clause-refused
returns-clause-refused c =
    let body : c.in_ok-body.body.items ≡ emptied c.args.file.now.1.items = c.in_ok-body.ensures.body ∙ ap emptied c.as_slice.ensures.value in
    not_placed_by c.add.result c.args.tags.now _ c.args.file.now.1.items c.in_ok-body.body.items body (rw (← c.as_str-path.ensures.value) c.add.ensures.fault)
