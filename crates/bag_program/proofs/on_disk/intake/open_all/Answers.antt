use Rattle.std.proofs.Common.{◌≡◌, ◌∙◌, ◌≤◌, ◌++◌, ◌∷◌, [], ap, length, map, refl, rules, string_bytes, subst, sym}
use Rattle.std.proofs.lemmas.List.{take_all}
use Rattle.std.proofs.lemmas.Result.{err_from_is_err_and}
use Rattle.bag_folder.specs.Folders.{disk_of}
use Rattle.bag_program.specs.Endings.{first_name, name_if_crowded, name_if_empty}
use Rattle.bag_program.specs.Working.{AreOpened}
use Rattle.bag_program.proofs.WorkLemmas.{couriers_more, crowded_so, empty_so, first_refused, opened_more}
use Rattle.bag_program.proofs.on_disk.intake.open_all.Goals as goal

pub loop-folder-init : goal.loop-folder-init
loop-folder-init g c = ([], tt, c.new-couriers.ensures.items, refl, refl)

pub returns-in_err-tree-clause-refused : goal.returns-in_err-tree-clause-refused
returns-in_err-tree-clause-refused g c =
    let error = err_from_is_err_and c.from_residual.result c.from_residual.ensures.1 in
    let first = first_refused string_bytes (disk_of (g.D.Directories.listing c.args.disk.now) (g.N.Names.standing c.args.names)) c.args.folders.now c.loop-folder.folder-index c.folder-item.result c.as_str.result.now c.loop-folder.invariant.0 c.in_err-tree.field-0.0 c.loop-folder-test.true c.folder-item.is c.as_str.ensures.value c.loop-folder.invariant.1 c.in_err-tree.ensures.refused in
    rw (error.1, error.2) first

pub loop-folder-preserved : goal.loop-folder-preserved
loop-folder-preserved g c =
    let before = c.loop-folder.invariant in
    let trees = before.0 in
    let tree = c.in_ok-tree.tree in
    let named = c.in_ok-tree.ensures.opened.named in
    let crowded : c.in_ok-crowded.crowded ≡ first_name name_if_crowded (trees ++ tree ∷ []) =
    c.in_ok-crowded.ensures ∙ crowded_so c.loop-folder.crowded trees tree c.as_str-in-loop-folder.result.now (c.as_str-in-loop-folder.ensures.value ∙ sym c.as_str.ensures.value ∙ sym named) c.payload_count-count.result c.payload_count-count.ensures.count before.3 in
    let empty : c.in_ok-empty.empty ≡ first_name name_if_empty (trees ++ tree ∷ []) =
    c.in_ok-empty.ensures ∙ empty_so c.loop-folder.empty trees tree c.as_str-in-loop-folder-2.result.now (c.as_str-in-loop-folder-2.ensures.value ∙ sym c.as_str.ensures.value ∙ sym named) c.has_payload.result c.has_payload.ensures before.4 in (
      _,
      opened_more string_bytes (disk_of (g.D.Directories.listing c.args.disk.now) (g.N.Names.standing c.args.names)) c.args.folders.now c.loop-folder.folder-index c.folder-item.result c.as_str.result.now trees c.in_ok-tree.tree c.loop-folder-test.true c.folder-item.is c.as_str.ensures.value c.loop-folder.invariant.1 c.in_ok-tree.ensures.opened,
      c.in_ok-push.ensures.items ∙ ap (λ one. c.loop-folder.couriers.items ++ one ∷ []) (c.new-in-loop-folder.ensures ∙ c.new.ensures) ∙ couriers_more c.loop-folder.couriers.items trees c.in_ok-tree.tree c.loop-folder.invariant.2,
      crowded,
      empty,
    )

pub returns-clause-opened : goal.returns-clause-opened
returns-clause-opened g c =
    let past : length c.args.folders.now ≤ c.loop-folder.folder-index = search rules in
    (c.loop-folder.invariant.0, subst (λ folders. AreOpened (disk_of (g.D.Directories.listing c.args.disk.now) (g.N.Names.standing c.args.names)) (map string_bytes folders) c.loop-folder.invariant.0) (take_all c.loop-folder.folder-index c.args.folders.now past) c.loop-folder.invariant.1, c.loop-folder.invariant.2, c.loop-folder.invariant.3, c.loop-folder.invariant.4)
