use Rattle.std.proofs.Common.{◌∙◌, ◌+◌, ◌++◌, ◌∷◌, [], false, length, subst, sym}
use Rattle.bag_writer.specs.Copying.{sides}
use Rattle.bag_writer.specs.Finishing.{IsCutAt, places_of}
use Rattle.bag_writer.specs.Pending.{work_of}
use Rattle.bag_writer.specs.Returned.{IsStoppedAt, IsToldOf}
use Rattle.bag_writer.proofs.Completed.{are, can_complete, completed, count, ends, first, has_stopped, inside, is_before, stops_first, unfailed}
use Rattle.bag_writer.proofs.Completing.{stopped_file}
use Rattle.bag_writer.proofs.Cutting.{copies_more, cut_more, cut_next}
use Rattle.bag_writer.proofs.FilesOut.{sink_back}
use Rattle.bag_writer.proofs.Stopping.{stopped_here}
use Rattle.bag_writer.proofs.payload_beside.stop.Goals as goal
use Rattle.bag_rules.proofs.ReturningLemmas.{back_on, more_back}

pub complete-requires : goal.complete-requires
complete-requires g c = can_complete c.requires.0 c.as_mut_slice.ensures.value

pub close_all-requires : goal.close_all-requires
close_all-requires g c = unfailed c.requires.0 c.as_mut_slice.ensures.value c.args.copies.ok.0 c.in-Ok.ensures

pub told-requires : goal.told-requires
told-requires g c =
    let s = sides g.T.File.OpenFile.place g.T.File.Source g.S.File.SinkFile in
    subst (λ sh. IsStoppedAt s.place s.failures s.copy_place s.copy_failures sh c.args.fault c.args.copy) (sym (c.close_all.ensures.tree 0).kept.same)
    (stopped_here s (work_of (g.T.Paths.shown c.args.tree.now) false false) c.args.fault c.args.copy c.requires.2)

pub index-requires : goal.index-requires
index-requires g c = inside c.requires.0 c.as_mut_slice.ensures.value c.args.copies.ok.0 c.in-Err.ensures

pub give_up-requires : goal.give_up-requires
give_up-requires g c =
    let begun = c.requires.0 in
    let slice = c.as_mut_slice.ensures.value in
    let count_is = c.args.copies.ok.0 in record {
      stopped = has_stopped begun slice count_is c.in-Err.ensures c.index.result.now c.index.ensures;
      later = (c.requires.2.beside, is_before begun slice count_is c.in-Err.ensures c.index.result.now c.index.ensures _ c.requires.1);
    }

pub stopped_at-requires : goal.stopped_at-requires
stopped_at-requires g c = first c.requires.0 c.as_mut_slice.ensures.value c.args.copies.ok.0 c.in-Err.ensures (c.give_up.ensures.tree 0).kept.same

pub returns-in-Ok : goal.returns-in-Ok
returns-in-Ok g c =
    let s = sides g.T.File.OpenFile.place g.T.File.Source g.S.File.SinkFile in
    let shown = g.T.Paths.shown c.args.tree.now in
    let xs = c.args.copies.items in
    let begun = c.requires.0 in
    let slice = c.as_mut_slice.ensures.value in
    let count_is = c.args.copies.ok.0 in
    let done = completed begun slice count_is c.in-Ok.ensures in
    let same = count begun slice count_is c.in-Ok.ensures in
    let told = subst (λ sh. IsToldOf sh (s.place c.args.copy.source) c.args.fault c.told.result) (c.close_all.ensures.tree 0).kept.same c.told.ensures.told in
    let file = stopped_file s (work_of shown false false) c.args.set c.args.fault c.args.copy c.requires.2 in
    record {
      written = subst (λ new. IsCutAt shown (places_of s.place xs ++ s.place c.args.copy.source ∷ []) (g.S.Sink.stored c.args.sink.now) new c.told.result) (sym (c.told.ensures.sink.held ∙ (c.close_all.ensures.sink 0).held))
          (cut_next shown (places_of s.place xs) _ _ done.files (are begun slice count_is c.in-Ok.ensures) done.whole (s.place c.args.copy.source) file.0 c.args.fault c.told.result file.1 file.2 told);
      calm = λ tree_sure sink_sure fresh stopped. (λ e same. (stopped.failed (told.tree.0 same)).1 e, λ e can same. (stopped.copy_failed (told.sink.0 same)).1 e);
      tree = back_on _ 1 (more_back (length xs) _ same c.close_all.ensures.tree) c.told.ensures.tree;
      sink = ends begun slice count_is c.in-Ok.ensures (length xs + 1) (sink_back (length xs + 1) 1 (copies_more (length xs) _ same c.close_all.ensures.sink) c.told.ensures.sink);
    }

pub returns-in-Err : goal.returns-in-Err
returns-in-Err g c =
    let xs = c.args.copies.items in
    stops_first _ c.requires.0 c.as_mut_slice.ensures.value c.args.copies.ok.0 c.in-Err.ensures 1 1 (c.give_up.ensures.tree (length xs)) (c.give_up.ensures.sink (length xs)) c.stopped_at.ensures.told c.stopped_at.ensures.tree c.stopped_at.ensures.sink
    (λ new cut. cut_more _ _ _ _ _ _ cut)
