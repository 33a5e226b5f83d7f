use Rattle.std.proofs.Common.{◌≡◌, ◌+◌, arith, length, refl, subst, sym}
use Rattle.bag_writer.specs.Copying.{sides}
use Rattle.bag_writer.specs.Finishing.{IsCutAt, places_of}
use Rattle.bag_writer.specs.declared.write_fault.WriteFault.TheVariants.{Sink, TooLarge, Tree}
use Rattle.bag_writer.proofs.Completed.{are, can_complete, completed, count, ends, first, has_stopped, inside, is_before, stops_first, unfailed}
use Rattle.bag_writer.proofs.Cutting.{copies_all, cut_whole}
use Rattle.bag_writer.proofs.FilesOut.{sink_none_back, sink_still}
use Rattle.bag_writer.proofs.payload_beside.stop_unopened.Goals as goal
use Rattle.bag_rules.proofs.ReturningLemmas.{back_on, back_failed, more_back}

pub complete-requires : goal.complete-requires
complete-requires g c = can_complete c.requires.0 c.as_mut_slice.ensures.value

pub close_all-requires : goal.close_all-requires
close_all-requires g c = unfailed c.requires.0 c.as_mut_slice.ensures.value c.args.copies.ok.0 c.in-Ok.ensures

pub index-requires : goal.index-requires
index-requires g c = inside c.requires.0 c.as_mut_slice.ensures.value c.args.copies.ok.0 c.in-Err.ensures

pub give_up_file-requires : goal.give_up_file-requires
give_up_file-requires g c =
    let begun = c.requires.0 in
    let slice = c.as_mut_slice.ensures.value in
    let count_is = c.args.copies.ok.0 in record {
      stopped = has_stopped begun slice count_is c.in-Err.ensures c.index.result.now c.index.ensures;
      later = is_before begun slice count_is c.in-Err.ensures c.index.result.now c.index.ensures _ c.requires.1;
    }

pub stopped_at-requires : goal.stopped_at-requires
stopped_at-requires g c = first c.requires.0 c.as_mut_slice.ensures.value c.args.copies.ok.0 c.in-Err.ensures (c.give_up_file.ensures 0).kept.same

pub returns-in-Ok : goal.returns-in-Ok
returns-in-Ok g c =
    let s = sides g.T.File.OpenFile.place g.T.File.Source g.S.File.SinkFile in
    let shown = g.T.Paths.shown c.args.tree.now in
    let xs = c.args.copies.items in
    let begun = c.requires.0 in
    let slice = c.as_mut_slice.ensures.value in
    let count_is = c.args.copies.ok.0 in
    let done = completed begun slice count_is c.in-Ok.ensures in
    let same : _ ≡ length xs = count begun slice count_is c.in-Ok.ensures in
    record {
      written = subst (λ new. IsCutAt shown (places_of s.place xs) (g.S.Sink.stored c.args.sink.now) new Tree) (sym (c.close_all.ensures.sink 0).held)
          (cut_whole shown (places_of s.place xs) _ _ done.files (are begun slice count_is c.in-Ok.ensures) done.whole Tree tt (λ large e. (let k : Tree ≡ TooLarge large = e in cc)));
      calm = λ tree_sure sink_sure fresh other. (λ e same. other e, λ e can same. (let k : Tree ≡ Sink = same in cc));
      tree = back_on _ 1 (more_back (length xs) _ same c.close_all.ensures.tree) (back_failed (g.met.T.Tree.reads_keep _ _ c.fail.ensures.rest.kept) (c.fail.ensures.counted c.requires.2) refl);
      sink = ends begun slice count_is c.in-Ok.ensures (length xs + 0)
          (sink_none_back (length xs + 0) (copies_all (length xs + 0) _ (omega (arith, same)) c.close_all.ensures.sink) (λ e. (let k : Tree ≡ Sink = e in cc)));
    }

pub returns-in-Err : goal.returns-in-Err
returns-in-Err g c =
    let xs = c.args.copies.items in
    stops_first _ c.requires.0 c.as_mut_slice.ensures.value c.args.copies.ok.0 c.in-Err.ensures 1 0 (c.give_up_file.ensures (length xs)) (sink_still (length xs)) c.stopped_at.ensures.told c.stopped_at.ensures.tree c.stopped_at.ensures.sink
    (λ new cut. cut)
