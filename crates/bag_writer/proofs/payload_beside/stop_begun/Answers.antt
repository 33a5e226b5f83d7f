use Rattle.std.proofs.Common.{◌≡◌, ◌+◌, ◌++◌, ◌∷◌, [], arith, false, length, subst, sym}
use Rattle.bag_writer.specs.Copying.{sides}
use Rattle.bag_writer.specs.Finishing.{AreBefore, IsCutAt, places_of}
use Rattle.bag_writer.specs.Pending.{IsBeginFault, work_of}
use Rattle.bag_writer.specs.declared.write_fault.WriteFault.TheVariants.{Memory, Sink, Tree}
use Rattle.bag_writer.proofs.Batches.{copies_ends, fresh_unfailed}
use Rattle.bag_writer.proofs.Completed.{stops_so}
use Rattle.bag_writer.proofs.Cutting.{copies_all, cut_more, cut_none}
use Rattle.bag_writer.proofs.payload_beside.stop_begun.Goals as goal
use Rattle.bag_rules.proofs.ReturningLemmas.{back_none, all_back}

pub close_all-requires : goal.close_all-requires
close_all-requires g c =
    let s = sides g.T.File.OpenFile.place g.T.File.Source g.S.File.SinkFile in
    fresh_unfailed s (work_of (g.T.Paths.shown c.args.tree.now) false false) c.args.set c.args.copies.items c.requires.0.fresh

pub returns-in-Memory : goal.returns-in-Memory
returns-in-Memory g c =
    let shown = g.T.Paths.shown c.args.tree.now in
    let xs = c.args.copies.items in
    let places = places_of g.T.File.OpenFile.place xs in
    let old = g.S.Sink.stored c.args.sink.now in
    rw c.in-Memory.is (λ i begun. record {
      written = cut_more shown places _ _ (i ∷ []) Memory (subst (λ st. IsCutAt shown places old st Memory) (sym (c.close_all.ensures.sink 0).held) (cut_none shown places old old));
      calm = λ tree_sure sink_sure fresh too. (λ e same. (let k : Memory ≡ Tree = same in cc), λ e can same. (let k : Memory ≡ Sink = same in cc));
      tree = back_none (length xs + 0) (all_back (length xs + 0) (length xs) (omega arith) c.close_all.ensures.tree) (λ e. (let k : Memory ≡ Tree = e in cc));
      sink = copies_ends (length xs + 0) (copies_all (length xs + 0) (length xs) (omega arith) c.close_all.ensures.sink) (λ e. (let k : Memory ≡ Sink = e in cc));
    })

pub stop_unopened-requires : goal.stop_unopened-requires
stop_unopened-requires g c =
    let s = sides g.T.File.OpenFile.place g.T.File.Source g.S.File.SinkFile in
    let fault = subst (IsBeginFault s (work_of (g.T.Paths.shown c.args.tree.now) false false) c.requires.1) c.in-Unopened.is c.requires.3 in
    (c.requires.0, subst (λ n. AreBefore s.place c.args.copies.items n) (sym fault.0.0) c.requires.2, fault.0.1)

pub returns-in-Unopened : goal.returns-in-Unopened
returns-in-Unopened g c = rw c.in-Unopened.is (λ i begun. stops_so _ (λ work fault. fault.1) (λ cut. cut_more _ _ _ _ (i ∷ []) _ cut) c.stop_unopened.ensures)

pub stop-requires : goal.stop-requires
stop-requires g c =
    let s = sides g.T.File.OpenFile.place g.T.File.Source g.S.File.SinkFile in
    let fault = subst (IsBeginFault s (work_of (g.T.Paths.shown c.args.tree.now) false false) c.requires.1) c.in-Stopped.is c.requires.3 in
    (c.requires.0, subst (λ n. AreBefore s.place c.args.copies.items n) (sym fault.0) c.requires.2, fault.1)

pub returns-in-Stopped : goal.returns-in-Stopped
returns-in-Stopped g c =
    let places = places_of g.T.File.OpenFile.place c.args.copies.items in
    rw c.in-Stopped.is (λ i begun. stops_so _ (λ work fault. fault.1)
    (λ cut. subst (λ n. IsCutAt (g.T.Paths.shown c.args.tree.now) (places ++ n ∷ []) (g.S.Sink.stored c.args.sink.now) (g.S.Sink.stored c.stop.new.sink) c.stop.result) begun.0 cut) c.stop.ensures)
