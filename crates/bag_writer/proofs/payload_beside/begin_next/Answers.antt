use Rattle.std.proofs.Common.{◌≡◌, ◌∙◌, ◌+◌, ◌<◌, false, true, ap, arith, length, refl, subst, sym}
use Rattle.std.proofs.lemmas.List.{length-take-le}
use Rattle.std.proofs.lemmas.Result.{err_from_is_err_and}
use Rattle.bag_rules.specs.Returning.{LeavesOut}
use Rattle.bag_rules.proofs.Words.{paths_in, Shown}
use Rattle.bag_writer.specs.Copying.{sides}
use Rattle.bag_writer.specs.Pending.{work_of}
use Rattle.bag_writer.specs.Returned.{LeavesCopies}
use Rattle.bag_writer.proofs.Beginning.{adds_copy, begin_fault, can_copy_next, no_copy}
use Rattle.bag_writer.proofs.FilesOut.{sink_after, sink_less, sink_same}
use Rattle.bag_writer.proofs.payload_beside.begin_next.Goals as goal
use Rattle.bag_rules.proofs.ReturningLemmas.{leaves_less, leaves_on}

pub open_next-requires : goal.open_next-requires
open_next-requires g c = c.requires.1

pub returns-in_err-source : goal.returns-in_err-source
returns-in_err-source g c =
    let s = sides g.T.File.OpenFile.place g.T.File.Source g.S.File.SinkFile in
    let fault = c.in_err-source.field-0.0 in
    let sure = g.T.Tree.sure c.args.tree.now in
    let none = no_copy s sure c.args.i fault c.in_err-source.ensures.opened in
    let p = err_from_is_err_and c.from_residual.result c.from_residual.ensures.1 in
    rw (p.1, p.2) (record {
      begun = λ tree_sure sink_sure ready calm. (refl, begin_fault s (g.T.Paths.shown c.args.tree.now) tree_sure sink_sure sure c.args.i fault c.in_err-source.ensures.opened ready);
      tree = c.in_err-source.ensures.tree;
      sink = λ n. subst (λ m. LeavesCopies g.S.Sink.stored g.S.Sink.is_open g.S.Sink.failures g.S.Sink.sure n m c.args.sink.now c.args.sink.now) (omega (arith, none)) (sink_same n);
    })

pub begin_copy-requires-clause-inside : goal.begin_copy-requires-clause-inside
begin_copy-requires-clause-inside g c = subst (λ (all : Shown). c.args.i < length (paths_in all)) (sym (c.in_ok-source.ensures.tree 0).kept.same) c.requires.1

pub begin_copy-requires-clause-opened : goal.begin_copy-requires-clause-opened
begin_copy-requires-clause-opened g c = (c.in_ok-source.ensures.opened.placed, c.in_ok-source.ensures.opened.unfailed)

pub returns-in_err-copy : goal.returns-in_err-copy
returns-in_err-copy g c =
    let p = err_from_is_err_and c.from_residual-in_err-copy.result c.from_residual-in_err-copy.ensures.1 in
    rw (p.1, p.2) (record {
      begun = λ tree_sure sink_sure ready calm. (refl, tt);
      tree = λ n. subst (λ m. LeavesOut g.T.Paths.shown g.T.Source.failures g.T.Tree.sure n m c.args.tree.now c.begin_copy.new.tree) (let e : n ≡ n + 0 = omega arith in e)
          (leaves_on n (n + 1) n (c.in_ok-source.ensures.tree n) (c.in_err-copy.ensures.tree n));
      sink = λ n. subst (λ m. LeavesCopies g.S.Sink.stored g.S.Sink.is_open g.S.Sink.failures g.S.Sink.sure n m c.args.sink.now c.begin_copy.new.sink) (let e : n ≡ n + 0 = omega arith in e) (c.in_err-copy.ensures.sink n);
    })

pub copy_front-requires : goal.copy_front-requires
copy_front-requires g c = omega (arith, c.in_ok-source.ensures.room, c.requires.0)

pub slice_bounds-hold-end : goal.slice_bounds-hold-end
slice_bounds-hold-end g c = c.in-Ok.ensures.bound

pub slice_bounds-hold-end-in-Ok : goal.slice_bounds-hold-end-in-Ok
slice_bounds-hold-end-in-Ok g c = sym (length-take-le c.in-Ok.n c.copy_front.new.buffer c.in-Ok.ensures.bound)

pub close-requires : goal.close-requires
close-requires g c =
    let s = sides g.T.File.OpenFile.place g.T.File.Source g.S.File.SinkFile in
    let can = can_copy_next s c.requires.1 (c.in_ok-source.ensures.tree 0).kept.same c.in_ok-source.ensures.opened c.in_ok-copy.ensures.begun in
    ap s.failures c.in-Err-hold.ensures.1 ∙ (c.in-Ok.ensures.copied (work_of (g.T.Paths.shown c.args.tree.now) false false) c.args.i (can false false (λ e. (let k : false ≡ true = e in cc)) (λ e. (let k : false ≡ true = e in cc)))).copied.unfailed

pub close-requires-in-Err-hold : goal.close-requires-in-Err-hold
close-requires-in-Err-hold g c =
    let s = sides g.T.File.OpenFile.place g.T.File.Source g.S.File.SinkFile in
    let can = can_copy_next s c.requires.1 (c.in_ok-source.ensures.tree 0).kept.same c.in_ok-source.ensures.opened c.in_ok-copy.ensures.begun in
    ap s.copy_failures c.in-Err-hold.ensures.2 ∙ (c.in-Ok.ensures.copied (work_of (g.T.Paths.shown c.args.tree.now) false false) c.args.i (can false false (λ e. (let k : false ≡ true = e in cc)) (λ e. (let k : false ≡ true = e in cc)))).copied.copy_unfailed

pub returns-in-Ok-hold : goal.returns-in-Ok-hold
returns-in-Ok-hold g c =
    let s = sides g.T.File.OpenFile.place g.T.File.Source g.S.File.SinkFile in
    let can = can_copy_next s c.requires.1 (c.in_ok-source.ensures.tree 0).kept.same c.in_ok-source.ensures.opened c.in_ok-copy.ensures.begun in
    record {
      begun = λ tree_sure sink_sure ready calm.
          let work = work_of (g.T.Paths.shown c.args.tree.now) tree_sure sink_sure in
          adds_copy s work c.args.i c.in-Ok.n c.args.copies.now.items c.hold.new.copies.items c.copy_front.new.copy c.copy_front.new.buffer
          (c.in-Ok.ensures.rest.0 ∙ c.in_ok-source.ensures.room ∙ c.requires.0)
          (c.in-Ok.ensures.rest.1 ∙ ap s.place c.in_ok-copy.ensures.begun.0 ∙ c.in_ok-source.ensures.opened.placed)
          (c.in-Ok.ensures.copied work c.args.i (can tree_sure sink_sure ready calm)) c.in-Ok-hold.ensures;
      tree = λ n. subst (λ t. LeavesOut g.T.Paths.shown g.T.Source.failures g.T.Tree.sure n (n + 1) c.args.tree.now t) (sym (c.in_ok-copy.ensures.tree 0)) (c.in_ok-source.ensures.tree n);
      sink = c.in_ok-copy.ensures.sink;
    }

pub returns-in-Err-hold : goal.returns-in-Err-hold
returns-in-Err-hold g c = record {
  begun = λ tree_sure sink_sure ready calm. (c.in-Err-hold.ensures.0, tt);
  tree = λ n.
      let opened = subst (λ t. LeavesOut g.T.Paths.shown g.T.Source.failures g.T.Tree.sure n (n + 1) c.args.tree.now t) (sym (c.in_ok-copy.ensures.tree 0)) (c.in_ok-source.ensures.tree n) in
      subst (λ m. LeavesOut g.T.Paths.shown g.T.Source.failures g.T.Tree.sure n m c.args.tree.now c.close.new.self) (let e : n ≡ n + 0 = omega arith in e)
      (leaves_on n (n + 1) n opened (leaves_less n (g.met.T.Tree.reads_keep _ _ c.close.ensures.rest.kept) c.close.ensures.counted));
  sink = λ n. subst (λ m. LeavesCopies g.S.Sink.stored g.S.Sink.is_open g.S.Sink.failures g.S.Sink.sure n m c.args.sink.now c.close-in-Err-hold.new.self) (let e : n ≡ n + 0 = omega arith in e)
      (sink_after n (n + 1) n (c.in_ok-copy.ensures.sink n) (sink_less n c.close-in-Err-hold.ensures.rest c.close-in-Err-hold.ensures.counted));
}

pub returns-in-Err : goal.returns-in-Err
returns-in-Err g c =
    let s = sides g.T.File.OpenFile.place g.T.File.Source g.S.File.SinkFile in
    let can = can_copy_next s c.requires.1 (c.in_ok-source.ensures.tree 0).kept.same c.in_ok-source.ensures.opened c.in_ok-copy.ensures.begun in
    let placed = c.in-Err.ensures.rest.1 ∙ ap s.place c.in_ok-copy.ensures.begun.0 ∙ c.in_ok-source.ensures.opened.placed in
    record {
      begun = λ tree_sure sink_sure ready calm. (refl, (placed, c.in-Err.ensures.copied (work_of (g.T.Paths.shown c.args.tree.now) tree_sure sink_sure) c.args.i (can tree_sure sink_sure ready calm)));
      tree = λ n. subst (λ t. LeavesOut g.T.Paths.shown g.T.Source.failures g.T.Tree.sure n (n + 1) c.args.tree.now t) (sym (c.in_ok-copy.ensures.tree 0)) (c.in_ok-source.ensures.tree n);
      sink = c.in_ok-copy.ensures.sink;
    }
