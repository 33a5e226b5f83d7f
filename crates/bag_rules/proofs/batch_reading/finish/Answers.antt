use Rattle.std.proofs.Common.{◌≡◌, Err, ap, subst, sym}
use Rattle.bag_rules.specs.FileBatchInside.{CompletesBatch}
use Rattle.bag_rules.specs.BatchReading.{AreSumsIn, HaveSums}
use Rattle.bag_rules.specs.declared.outcome.CheckFault.TheVariants.{Tree}
use Rattle.bag_rules.proofs.EndedLemmas.{first_stopped, have_sums, read_ended, ready_stopped, stream_stops, unfailed_ended}
use Rattle.bag_rules.proofs.KnownFiles.{known_ended}
use Rattle.bag_rules.proofs.ReturningLemmas.{all_back, back_none, back_so}
use Rattle.bag_rules.proofs.TreeUses.{not_tree}
use Rattle.bag_rules.proofs.Words.{err_from_is_err_and}
use Rattle.bag_rules.proofs.batch_reading.finish.Goals as goal

pub read_on-requires : goal.read_on-requires
read_on-requires g c = λ k stream low below at. (c.requires.each k stream at).fresh

pub close_all-requires : goal.close_all-requires
close_all-requires g c =
    let file = g.T.File in
    unfailed_ended file.OpenFile.place file.Source.remaining file.Source.failures file.Source.ready file.Source.keeps (g.T.Paths.shown c.args.tree.now) c.args.gathered c.read_on.new.self.streams.items c.in-Ok.ensures.rest.0 c.requires c.in-Ok.ensures.ended

pub returns-in_err-sums-in-Ok-clause-tree : goal.returns-in_err-sums-in-Ok-clause-tree
returns-in_err-sums-in-Ok-clause-tree g c =
    let p = err_from_is_err_and c.from_residual.result c.from_residual.ensures.1 in
    back_none _ (all_back _ _ c.in-Ok.ensures.rest.0 c.close_all.ensures) (not_tree c.from_residual.result (rw p.1 p.2))

pub returns-in_err-complete-in-Ok-clause-tree : goal.returns-in_err-complete-in-Ok-clause-tree
returns-in_err-complete-in-Ok-clause-tree g c =
    let p = err_from_is_err_and c.from_residual-in_err-complete-in-Ok.result c.from_residual-in_err-complete-in-Ok.ensures.1 in
    back_none _ (all_back _ _ c.in-Ok.ensures.rest.0 c.close_all.ensures) (not_tree c.from_residual-in_err-complete-in-Ok.result (rw p.1 p.2))

pub returns-in_ok-complete-in-Ok-clause-tree : goal.returns-in_ok-complete-in-Ok-clause-tree
returns-in_ok-complete-in-Ok-clause-tree g c = back_none _ (all_back _ _ c.in-Ok.ensures.rest.0 c.close_all.ensures) (λ e. cc e)

pub returns-in_ok-complete-in-Ok-clause-read : goal.returns-in_ok-complete-in-Ok-clause-read
returns-in_ok-complete-in-Ok-clause-read g c =
    let file = g.T.File in
    let shown = g.T.Paths.shown c.args.tree.now in
    let new = c.read_on.new.self.streams.items in
    let same = c.in-Ok.ensures.rest.0 in
    let ended = c.in-Ok.ensures.ended in
    let read = c.as_slice.ensures.value in
    let have = have_sums file.OpenFile.place file.Source.remaining file.Source.failures file.Source.ready file.Source.keeps shown c.args.gathered new same c.requires ended in
    let sums = c.in_ok-sums-in-Ok.field-0.items in
    let are = subst (λ xs. AreSumsIn xs sums) read (c.in_ok-sums-in-Ok.ensures (subst (λ xs. HaveSums xs) (sym read) have)) in
    let complete = subst (λ batch. CompletesBatch batch c.in_ok-complete-in-Ok.field-0 sums) c.in-Ok.ensures.rest.1 c.in_ok-complete-in-Ok.ensures in
    λ wants gathered_are. (read_ended file.OpenFile.place file.Source.remaining file.Source.failures file.Source.ready file.Source.keeps shown c.args.gathered new same c.requires wants c.in_ok-complete-in-Ok.field-0 sums ended are gathered_are complete, complete.first, complete.read)

pub returns-in_ok-complete-in-Ok-clause-some : goal.returns-in_ok-complete-in-Ok-clause-some
returns-in_ok-complete-in-Ok-clause-some g c =
    let file = g.T.File in
    let shown = g.T.Paths.shown c.args.tree.now in
    let new = c.read_on.new.self.streams.items in
    let same = c.in-Ok.ensures.rest.0 in
    let ended = c.in-Ok.ensures.ended in
    let read = c.as_slice.ensures.value in
    let have = have_sums file.OpenFile.place file.Source.remaining file.Source.failures file.Source.ready file.Source.keeps shown c.args.gathered new same c.requires ended in
    let sums = c.in_ok-sums-in-Ok.field-0.items in
    let are = subst (λ xs. AreSumsIn xs sums) read (c.in_ok-sums-in-Ok.ensures (subst (λ xs. HaveSums xs) (sym read) have)) in
    let complete = subst (λ batch. CompletesBatch batch c.in_ok-complete-in-Ok.field-0 sums) c.in-Ok.ensures.rest.1 c.in_ok-complete-in-Ok.ensures in
    λ kept wants known known_are. known_ended file.OpenFile.place file.Source.remaining file.Source.failures file.Source.ready file.Source.keeps shown c.args.gathered new sums same c.requires ended are kept wants known known_are c.in_ok-complete-in-Ok.field-0 complete

pub stopped_at-requires : goal.stopped_at-requires
stopped_at-requires g c =
    let file = g.T.File in
    first_stopped file.OpenFile.place file.Source.remaining file.Source.failures file.Source.ready file.Source.keeps (g.T.Paths.shown c.args.tree.now) c.args.gathered c.read_on.new.self.streams.items c.in-Err.ensures.rest.0 c.requires g.met.T.File.OpenFile.reads_keep_place c.in-Err.stopped c.in-Err.ensures.stopped

pub returns-in-Err-clause-limits : goal.returns-in-Err-clause-limits
returns-in-Err-clause-limits g c =
    let file = g.T.File in
    let first = c.in-Err.ensures.stopped in
    let told = c.stopped_at.ensures.told first.is first.new_at in
    λ wants are bag is none. stream_stops file.OpenFile.place file.Source.remaining file.Source.failures file.Source.ready file.Source.keeps (g.T.Paths.shown c.args.tree.now) c.args.gathered c.read_on.new.self.streams.items c.in-Err.ensures.rest.0 c.requires g.met.T.File.OpenFile.reads_keep_place c.in-Err.stopped first wants c.stopped_at.result are told bag is none

pub returns-in-Err-clause-ready : goal.returns-in-Err-clause-ready
returns-in-Err-clause-ready g c =
    let file = g.T.File in
    let first = c.in-Err.ensures.stopped in
    let told = c.stopped_at.ensures.told first.is first.new_at in
    λ are e. ready_stopped file.OpenFile.place file.Source.remaining file.Source.failures file.Source.ready file.Source.keeps (g.T.Paths.shown c.args.tree.now) c.args.gathered c.read_on.new.self.streams.items c.in-Err.ensures.rest.0 c.requires g.met.T.File.OpenFile.reads_keep_place c.in-Err.stopped first are (told.tree.0 (let k : c.stopped_at.result ≡ Tree = cc in k))

pub returns-in-Err-clause-tree : goal.returns-in-Err-clause-tree
returns-in-Err-clause-tree g c =
    back_so _ (rw (← c.in-Err.ensures.rest.0) c.stopped_at.ensures.tree) (λ e. ap Err e) (λ e. (let k : c.stopped_at.result ≡ Tree = cc in k))
