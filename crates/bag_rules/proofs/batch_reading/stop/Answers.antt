use Rattle.std.proofs.Common.{◌≡◌, ◌∙◌, ◌<◌, Some, arith, refl, slice_get, subst, sym}
use Rattle.std.proofs.lemmas.Option.{slice_get_read}
use Rattle.bag_rules.specs.Returning.{HasStoppedFirst, IsStopped, IsToldOf}
use Rattle.bag_rules.proofs.EndedLemmas.{first_stopped, front_stops, own_place, ready_stopped, stream_stops, unfailed_ended}
use Rattle.bag_rules.proofs.ReturningLemmas.{back_on, behind_stopped, leaves_less, more_back}
use Rattle.bag_rules.proofs.Words.{same_Some}
use Rattle.bag_rules.proofs.batch_reading.stop.Goals as goal

pub read_on-requires : goal.read_on-requires
read_on-requires g c = λ k stream low below at. (c.requires.streams.0.each k stream at).fresh

pub close_all-requires : goal.close_all-requires
close_all-requires g c =
    let file = g.T.File in
    unfailed_ended file.OpenFile.place file.Source.remaining file.Source.failures file.Source.ready file.Source.keeps (g.T.Paths.shown c.args.tree.now) c.args.gathered c.read_on.new.self.streams.items c.in-Ok.ensures.rest.0 c.requires.streams.0 c.in-Ok.ensures.ended

pub told-requires : goal.told-requires
told-requires g c = subst (λ s. IsStopped g.T.File.OpenFile.place g.T.File.Source.failures s c.args.fault c.args.file) (sym (c.close_all.ensures 1).kept.same) c.requires.stopped

pub returns-in-Ok-clause-limits : goal.returns-in-Ok-clause-limits
returns-in-Ok-clause-limits g c =
    let file = g.T.File in
    let told = subst (λ s. IsToldOf s (file.OpenFile.place c.args.file) c.args.fault c.told.result) (c.close_all.ensures 1).kept.same c.told.ensures.told in
    λ wants are read bag is none. front_stops file.OpenFile.place file.Source.remaining file.Source.failures file.Source.ready file.Source.keeps (g.T.Paths.shown c.args.tree.now) c.args.gathered c.read_on.new.self.streams.items c.in-Ok.ensures.rest.0 c.requires.streams.0 wants c.args.file c.args.fault c.told.result c.in-Ok.ensures.ended are c.requires.streams.1 c.requires.stopped.inside told read bag is none

pub returns-in-Ok-clause-tree : goal.returns-in-Ok-clause-tree
returns-in-Ok-clause-tree g c = back_on _ 1 (more_back _ _ c.in-Ok.ensures.rest.0 c.close_all.ensures) c.told.ensures.tree

pub index-requires : goal.index-requires
index-requires g c =
    let file = g.T.File in
    let inside = (first_stopped file.OpenFile.place file.Source.remaining file.Source.failures file.Source.ready file.Source.keeps (g.T.Paths.shown c.args.tree.now) c.args.gathered c.read_on.new.self.streams.items c.in-Err.ensures.rest.0 c.requires.streams.0 g.met.T.File.OpenFile.reads_keep_place c.in-Err.stopped c.in-Err.ensures.stopped).inside in
    omega (arith, inside, c.read_on.new.self.streams.ok.0)

pub give_up-requires : goal.give_up-requires
give_up-requires g c =
    let file = g.T.File in
    let shown = g.T.Paths.shown c.args.tree.now in
    let new = c.read_on.new.self.streams.items in
    let same = c.in-Err.ensures.rest.0 in
    let stopped = c.in-Err.stopped in
    let first = c.in-Err.ensures.stopped in
    let here = c.index.result.now in
    let are = first_stopped file.OpenFile.place file.Source.remaining file.Source.failures file.Source.ready file.Source.keeps shown c.args.gathered new same c.requires.streams.0 g.met.T.File.OpenFile.reads_keep_place stopped first in
    let at : slice_get new stopped.place ≡ Some here = slice_get_read _ _ stopped.place here refl are.inside c.index.ensures in
    let is : first.is ≡ here = same_Some first.is here (sym first.new_at ∙ at) in
    let before = (c.requires.streams.0.each stopped.place first.was first.old_at).before in
    let own = own_place file.OpenFile.place file.Source.remaining file.Source.failures file.Source.ready file.Source.keeps shown c.args.gathered new same c.requires.streams.0 g.met.T.File.OpenFile.reads_keep_place stopped first in
    behind_stopped file.OpenFile.place file.Source.failures shown stopped.fault here.source c.args.file (are.here here at)
    (subst (λ s. file.OpenFile.place s.source < file.OpenFile.place c.args.file) is (omega (arith, own, before, c.requires.streams.1)))

pub stopped_at-requires : goal.stopped_at-requires
stopped_at-requires g c =
    let file = g.T.File in
    let new = c.read_on.new.self.streams.items in
    let kept = g.met.T.Tree.reads_keep _ _ c.give_up.ensures.rest.kept in
    subst (λ s. HasStoppedFirst file.OpenFile.place file.Source.failures s new c.in-Err.stopped) (sym kept.same)
    (first_stopped file.OpenFile.place file.Source.remaining file.Source.failures file.Source.ready file.Source.keeps (g.T.Paths.shown c.args.tree.now) c.args.gathered new c.in-Err.ensures.rest.0 c.requires.streams.0 g.met.T.File.OpenFile.reads_keep_place c.in-Err.stopped c.in-Err.ensures.stopped)

pub returns-clause-limits : goal.returns-clause-limits
returns-clause-limits g c =
    let file = g.T.File in
    let first = c.in-Err.ensures.stopped in
    let kept = g.met.T.Tree.reads_keep _ _ c.give_up.ensures.rest.kept in
    let told = subst (λ s. IsToldOf s (file.OpenFile.place first.is.source) c.in-Err.stopped.fault c.stopped_at.result) kept.same (c.stopped_at.ensures.told first.is first.new_at) in
    λ wants are read bag is none. stream_stops file.OpenFile.place file.Source.remaining file.Source.failures file.Source.ready file.Source.keeps (g.T.Paths.shown c.args.tree.now) c.args.gathered c.read_on.new.self.streams.items c.in-Err.ensures.rest.0 c.requires.streams.0 g.met.T.File.OpenFile.reads_keep_place c.in-Err.stopped first wants c.stopped_at.result are told bag is none

pub returns-clause-ready : goal.returns-clause-ready
returns-clause-ready g c =
    let file = g.T.File in
    let first = c.in-Err.ensures.stopped in
    let told = c.stopped_at.ensures.told first.is first.new_at in
    λ are other e. ready_stopped file.OpenFile.place file.Source.remaining file.Source.failures file.Source.ready file.Source.keeps (g.T.Paths.shown c.args.tree.now) c.args.gathered c.read_on.new.self.streams.items c.in-Err.ensures.rest.0 c.requires.streams.0 g.met.T.File.OpenFile.reads_keep_place c.in-Err.stopped first are (told.tree.0 e)

pub returns-clause-tree : goal.returns-clause-tree
returns-clause-tree g c =
    let kept = g.met.T.Tree.reads_keep _ _ c.give_up.ensures.rest.kept in
    back_on _ _ (leaves_less _ kept c.give_up.ensures.counted) (rw (← c.in-Err.ensures.rest.0) c.stopped_at.ensures.tree)
