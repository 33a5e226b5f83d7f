use Rattle.std.proofs.Common.{◌≡◌, ◌∙◌, ◌+◌, arith, length, subst, sym}
use Rattle.bag_rules.specs.Returning.{IsStopped, IsToldOf, LeavesOut}
use Rattle.bag_rules.proofs.ReturningLemmas.{back_on, last_there, rest_count, rest_there, some_left}
use Rattle.bag_rules.proofs.Words.{same_Some}
use Rattle.bag_rules.proofs.returning.stopped_at.Goals as goal

pub unreachable-requires : goal.unreachable-requires
unreachable-requires g c = some_left c.args.streams.items c.give_up_behind.new.streams.items c.pop.new.self.items c.args.stopped.place c.pop.result c.requires.inside c.give_up_behind.ensures.left c.pop.ensures.items c.give_up_behind.new.streams.len c.give_up_behind.new.streams.ok.0 c.in_default.ensures.cases.0

pub close_all-requires : goal.close_all-requires
close_all-requires g c = λ k y at.
    let there = rest_there c.args.streams.items c.give_up_behind.new.streams.items c.pop.new.self.items c.args.stopped.place c.pop.result c.requires.inside c.give_up_behind.ensures.left c.pop.ensures.items c.in-Some.stream c.in-Some.is k y at in
    c.requires.before k y there.0 there.1

pub told-requires : goal.told-requires
told-requires g c =
    let file = g.T.File in
    let there = last_there c.args.streams.items c.give_up_behind.new.streams.items c.pop.new.self.items c.args.stopped.place c.pop.result c.requires.inside c.give_up_behind.ensures.left c.pop.ensures.items c.in-Some.stream c.in-Some.is in
    let same = (c.close_all.ensures 1).kept.same ∙ c.give_up_behind.ensures.tree.kept.same in
    subst (λ s. IsStopped file.OpenFile.place file.Source.failures s c.args.stopped.fault c.in-Some.stream.source) (sym same) (c.requires.here c.in-Some.stream there)

pub returns-clause-told : goal.returns-clause-told
returns-clause-told g c = λ stream at.
    let there = last_there c.args.streams.items c.give_up_behind.new.streams.items c.pop.new.self.items c.args.stopped.place c.pop.result c.requires.inside c.give_up_behind.ensures.left c.pop.ensures.items c.in-Some.stream c.in-Some.is in
    let same = (c.close_all.ensures 1).kept.same ∙ c.give_up_behind.ensures.tree.kept.same in
    let own = same_Some c.in-Some.stream stream (sym there ∙ at) in
    rw (← own) (subst (λ s. IsToldOf s (g.T.File.OpenFile.place c.in-Some.stream.source) c.args.stopped.fault c.told.result) same c.told.ensures.told)

pub returns-clause-tree : goal.returns-clause-tree
returns-clause-tree g c =
    let place = c.args.stopped.place in
    let rest = rest_count c.args.streams.items c.give_up_behind.new.streams.items c.pop.new.self.items place c.pop.result c.requires.inside c.give_up_behind.ensures.left c.pop.ensures.items c.in-Some.stream c.in-Some.is in
    let closed = subst (λ n. LeavesOut g.T.Paths.shown g.T.Source.failures g.T.Tree.sure n 1 c.give_up_behind.new.tree c.close_all.new.tree) (let e : 1 + length c.pop.new.self.items ≡ place + 1 = omega (arith, rest) in e) (c.close_all.ensures 1) in
    back_on (length c.args.streams.items) (place + 1) c.give_up_behind.ensures.tree (back_on (place + 1) 1 closed c.told.ensures.tree)
