use Rattle.std.proofs.Common.{◌≡◌, ◌∙◌, ◌+◌, arith, length, subst, sym}
use Rattle.bag_rules.specs.Returning.{LeavesOut}
use Rattle.bag_rules.proofs.Words.{same_Some}
use Rattle.bag_writer.specs.Returned.{IsStoppedAt, IsToldOf, LeavesCopies}
use Rattle.bag_writer.proofs.FilesOut.{sink_back}
use Rattle.bag_writer.proofs.returning.stopped_at.Goals as goal
use Rattle.bag_rules.proofs.ReturningLemmas.{last_there, rest_count, rest_there, some_left, back_on}

pub unreachable-requires : goal.unreachable-requires
unreachable-requires g c = some_left c.args.copies.items c.give_up_behind.new.copies.items c.pop.new.self.items c.args.stop.place c.pop.result c.requires.inside c.give_up_behind.ensures.left c.pop.ensures.items c.give_up_behind.new.copies.len c.give_up_behind.new.copies.ok.0 c.in_default.ensures.cases.0

pub close_all-requires : goal.close_all-requires
close_all-requires g c = λ k y at.
    let there = rest_there c.args.copies.items c.give_up_behind.new.copies.items c.pop.new.self.items c.args.stop.place c.pop.result c.requires.inside c.give_up_behind.ensures.left c.pop.ensures.items c.in-Some.copy c.in-Some.is k y at in
    c.requires.before k y there.0 there.1

pub told-requires : goal.told-requires
told-requires g c =
    let there = last_there c.args.copies.items c.give_up_behind.new.copies.items c.pop.new.self.items c.args.stop.place c.pop.result c.requires.inside c.give_up_behind.ensures.left c.pop.ensures.items c.in-Some.copy c.in-Some.is in
    let same = (c.close_all.ensures.tree 1).kept.same ∙ c.give_up_behind.ensures.tree.kept.same in
    subst (λ s. IsStoppedAt g.T.File.OpenFile.place g.T.File.Source.failures g.S.File.SinkFile.place g.S.File.SinkFile.failures s c.args.stop.fault c.in-Some.copy) (sym same) (c.requires.here c.in-Some.copy there)

pub returns-clause-told : goal.returns-clause-told
returns-clause-told g c = λ copy at.
    let there = last_there c.args.copies.items c.give_up_behind.new.copies.items c.pop.new.self.items c.args.stop.place c.pop.result c.requires.inside c.give_up_behind.ensures.left c.pop.ensures.items c.in-Some.copy c.in-Some.is in
    let same = (c.close_all.ensures.tree 1).kept.same ∙ c.give_up_behind.ensures.tree.kept.same in
    let own = same_Some c.in-Some.copy copy (sym there ∙ at) in
    rw (← own) (subst (λ s. IsToldOf s (g.T.File.OpenFile.place c.in-Some.copy.source) c.args.stop.fault c.told.result) same c.told.ensures.told)

pub returns-clause-tree : goal.returns-clause-tree
returns-clause-tree g c =
    let place = c.args.stop.place in
    let rest = rest_count c.args.copies.items c.give_up_behind.new.copies.items c.pop.new.self.items place c.pop.result c.requires.inside c.give_up_behind.ensures.left c.pop.ensures.items c.in-Some.copy c.in-Some.is in
    let closed = subst (λ n. LeavesOut g.T.Paths.shown g.T.Source.failures g.T.Tree.sure n 1 c.give_up_behind.new.tree c.close_all.new.tree) (let e : 1 + length c.pop.new.self.items ≡ place + 1 = omega (arith, rest) in e) (c.close_all.ensures.tree 1) in
    back_on (length c.args.copies.items) (place + 1) c.give_up_behind.ensures.tree (back_on (place + 1) 1 closed c.told.ensures.tree)

pub returns-clause-sink : goal.returns-clause-sink
returns-clause-sink g c =
    let place = c.args.stop.place in
    let rest = rest_count c.args.copies.items c.give_up_behind.new.copies.items c.pop.new.self.items place c.pop.result c.requires.inside c.give_up_behind.ensures.left c.pop.ensures.items c.in-Some.copy c.in-Some.is in
    let closed = subst (λ n. LeavesCopies g.S.Sink.stored g.S.Sink.is_open g.S.Sink.failures g.S.Sink.sure n 1 c.give_up_behind.new.sink c.close_all.new.sink) (let e : 1 + length c.pop.new.self.items ≡ place + 1 = omega (arith, rest) in e) (c.close_all.ensures.sink 1) in
    sink_back (length c.args.copies.items) (place + 1) c.give_up_behind.ensures.sink (sink_back (place + 1) 1 closed c.told.ensures.sink)
