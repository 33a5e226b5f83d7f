use Rattle.std.proofs.Common.{◌≡◌, ◌<◌, ◌∙◌, ◌+◌, ◌++◌, Some, ap, arith, get_or, length, refl, slice_get, subst, sym, take}
use Rattle.std.proofs.lemmas.Iterator.Adapters.{YieldsList-from_vec}
use Rattle.std.proofs.lemmas.Iterator.Consumers.{YieldsList-end, YieldsList-turn}
use Rattle.std.proofs.lemmas.List.{length_push}
use Rattle.std.proofs.lemmas.Option.{slice_get_read}
use Rattle.bag_writer.specs.Steps.{AreItemsOf}
use Rattle.bag_writer.proofs.HeldLemmas.{item_next, items_all}
use Rattle.bag_writer.proofs.items.Items.finish.Goals as goal
use Rattle.bag_digest.proofs.ListLemmas.{stands}

pub loop-path-preserved : goal.loop-path-preserved
loop-path-preserved c =
    let old = c.args.self in
    let place = c.loop-path.place in
    let known : c.into_known-path-items.result.items ≡ old.held.known.items = ap (λ v. v.items) c.into_known-path-items.ensures in
    let paths = c.into_known-path-items.result in
    let gives = c.into_iter-path-iterator.ensures.into_iter_gives in
    let turn = YieldsList-turn (YieldsList-from_vec {s = c.into_iter-path-iterator.result} paths.items gives.0 (gives.1 ∙ paths.ok.0)) c.loop-path.yielded _ c.loop-path.yielded_by _ c.next.new.self c.in-Some.path c.in-Some.is c.next.ensures.steps in
    let count = c.loop-path.invariant.count in
    let below : place < length old.held.contents.items = omega (arith, turn.0, count, ap length known, old.held.paired, old.held.known.ok.0, old.held.contents.ok.0) in
    let here : slice_get old.held.known.items place ≡ Some c.in-Some.path = ap (λ list. slice_get list place) (sym known)
    ∙ slice_get_read paths.items (length paths.items) place c.in-Some.path refl (omega (arith, turn.0, count)) (turn.1 ∙ ap (λ n. get_or paths.items n c.in-Some.path) (sym count)) in
    let content = stands old.held.contents.items place below in
    let each = c.in_ok-sums.ensures in
    let sums = slice_get_read c.in_ok-sums.sums.items (length c.in_ok-sums.sums.items) place c.index.result.now refl (omega (arith, below, each.count)) c.index.ensures in
    record {
      can_next = tt;
      is_finite = tt;
      count = omega (arith, count, length_push c.loop-path.yielded c.in-Some.path);
      taken = λ set files so_far.
          subst (λ items. AreItemsOf set items (so_far.first ++ take (place + 1) so_far.held)) (sym c.in_ok-push.ensures.items)
          (item_next set old files so_far c.in_ok-sums.sums.items place c.loop-path.items.items _ content.0 each (c.loop-path.invariant.taken set files so_far) here content.1 sums);
    }

pub returns-clause-all : goal.returns-clause-all
returns-clause-all c = λ set files so_far.
    let old = c.args.self in
    let paths = c.into_known-path-items.result in
    let gives = c.into_iter-path-iterator.ensures.into_iter_gives in
    let end = YieldsList-end (YieldsList-from_vec {s = c.into_iter-path-iterator.result} paths.items gives.0 (gives.1 ∙ paths.ok.0)) c.loop-path.yielded _ c.loop-path.yielded_by _ c.next.new.self c.in-None.is c.next.ensures.steps in
    items_all set old files so_far c.loop-path.place c.loop-path.items.items (c.loop-path.invariant.taken set files so_far) (omega (arith, end.1, c.loop-path.invariant.count, ap (λ v. length v.items) c.into_known-path-items.ensures))
