use Rattle.std.proofs.Common.{◌≡◌, ◌++◌, ◌∷◌, ◌∙◌, [], List, true, false, length, refl, sym, ap, subst, rules, arith}
use Rattle.bag_receiver.specs.declared.fetch.FetchOutcome.{FetchOutcome}
use Rattle.bag_receiver.specs.declared.report.ViewFault.TheVariants.{Keeper}
use Rattle.bag_receiver.specs.FetchingInside.{IsUnderWay}
use Rattle.bag_receiver.specs.Suppliers.{IsReply, supplier_failures}
use Rattle.bag_receiver.proofs.AuditLemmas.{none_left}
use Rattle.bag_receiver.proofs.CountLemmas.{counts_err, no_fault}
use Rattle.bag_receiver.proofs.FetchLemmas.{all_reached, failures_counted, got_more, none_counted, outcomes_more, passed_over, pushed_ok, ran_looked, ran_round, round_of, went_round}
use Rattle.bag_receiver.proofs.Words.{CountsEach, err_from_is_err_and, length-append, Store, string_bytes}
use Rattle.bag_receiver.proofs.receiver.Receiver.fetch.Goals as goal

pub returns-in_err-list : goal.returns-in_err-list
returns-in_err-list g c =
    let error = err_from_is_err_and c.from_residual.result c.from_residual.ensures.1 in
    record {
      fetched = search rules;
      none = search rules;
      judged = search rules;
      supplier = search rules;
      store = rw (error.1, error.2) (counts_err _ (λ store. Keeper (Store store)) _ _ c.in_err-list.ensures.store);
    }

pub loop-request-init : goal.loop-request-init
loop-request-init g c =
    let all : c.into_iter-request-iterator.result.rest.items ≡ c.in_ok-list.field-0.list.items = search rules in
    let count : c.len.result ≡ length c.in_ok-list.field-0.list.items = search rules in
    let same = ap length all in
    let none : c.in_ok-outcomes.outcomes.items ≡ [] = c.in_ok-outcomes.ensures.items in
    record {
      room = omega (arith, same, count, c.in_ok-outcomes.ensures.len, c.in_ok-outcomes.ensures.capacity);
      ran = (
        [],
        none,
        tt,
        ran_looked g.K.Keeper.holds g.K.Keeper.may_leave g.K.Keeper.clean g.K.Keeper.failures c.args.self.now c.requests.new.self c.args.name.now c.requests.ensures.looks
            (c.in_ok-list.ensures.store.stays (no_fault c.in_ok-list.field-0 (λ store. Keeper (Store store)))),
        λ clean now in_state. subst (λ left. IsUnderWay now.held c.args.name.now c.in_ok-list.field-0.held.items left []) (sym all) (c.in_ok-list.ensures.prepared clean now in_state),
      );
      same = refl;
      failures = subst (λ (outcomes : List FetchOutcome). CountsEach (supplier_failures outcomes) (g.S.Source.failures c.args.supplier.now) (g.S.Source.failures c.args.supplier.now)) (sym none) (none_counted (g.S.Source.failures c.args.supplier.now));
      asks = (let n = ap length none in omega (arith, n));
    }

pub loop-request-preserved-then-is_marked : goal.loop-request-preserved-then-is_marked
loop-request-preserved-then-is_marked g c =
    let invariant = c.loop-request.invariant in
    let at = c.in-Some.ensures.steps.0 in
    let count = ap length at in
    record {
      room = omega (arith, count, invariant.room);
      ran = (
        invariant.ran.0,
        invariant.ran.1,
        invariant.ran.2,
        invariant.ran.3,
        λ clean now in_state. passed_over now.held c.args.name.now c.loop-request.held.items c.in-Some.request c.loop-request.request-iterator.rest.items c.next.new.self.rest.items invariant.ran.0 at
            (invariant.ran.4 clean now in_state) (c.is_marked.ensures.0 c.if-is_marked.true),
      );
      same = invariant.same;
      failures = invariant.failures;
      asks = invariant.asks;
    }

pub loop-request-preserved : goal.loop-request-preserved
loop-request-preserved g c =
    let invariant = c.loop-request.invariant in
    let request = c.in-Some.request in
    let at = c.in-Some.ensures.steps.0 in
    let count = ap length at in
    let got = c.fetch_one-answer.ensures.got in
    let round = round_of request got.0 in
    let old = c.loop-request.outcomes.items in
    let answer = c.fetch_one-answer.result in
    let one : FetchOutcome = record { line = request.line; path = request.path; answer = answer } in
    let pushed : c.push-pushed.new.self.items ≡ old ++ one ∷ [] =
    pushed_ok c.push-pushed.result old c.push-pushed.new.self.items one (c.push-pushed.ensures.succeeds (omega (arith, count, invariant.room))) c.push-pushed.ensures.items in
    let more = ap length pushed ∙ length-append old (one ∷ []) in
    record {
      room = omega (arith, count, invariant.room, c.push-pushed.ensures.upper_bound, c.push-pushed.ensures.capacity);
      ran = (
        invariant.ran.0 ++ round ∷ [],
        outcomes_more old c.push-pushed.new.self.items invariant.ran.0 request got.0 answer invariant.ran.1 got.1 pushed,
        got_more (g.S.Supplier.supply c.args.supplier.now) invariant.ran.0 round invariant.ran.2 (subst (λ supply. IsReply supply (string_bytes request.url) request.path got.0) invariant.same got.2),
        ran_round g.K.Keeper.holds g.K.Keeper.may_leave g.K.Keeper.clean g.K.Keeper.failures c.args.self.now c.loop-request.self c.fetch_one-answer.new.self c.args.name.now invariant.ran.0 round invariant.ran.3 got.3,
        λ clean now in_state. went_round now.held c.args.name.now c.loop-request.held.items request c.loop-request.request-iterator.rest.items c.next.new.self.rest.items invariant.ran.0 at
            (invariant.ran.4 (got.3.received.was_clean clean) now in_state) got.0 c.mark_taken.new.marks.items
            (λ e. (let no : c.is_marked.result ≡ false = search rules in let h : true ≡ false = sym (c.is_marked.ensures.1 e) ∙ no in cc))
            (λ e. c.mark_taken.ensures.taken (got.1 ∙ e)) (λ other. c.mark_taken.ensures.others (λ e. other (sym got.1 ∙ e))),
      );
      same = c.fetch_one-answer.ensures.same ∙ invariant.same;
      failures = subst (λ (outcomes : List FetchOutcome). CountsEach (supplier_failures outcomes) (g.S.Source.failures c.args.supplier.now) (g.S.Source.failures c.fetch_one-answer.new.supplier)) (sym pushed)
          (failures_counted old one _ _ _ invariant.failures c.fetch_one-answer.ensures.failures);
      asks = omega (arith, more, c.fetch_one-answer.ensures.asks, invariant.asks);
    }

pub returns : goal.returns
returns g c =
    let invariant = c.loop-request.invariant in
    let zero : length c.loop-request.request-iterator.rest.items ≡ 0 = search rules in
    record {
      fetched = (
        invariant.ran.0,
        invariant.ran.1,
        invariant.ran.2,
        invariant.ran.3,
        λ clean now in_state. all_reached now.held c.args.name.now c.loop-request.held.items c.loop-request.request-iterator.rest.items invariant.ran.0 (none_left [] c.loop-request.request-iterator.rest.items zero)
            (invariant.ran.4 clean now in_state),
      );
      none = search rules;
      judged = search rules;
      supplier = search rules;
      store = search rules;
    }
