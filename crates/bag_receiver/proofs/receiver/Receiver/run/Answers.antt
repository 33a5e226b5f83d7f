use Rattle.std.proofs.Common.{◌≡◌, ◌+◌, ◌++◌, ◌∷◌, ◌∙◌, [], ℕ, List, Some, length, slice_get, slice_set, refl, sym, ap, subst, rules, arith}
use Rattle.bag_receiver.proofs.RunLemmas.{answers_more, no_answers, ran_more, ran_nothing, text_of}
use Rattle.bag_receiver.proofs.Words.{Delivery, delivery_of, Does, given_in, IsAnswer, length-append, option_map, Receives, Repeated, Runs, set-append_seam, slice_get-map, slice_get_read, Whole, with_answers}
use Rattle.bag_receiver.proofs.receiver.Receiver.run.Goals as goal

pub loop-path-init : goal.loop-path-init
loop-path-init g c =
    let none : c.new-answers.result.items ≡ [] = search rules in
    rw none (
      refl,
      omega arith,
      subst (Runs g.K.Keeper.holds g.K.Keeper.may_leave g.K.Keeper.clean g.K.Keeper.failures c.args.self.now c.args.self.now c.args.name.now) (sym (no_answers (given_in c.args.items.now)))
          (ran_nothing g.K.Keeper.holds g.K.Keeper.may_leave g.K.Keeper.clean g.K.Keeper.failures c.args.self.now c.args.name.now),
    )

pub loop-path-preserved : goal.loop-path-preserved
loop-path-preserved g c =
    let old = c.loop-path.answers.items in
    let given = given_in c.args.items.now in
    let at : c.len-n.result ≡ length old = search rules in
    let pushed : c.push.new.self.items ≡ old ++ Repeated ∷ [] = search rules in
    let after : slice_set c.push.new.self.items c.len-n.result c.deliver.result ≡ old ++ c.deliver.result ∷ [] =
    (λ t. slice_set (pushed t) (at t) c.deliver.result) ∙ set-append_seam old Repeated [] c.deliver.result in
    let file = text_of c.loop-path-item.result in
    let found : slice_get given (length old) ≡ Some file =
    slice_get-map text_of c.args.items.now (length old) ∙ ap (option_map text_of)
    (ap (slice_get c.args.items.now) c.loop-path.invariant.0 ∙ slice_get_read c.args.items.now (length c.args.items.now) c.loop-path.path-index c.loop-path-item.result refl c.loop-path-test.true c.loop-path-item.is) in
    let invariant = c.loop-path.invariant in
    let delivery : (text content : List ℕ) → Delivery = λ text content. delivery_of text (Whole content) c.deliver.result in
    let same : delivery c.as_str.result.now c.as_slice.result.now ≡ delivery file.0 file.1 = (λ t. delivery (c.as_str.ensures.value t) (c.as_slice.ensures.value t)) in
    let received : Does g.K.Keeper.holds g.K.Keeper.may_leave g.K.Keeper.clean c.loop-path.self c.deliver.new.self (Receives c.args.name.now (delivery file.0 file.1 ∷ [])) =
    subst (λ (d : Delivery). Does g.K.Keeper.holds g.K.Keeper.may_leave g.K.Keeper.clean c.loop-path.self c.deliver.new.self (Receives c.args.name.now (d ∷ []))) same c.deliver.ensures.received in
    let judged : IsAnswer c.args.name.now (delivery file.0 file.1) = subst (IsAnswer c.args.name.now) same c.deliver.ensures.judged in
    rw after (
      length-append old (c.deliver.result ∷ []) ∙ ap (λ n. n + 1) invariant.0,
      omega (arith, at, invariant.0, invariant.1, c.if-n-eq-MOST_DELIVERIES.false),
      subst (Runs g.K.Keeper.holds g.K.Keeper.may_leave g.K.Keeper.clean g.K.Keeper.failures c.args.self.now c.deliver.new.self c.args.name.now) (sym (answers_more given old file c.deliver.result found))
          (ran_more g.K.Keeper.holds g.K.Keeper.may_leave g.K.Keeper.clean g.K.Keeper.failures c.args.self.now c.loop-path.self c.deliver.new.self c.args.name.now (with_answers given old)
          (delivery_of file.0 (Whole file.1) c.deliver.result) invariant.2 received judged c.deliver.ensures.store),
    )
