use Rattle.std.proofs.Common.{◌≡◌, ◌+◌, ◌++◌, ◌∷◌, ◌∙◌, [], Some, length, true, slice_set, refl, sym, ap, subst, rules, arith}
use Rattle.bag_receiver.proofs.CourierLemmas.{called_on, end_counted, end_failed, last_path, not_ended, ran_from_more, ran_from_nothing, reads_counted, texts_ran, CameFrom}
use Rattle.bag_receiver.proofs.Words.{CallsNext, ComesNext, length-append, one_more, Repeated, set-append_seam}
use Rattle.bag_receiver.proofs.receiver.Receiver.run_from.Goals as goal

pub items-init : goal.items-init
items-init g c =
    let answers : c.new-answers.result.items ≡ [] = search rules in
    let paths : c.new-paths.result.items ≡ [] = search rules in
    rw (answers, paths) (
      omega arith,
      ran_from_nothing g.K.Keeper.holds g.K.Keeper.may_leave g.K.Keeper.clean g.K.Keeper.failures c.args.self.now c.args.name.now (g.C.Courier.coming c.args.courier.now),
      record { stays = λ e. refl; rises = omega arith },
      ap one_more (omega arith),
      λ steady. steady,
    )

pub returns-in-Err-clause-failures : goal.returns-in-Err-clause-failures
returns-in-Err-clause-failures g c =
    end_counted c.items.answers.items c.in-Err.ended (g.C.Source.failures c.args.courier.now) (g.C.Source.failures c.items.courier) (g.C.Source.failures c.next_item.new.courier)
    c.items.invariant.2
    (end_failed c.next_item.result c.in-Err.ended _ _ c.in-Err.is c.next_item.ensures.failures)

pub items-preserved : goal.items-preserved
items-preserved g c =
    let invariant = c.items.invariant in
    let old = c.items.answers.items in
    let n = length old in
    let at : c.len-n.result ≡ n = search rules in
    let texts = c.items.paths.items in
    let text = c.path.result.now in
    let answer = c.deliver_from.result in
    let placed = c.in-Ok.ensures.placed in
    let after : slice_set c.add_place.new.answers.items c.len-n.result answer ≡ old ++ answer ∷ [] =
    (λ t. slice_set (placed.1 t) (at t) answer) ∙ set-append_seam old Repeated [] answer in
    let number : length texts ≡ c.len-n.result = texts_ran g.K.Keeper.holds g.K.Keeper.may_leave g.K.Keeper.clean g.K.Keeper.failures c.args.self.now c.items.self c.args.name.now
    (g.C.Courier.coming c.args.courier.now) (g.C.Courier.coming c.items.courier) texts old invariant.1 ∙ sym at in
    let same : c.index.result.now ≡ text = last_path c.add_place.new.paths.items texts text c.len-n.result c.index.result.now placed.0 number c.index.ensures in
    let kept = g.met.C.Courier.keeps_item _ _ c.deliver_from.ensures.reader.kept in
    let comes : ComesNext (g.C.Courier.coming c.items.courier) true (Some text) (g.C.Source.remaining c.next_item.new.courier) (g.C.Courier.coming c.deliver_from.new.reader) =
    subst (ComesNext (g.C.Courier.coming c.items.courier) true (Some text) (g.C.Source.remaining c.next_item.new.courier)) (sym kept.0)
    (subst (λ path. ComesNext (g.C.Courier.coming c.items.courier) true path (g.C.Source.remaining c.next_item.new.courier) (g.C.Courier.coming c.next_item.new.courier)) c.path.ensures c.in_default.ensures.came.2) in
    let came : CameFrom g.K.Keeper.holds g.K.Keeper.may_leave g.K.Keeper.clean g.K.Keeper.failures c.items.self c.deliver_from.new.self c.args.name.now (g.C.Source.remaining c.next_item.new.courier) (g.C.Source.remaining c.deliver_from.new.reader) text answer =
    subst (λ t. CameFrom g.K.Keeper.holds g.K.Keeper.may_leave g.K.Keeper.clean g.K.Keeper.failures c.items.self c.deliver_from.new.self c.args.name.now (g.C.Source.remaining c.next_item.new.courier) (g.C.Source.remaining c.deliver_from.new.reader) t answer)
    same c.deliver_from.ensures.received in
    let more : length (old ++ answer ∷ []) ≡ n + 1 = length-append old (answer ∷ []) in
    rw (after, placed.0) (
      rw more (omega (arith, invariant.0, c.in_default.ensures.came.0)),
      ran_from_more g.K.Keeper.holds g.K.Keeper.may_leave g.K.Keeper.clean g.K.Keeper.failures c.args.self.now c.items.self c.deliver_from.new.self c.args.name.now
          (g.C.Courier.coming c.args.courier.now) (g.C.Courier.coming c.items.courier) (g.C.Courier.coming c.deliver_from.new.reader) texts old text answer
          (g.C.Source.remaining c.next_item.new.courier) (g.C.Source.remaining c.deliver_from.new.reader) invariant.1 comes came c.deliver_from.ensures.store,
      reads_counted old answer (g.C.Source.failures c.args.courier.now) (g.C.Source.failures c.items.courier) (g.C.Source.failures c.next_item.new.courier) (g.C.Source.failures c.deliver_from.new.reader)
          invariant.2 (not_ended c.next_item.result c.in_default.field-0 _ _ c.in_default.is c.next_item.ensures.failures) c.deliver_from.ensures.reader.counted,
      subst (λ m. CallsNext m (g.C.Courier.nexts c.args.courier.now) (one_more (g.C.Courier.nexts c.deliver_from.new.reader))) (sym more) (called_on n (g.C.Courier.nexts c.args.courier.now) (g.C.Courier.nexts c.items.courier) (g.C.Courier.nexts c.deliver_from.new.reader) invariant.3 (kept.2 ∙ c.next_item.ensures.nexts)),
      λ steady. kept.3 (c.next_item.ensures.steady (invariant.4 steady)).1,
    )
