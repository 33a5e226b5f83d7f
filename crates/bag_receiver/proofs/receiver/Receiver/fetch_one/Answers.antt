use Rattle.std.proofs.Common.{refl, false, true}
use Rattle.bag_receiver.specs.Suppliers.{Delivered, Failing, Without}
use Rattle.bag_receiver.proofs.CountLemmas.{counts_answer, no_fault}
use Rattle.bag_receiver.proofs.FetchLemmas.{accepted_counts, delivered, failing, got, supplied_as, told_taken, without}
use Rattle.bag_receiver.proofs.RunLemmas.{ran_nothing}
use Rattle.bag_receiver.proofs.Words.{Keeper, Refused, Store, string_bytes}
use Rattle.bag_receiver.proofs.receiver.Receiver.fetch_one.Goals as goal

pub returns-in-Err-clause-got : goal.returns-in-Err-clause-got
returns-in-Err-clause-got g c = (
  Failing,
  refl,
  failing (g.S.Supplier.supply c.args.supplier.now) _ _,
  ran_nothing g.K.Keeper.holds g.K.Keeper.may_leave g.K.Keeper.clean g.K.Keeper.failures c.args.self.now c.args.name.now,
)

pub returns-in-Ok-false-clause-got : goal.returns-in-Ok-false-clause-got
returns-in-Ok-false-clause-got g c = (
  Without,
  refl,
  without (g.S.Supplier.supply c.args.supplier.now) _ _ _ (supplied_as (g.S.Supplier.supply c.args.supplier.now) (string_bytes c.args.request.now.url) c.as_str.result.now c.args.request.now.path c.as_str-2.result.now
      c.in-Ok-false.field-0 false _ c.as_str.ensures.value c.as_str-2.ensures.text c.in-Ok-false.field-0-test c.in-Ok-false.ensures.supplied),
  ran_nothing g.K.Keeper.holds g.K.Keeper.may_leave g.K.Keeper.clean g.K.Keeper.failures c.args.self.now c.args.name.now,
)

pub returns-in-Ok-clause-got : goal.returns-in-Ok-clause-got
returns-in-Ok-clause-got g c =
    let taken = c.in-Ok.ensures.taken in
    let answer = c.in-Ok.field-0 in (
      Delivered taken.0 answer,
      told_taken taken.0 answer c.in-Ok.ensures.accepted,
      delivered (g.S.Supplier.supply c.args.supplier.now) _ _ _ _ taken.0 answer (supplied_as (g.S.Supplier.supply c.args.supplier.now) (string_bytes c.args.request.now.url) c.as_str.result.now c.args.request.now.path c.as_str-2.result.now
          c.in-Ok-true.field-0 true _ c.as_str.ensures.value c.as_str-2.ensures.text c.in-Ok-true.field-0-test c.in-Ok-true.ensures.supplied) taken.1,
      got g.K.Keeper.holds g.K.Keeper.may_leave g.K.Keeper.clean g.K.Keeper.failures c.args.self.now c.take_from.new.self c.args.name.now c.args.request.now.path taken.0 answer
          taken.2 taken.3 (accepted_counts answer _ _ c.in-Ok.ensures.accepted (c.in-Ok.ensures.store.stays (no_fault answer (λ store. Keeper (Store store))))),
    )

pub returns-in-Err-take_from-clause-got : goal.returns-in-Err-take_from-clause-got
returns-in-Err-take_from-clause-got g c =
    let taken = c.in-Err-take_from.ensures.taken in
    let fault = c.in-Err-take_from.fault in (
      Delivered taken.0 (Refused fault),
      refl,
      delivered (g.S.Supplier.supply c.args.supplier.now) _ _ _ _ taken.0 (Refused fault) (supplied_as (g.S.Supplier.supply c.args.supplier.now) (string_bytes c.args.request.now.url) c.as_str.result.now c.args.request.now.path
          c.as_str-2.result.now c.in-Ok-true.field-0 true _ c.as_str.ensures.value c.as_str-2.ensures.text c.in-Ok-true.field-0-test c.in-Ok-true.ensures.supplied) taken.1,
      got g.K.Keeper.holds g.K.Keeper.may_leave g.K.Keeper.clean g.K.Keeper.failures c.args.self.now c.take_from.new.self c.args.name.now c.args.request.now.path taken.0 (Refused fault)
          taken.2 taken.3 (counts_answer _ _ _ c.in-Err-take_from.ensures.store),
    )
