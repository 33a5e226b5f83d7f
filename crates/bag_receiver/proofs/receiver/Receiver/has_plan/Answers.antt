use Rattle.std.proofs.Common.{◌∙◌, sym, rules}
use Rattle.bag_receiver.proofs.AuditLemmas.{reads_on}
use Rattle.bag_receiver.proofs.CountLemmas.{counts_after, counts_blamed, no_fault}
use Rattle.bag_receiver.proofs.ReceiverLemmas.{does_plan, does_read, plan_found}
use Rattle.bag_receiver.proofs.Words.{bytes_eq, entry_here, lookup, plans_in, Store}
use Rattle.bag_receiver.proofs.receiver.Receiver.has_plan.Goals as goal

pub returns-then-contains_key-clause-found : goal.returns-then-contains_key-clause-found
returns-then-contains_key-clause-found g c = λ clean now in_state. (
  c.is_name.ensures.0 (search rules),
  plan_found g.K.Keeper.holds g.K.Keeper.may_leave g.K.Keeper.clean c.args.name.now c.args.self.now.plans (sym c.contains_key.ensures ∙ search rules),
)

pub returns-in-Ok-clause-looks : goal.returns-in-Ok-clause-looks
returns-in-Ok-clause-looks g c =
    does_plan g.K.Keeper.holds g.K.Keeper.may_leave g.K.Keeper.clean c.args.self.now.keeper c.tags.new.self c.args.self.now.plans c.keep_plan.new.plans c.args.name.now c.in-Some.tags c.in-Ok.plan
    c.tags.ensures.reads c.in_ok-keep_plan-in-Ok.ensures.kept c.in-Ok.ensures.opened
    (λ clean ledger holds. sym (c.in_ok-tags.ensures.tags clean ledger holds) ∙ search rules)

pub returns-in-Ok-clause-found : goal.returns-in-Ok-clause-found
returns-in-Ok-clause-found g c = λ clean now in_state.
    (c.is_name.ensures.0 (search rules), (c.in-Ok.plan, (λ t. lookup (bytes_eq c.args.name.now) (c.in_ok-keep_plan-in-Ok.ensures.kept t)) ∙ entry_here c.args.name.now c.in-Ok.plan (plans_in c.args.self.now.plans)))

pub returns : goal.returns
returns g c =
    let holds = g.K.Keeper.holds in
    let may_leave = g.K.Keeper.may_leave in
    let clean = g.K.Keeper.clean in
    let old = c.args.self.now.keeper in
    record {
      looks = does_read holds may_leave clean old c.blame.new.self c.args.self.now.plans (reads_on holds may_leave clean old c.tags.new.self c.blame.new.self c.in_ok-tags.ensures.reads c.blame.ensures.reads);
      found = λ clean now in_state. tt;
      named = c.is_name.ensures.0 (search rules);
      store = counts_after _ _ _ _ _ (no_fault c.in_ok-tags.field-0 Store) c.in_ok-tags.ensures.store.counted (counts_blamed c.blame.result _ _ c.blame.ensures.store.counted);
    }
