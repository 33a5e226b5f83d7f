use Rattle.std.proofs.Common.{◌≢◌, ◌∙◌, rules, sym}
use Rattle.bag_receiver.specs.declared.begin.BeginFault.TheVariants.{Keeper}
use Rattle.bag_receiver.proofs.BeginSteps.{err_is, failed_answers, found_other, looked_failed, not_failed, one_of, opened_new, opening_failed, store_counted}
use Rattle.bag_receiver.proofs.receiver.Receiver.open_as.Goals as goal
use Rattle.bag_receiver.proofs.CountLemmas.{counts_after}

pub returns-in_err-held-clause-begun : goal.returns-in_err-held-clause-begun
returns-in_err-held-clause-begun g c = λ given named taken.
    let fault = c.in_err-held.field-0.0 in
    rw (err_is c.from_residual.result (Keeper fault) c.from_residual.ensures.1)
    (looked_failed g.K.Keeper.holds g.K.Keeper.may_leave g.K.Keeper.clean c.args.name.now given c.args.tags.now named taken c.args.self.now.plans c.args.self.now.keeper c.tags.new.self fault c.tags.ensures.reads)

pub returns-in_err-held-clause-store : goal.returns-in_err-held-clause-store
returns-in_err-held-clause-store g c =
    let fault = c.in_err-held.field-0.0 in
    store_counted c.tags.result c.from_residual.result fault (g.K.Keeper.failures c.args.self.now.keeper) (g.K.Keeper.failures c.tags.new.self) c.in_err-held.was (err_is c.from_residual.result (Keeper fault) c.from_residual.ensures.1) c.tags.ensures.store.counted

pub returns-in_err-begin-in-None-clause-begun : goal.returns-in_err-begin-in-None-clause-begun
returns-in_err-begin-in-None-clause-begun g c = λ given named taken.
    let fault = c.in_err-begin-in-None.field-0.0 in
    rw (err_is c.from_residual-in_err-begin-in-None.result (Keeper fault) c.from_residual-in_err-begin-in-None.ensures.1)
    (opening_failed g.K.Keeper.holds g.K.Keeper.may_leave g.K.Keeper.clean c.args.name.now given c.args.tags.now named taken c.args.self.now.plans c.args.self.now.keeper c.tags.new.self c.begin.new.self c.tags.ensures.reads
    (λ clean ledger held. sym c.in-None.is ∙ c.in_ok-held.ensures.tags clean ledger held) fault c.in_err-begin-in-None.ensures.begun)

pub returns-in_err-begin-in-None-clause-store : goal.returns-in_err-begin-in-None-clause-store
returns-in_err-begin-in-None-clause-store g c =
    let fault = c.in_err-begin-in-None.field-0.0 in
    counts_after _ _ (g.K.Keeper.failures c.args.self.now.keeper) (g.K.Keeper.failures c.tags.new.self) (g.K.Keeper.failures c.begin.new.self) (not_failed c.tags.result c.in_ok-held.field-0 c.in_ok-held.was) c.tags.ensures.store.counted
    (store_counted c.begin.result c.from_residual-in_err-begin-in-None.result fault (g.K.Keeper.failures c.tags.new.self) (g.K.Keeper.failures c.begin.new.self) c.in_err-begin-in-None.was (err_is c.from_residual-in_err-begin-in-None.result (Keeper fault) c.from_residual-in_err-begin-in-None.ensures.1) c.begin.ensures.store.counted)

pub returns-in-Some-clause-begun : goal.returns-in-Some-clause-begun
returns-in-Some-clause-begun g c = λ given named taken.
    let other : c.in-Some.held ≢ c.args.tags.now = search rules in
    found_other g.K.Keeper.holds g.K.Keeper.may_leave g.K.Keeper.clean c.args.name.now given c.args.tags.now named taken c.args.self.now.plans c.args.self.now.keeper c.tags.new.self c.in-Some.held c.tags.ensures.reads
    (λ clean ledger held. sym c.in-Some.is ∙ c.in_ok-held.ensures.tags clean ledger held) other

pub returns-clause-begun : goal.returns-clause-begun
returns-clause-begun g c = λ given named taken.
    opened_new g.K.Keeper.holds g.K.Keeper.may_leave g.K.Keeper.clean c.args.name.now given c.args.tags.now named taken c.args.self.now.plans c.args.self.now.keeper c.tags.new.self c.begin.new.self c.tags.ensures.reads
    (λ clean ledger held. sym c.in-None.is ∙ c.in_ok-held.ensures.tags clean ledger held) c.keep_plan.new.plans c.args.plan c.requires (one_of c.keep_plan.result _ _ c.keep_plan.ensures.kept c.keep_plan.ensures.unchanged) c.in_ok-begin-in-None.ensures.begun

pub returns-in_err-held-clause-judged : goal.returns-in_err-held-clause-judged
returns-in_err-held-clause-judged g c = λ given named taken.
    let fault = c.in_err-held.field-0.0 in
    failed_answers c.from_residual.result c.args.name.now given c.args.tags.now fault named taken (err_is c.from_residual.result (Keeper fault) c.from_residual.ensures.1)

pub returns-in_err-begin-in-None-clause-judged : goal.returns-in_err-begin-in-None-clause-judged
returns-in_err-begin-in-None-clause-judged g c = λ given named taken.
    let fault = c.in_err-begin-in-None.field-0.0 in
    failed_answers c.from_residual-in_err-begin-in-None.result c.args.name.now given c.args.tags.now fault named taken (err_is c.from_residual-in_err-begin-in-None.result (Keeper fault) c.from_residual-in_err-begin-in-None.ensures.1)
