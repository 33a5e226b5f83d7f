use Rattle.std.proofs.Common.{◌≡◌, ◌∙◌, ◌↔◌, None, [], subst, sym}
use Rattle.bag_program.specs.Endings.{IsWhyOf}
use Rattle.bag_program.specs.Working.{NotOpened, Worked}
use Rattle.bag_program.proofs.on_disk.ledger_work.work_on_ledger.Goals as goal

pub close-closed-requires : goal.close-closed-requires
close-closed-requires g c vain clean =
    let same = c.into_inside-keeper.ensures ∙ c.into_keeper.ensures in
    let it = c.is_vain-is_vain.ensures.none vain in
    let was = it.1 (subst g.L.Kept.Keeper.clean same clean) in
    let state = c.in-Ok.ensures.made it.0 was.0 in
    subst (λ keeper. g.L.Kept.Keeper.holds keeper []) (sym same) (was.1 state.0 state.1)

pub returns-in-Ok : goal.returns-in-Ok
returns-in-Ok g c =
    let same = c.into_inside-keeper.ensures ∙ c.into_keeper.ensures in
    Worked c.in-Ok.field-0.receiver c.in-Ok.field-0.ended c.in-Ok.ensures.works (record {
      last = c.is_vain-is_vain.new.receiver;
      only_read = c.is_vain-is_vain.ensures.reads;
      left = c.close-closed.result;
      is_left = subst (λ keeper. g.L.Ledgers.closed keeper c.close-closed.result) same c.close-closed.ensures;
      trouble = c.trouble-trouble.result;
      failed = subst (λ keeper. (c.trouble-trouble.result ≡ None) ↔ (g.L.Kept.Keeper.failures keeper ≡ 0)) same c.trouble-trouble.ensures;
      log = c.why_apart.result;
      stays = c.why_apart.ensures;
      why = c.of_ledger.result;
      is_why = subst (λ cause. IsWhyOf c.args.ledger.now cause c.of_ledger.result) c.or-cause.ensures c.of_ledger.ensures;
      told = c.or.ensures;
    })

pub returns : goal.returns
returns g c =
    let it = c.in-Err.ensures.unopened in
    NotOpened _ it.0 it.1 (rw it.2 at c.print.ensures) c.of_ledger-in-Err.ensures
