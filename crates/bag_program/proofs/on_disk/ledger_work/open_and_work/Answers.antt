use Rattle.std.proofs.Common.{◌∙◌, [], subst}
use Rattle.bag_receiver.specs.LedgerStates.{settled}
use Rattle.bag_program.proofs.MakingLemmas.{goes_on}
use Rattle.bag_program.proofs.ViewLemmas.{opened_by, valid_by}
use Rattle.bag_program.proofs.on_disk.ledger_work.open_and_work.Goals as goal

pub returns-clause-works : goal.returns-clause-works
returns-clause-works g c = record {
  kept = c.in_ok-opened.opened.kept;
  is_made = c.in_ok-opened.opened.is_made;
  before = c.new-receiver.result;
  open_for = c.in_ok-opened.ensures;
  over = record { keeper = c.new-receiver.ensures.keeper ∙ c.new.ensures; in_state = rw c.new.ensures at c.new-receiver.ensures.in_state };
  done = c.do_work-ended.ensures;
}

pub returns-clause-valid : goal.returns-clause-valid
returns-clause-valid g c valid clean name is stored holds =
    let it = valid_by g.L.Kept.Keeper _ _ _ _ _ _ _ valid clean name _ _ _ _ c.args.work.now is c.do_work-ended.ensures in
    let opened = opened_by g.L.Ledgers c.args.ledger.now name c.in_ok-opened.opened.is_made c.in_ok-opened.opened.kept c.args.work.now is c.in_ok-opened.ensures in
    let before = subst g.L.Kept.Keeper.clean (c.new-receiver.ensures.keeper ∙ c.new.ensures) it.0 in
    let in_state = rw c.new.ensures at c.new-receiver.ensures.in_state in
    it.1 (settled stored) (in_state (settled stored) (g.met.L.Ledgers.keeps c.args.ledger.now c.in_ok-opened.opened.kept stored opened holds before))

pub returns-clause-made : goal.returns-clause-made
returns-clause-made g c is clean =
    let it = goes_on g.L.Kept.Keeper _ _ _ _ _ _ _ g.L.Ledgers _ _ _ _ c.args.ledger.now c.in_ok-opened.opened.is_made c.in_ok-opened.opened.kept c.args.work.now is c.in_ok-opened.ensures c.do_work-ended.ensures in
    let goes = it.1 clean in
    let before = subst g.L.Kept.Keeper.clean (c.new-receiver.ensures.keeper ∙ c.new.ensures) goes.0 in
    let in_state = rw c.new.ensures at c.new-receiver.ensures.in_state in
    goes.1 (settled []) (in_state (settled []) (g.met.L.Ledgers.begins c.args.ledger.now c.in_ok-opened.opened.kept it.0 before))
