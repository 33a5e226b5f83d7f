use Rattle.bag_sqlite.proofs.Words.{state}
use Rattle.bag_sqlite.proofs.AdoptedLemmas.{left_offered}
use Rattle.bag_sqlite.proofs.laws.a_stopped_opening_leaves_the_ledger.Goals as goal

pub returns : goal.returns
returns g c ledger offers survives clean trees may =
    left_offered g.S.Store (state g.S.Store c.args.offered.now) (state g.S.Store c.args.stopped.now) ledger (g.met.S.Store.settled c.args.offered.now.store) clean survives offers trees may
