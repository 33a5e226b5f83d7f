use Rattle.std.proofs.Common.{◌≡◌, ◌+◌, ◌≤◌, List, length, map, vec_len}
use Rattle.std.specs.Vec.{vec_capacity}
use Rattle.bag_receiver.specs.FetchingInside.{IsUnderWay}
use Rattle.bag_digest.specs.Failures.{RisesBy}
use Rattle.bag_receiver.specs.Suppliers.{deliveries_by, IsGotFrom, outcome_of, Round, supplier_failures}
use Rattle.bag_receiver.proofs.Words.{AllByRecursion, CountsEach, IsInState, LedgerState, Runs}
use Rattle.bag_receiver.proofs.receiver.Receiver.fetch.Given as goal

abbrev pub invariant-loop-request : goal.invariant-loop-request
invariant-loop-request g l =
    let keeper = g.K.Keeper in
    let supplier = g.S.Supplier in
    record {
      room : vec_len l.outcomes + length l.request-iterator.rest.items ≤ vec_capacity l.outcomes;
      ran : (rounds : List Round) × (l.outcomes.items ≡ map outcome_of rounds) × AllByRecursion (IsGotFrom (supplier.supply l.fn.supplier)) rounds
          × Runs keeper.holds keeper.may_leave keeper.clean keeper.failures l.fn.self l.self l.name (deliveries_by rounds)
          × (keeper.clean l.self.keeper → (now : LedgerState) → IsInState keeper.holds keeper.may_leave l.fn.self now → IsUnderWay now.held l.name l.held.items l.request-iterator.rest.items rounds);
      same : supplier.supply l.supplier ≡ supplier.supply l.fn.supplier;
      failures : CountsEach (supplier_failures l.outcomes.items) (g.S.Source.failures l.fn.supplier) (g.S.Source.failures l.supplier);
      asks : RisesBy (length l.outcomes.items) (supplier.asks l.fn.supplier) (supplier.asks l.supplier);
    }
