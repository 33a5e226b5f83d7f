use Rattle.std.proofs.Common.{arith, rules, subst, sym, ◌≡◌, to_z, of_z, w64}
use Rattle.std.proofs.Math.Facts.{to_z-of_z}
use Rattle.bag_sqlite.proofs.Words.{Database, HasCleanDisk, HasTransferRow, items_of, sizes_of, state}
use Rattle.bag_sqlite.proofs.AdoptingLemmas.{queries_then}
use Rattle.bag_sqlite.proofs.ReadingLemmas.{same_shown, still_holds}
use Rattle.bag_sqlite.proofs.SqlLemmas.{if_open}
use Rattle.bag_sqlite.proofs.transfer_queries.sizes.Goals as goal

pub returns-in-Some-clause-sizes : goal.returns-in-Some-clause-sizes
returns-in-Some-clause-sizes g c clean ledger holds =
    let old = state g.S.Store c.args.connection.now in
    let mid = state g.S.Store c.transfer_number.new.connection in
    let early : HasCleanDisk mid = omega (arith, clean, c.sizes_under.ensures.queries.survives.clean) in
    let left = c.in_ok-transfer.ensures.queries.left early in
    let still = still_holds old mid ledger early left c.requires c.in_ok-transfer.ensures.queries.survives holds in
    let named = rw c.in-Some.is at (c.in_ok-transfer.ensures.number early ledger holds) in
    let same : to_z w64 (of_z w64 c.in-Some.transfer) ≡ c.in-Some.transfer = to_z-of_z {w = w64} (record { sfits = search rules }) in
    if_open c.sizes_under.result (λ sizes. sizes.items ≡ sizes_of (items_of ledger c.args.name.now)) (c.sizes_under.ensures.opened clean) (λ is_open.
    rw same at (c.sizes_under.ensures.sizes clean ledger still c.args.name.now)
    (subst (λ (d : Database). HasTransferRow d.trees c.args.name.now c.in-Some.transfer) (sym (same_shown old mid left c.requires is_open (holds.shows (left.was_open is_open)).1.committed)) named))

pub returns-in-Some-clause-queries : goal.returns-in-Some-clause-queries
returns-in-Some-clause-queries g c = queries_then c.transfer_number.ensures.queries c.sizes_under.ensures.queries
