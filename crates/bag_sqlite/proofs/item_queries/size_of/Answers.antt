use Rattle.std.proofs.Common.{IsTrue, refl}
use Rattle.bag_sqlite.proofs.Words.{state}
use Rattle.bag_sqlite.proofs.ContentLemmas.{size_held}
use Rattle.bag_sqlite.proofs.item_queries.size_of.Goals as goal

pub returns-in-Some-clause-size : goal.returns-in-Some-clause-size
returns-in-Some-clause-size g c clean ledger holds =
    let old = state g.S.Store c.args.connection.now in
    let is_open : IsTrue old.is_open = c.in_ok-item.ensures.opened clean in
    let (o, shows) = holds.shows is_open in
    size_held old.now.trees ledger shows.database.tables.held c.args.name.now c.args.path.now c.in-Some.item.number c.in-Some.item.size (rw c.in-Some.is at (c.in_ok-item.ensures.item clean ledger holds o shows))

pub returns-in-None-clause-size : goal.returns-in-None-clause-size
returns-in-None-clause-size g c clean ledger holds =
    let old = state g.S.Store c.args.connection.now in
    let (o, shows) = holds.shows (c.in_ok-item.ensures.opened clean) in
    let none = rw c.in-None.is at (c.in_ok-item.ensures.item clean ledger holds o shows) in
    rw none refl
