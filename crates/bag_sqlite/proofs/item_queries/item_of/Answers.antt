use Rattle.std.proofs.Common.{FitsSigned, rules, w64, ℕ, ℤ, MatchOption, None, Option, arith, subst, ◌≡◌}
use Rattle.bag_sqlite.proofs.Words.{content_of, Database, HasCleanDisk, HasItem, HasItemRow, HeldFile, state, to_z-of_z}
use Rattle.bag_sqlite.proofs.AdoptingLemmas.{queries_then}
use Rattle.bag_sqlite.proofs.ContentLemmas.{item_told}
use Rattle.bag_sqlite.proofs.ReadingLemmas.{if_ok, same_shown, still_shows}
use Rattle.bag_sqlite.proofs.SqlLemmas.{if_open}
use Rattle.bag_sqlite.proofs.item_queries.item_of.Goals as goal

pub returns-clause-item : goal.returns-clause-item
returns-clause-item g c clean ledger holds o shows =
    let old = state g.S.Store c.args.connection.now in
    let mid = state g.S.Store c.transfer_number.new.connection in
    let name = c.args.name.now in
    let path = c.args.path.now in
    let transfer = c.in-Some.transfer in
    let fits : FitsSigned w64 transfer = search rules in
    let early : HasCleanDisk mid = omega (arith, clean, c.item_in.ensures.queries.survives.clean) in
    let left = c.in_ok-transfer.ensures.queries.left early in
    let named = rw c.in-Some.is at (c.in_ok-transfer.ensures.number early ledger holds) in
    let is = λ (item : Option HeldFile). MatchOption item (content_of ledger name path ≡ None) (λ item. HasItem o old.now.trees name path item.number item.size) in
    if_open c.item_in.result is (c.item_in.ensures.opened clean) (λ is_open.
    let still = still_shows old mid ledger left c.requires is_open shows in
    if_ok c.item_in.result _ is (λ item told.
    item_told old.now.trees ledger shows.database.tables.held name path transfer named item
    (subst (λ (d : Database). MatchOption item ((number : ℤ) (size : ℕ) → ¬ HasItemRow o d.trees number transfer path size) (λ item. HasItemRow o d.trees item.number transfer path item.size))
    (same_shown old mid left c.requires is_open shows.committed) told))
    (rw (to_z-of_z w64 transfer fits) at (c.item_in.ensures.item clean ledger o still)))

pub returns-clause-queries : goal.returns-clause-queries
returns-clause-queries g c = queries_then c.transfer_number.ensures.queries c.item_in.ensures.queries
