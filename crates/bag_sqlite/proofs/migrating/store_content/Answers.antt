use Rattle.std.proofs.Common.{FitsSigned, ap, arith, length, rules, subst, sym, w64}
use Rattle.bag_sqlite.proofs.Words.{HasCleanDisk, HasContentMore, IsUnderWay, state, to_z-of_z}
use Rattle.bag_sqlite.proofs.PuttingLemmas.{content_then}
use Rattle.bag_sqlite.proofs.SqlLemmas.{nothing_then, on_ok}
use Rattle.bag_sqlite.proofs.migrating.store_content.Goals as goal

pub returns-clause-stored : goal.returns-clause-stored
returns-clause-stored g c clean =
    let first = state g.S.Store c.args.tx.now.conn.now in
    let second = state g.S.Store c.insert_item.new.tx.conn.now in
    let third = state g.S.Store c.insert_pieces.new.tx.conn.now in
    let last = state g.S.Store c.set_size.new.tx.conn.now in
    let it = c.in_ok-insert_pieces.ensures.stored in
    let item = c.in_ok-item.item in
    let fits : FitsSigned w64 item = search rules in
    let same = to_z-of_z w64 item fits in
    let late : HasCleanDisk third = omega (arith, clean, c.set_size.ensures.kept.survives.clean) in
    let early : HasCleanDisk second = omega (arith, late, c.insert_pieces.ensures.kept.survives.clean) in
    on_ok c.set_size.result (λ set o way.
    subst (λ octets. IsUnderWay o last × HasContentMore o first.now.trees last.now.trees c.args.transfer c.args.path.now octets) it.2
    (content_then first second third last item c.args.transfer c.args.path.now it.0 (length c.args.content.now) it.1 (ap length (sym it.2))
    (rw (to_z-of_z w64 c.args.transfer c.ranges.transfer) at (c.in_ok-item.ensures.added early o)) (rw same at (it.3 late o)) (rw same at (set o)) way))
    (c.set_size.ensures.set clean)

pub returns-clause-inside : goal.returns-clause-inside
returns-clause-inside g c clean =
    let second = state g.S.Store c.insert_item.new.tx.conn.now in
    let third = state g.S.Store c.insert_pieces.new.tx.conn.now in
    let late : HasCleanDisk third = omega (arith, clean, c.set_size.ensures.kept.survives.clean) in
    let early : HasCleanDisk second = omega (arith, late, c.insert_pieces.ensures.kept.survives.clean) in
    on_ok c.set_size.result (λ stays mode. stays (c.in_ok-insert_pieces.ensures.inside late (c.in_ok-item.ensures.inside early mode))) (c.set_size.ensures.inside clean)

pub returns-in_err-insert_pieces-clause-kept : goal.returns-in_err-insert_pieces-clause-kept
returns-in_err-insert_pieces-clause-kept g c = search (rules, nothing_then)

pub returns-clause-kept : goal.returns-clause-kept
returns-clause-kept g c = search (rules, nothing_then)
