use Rattle.std.proofs.Common.{◌≡◌, OnOk, IsTrue, refl, sym, subst, rules, arith}
use Rattle.bag_sqlite.proofs.Words.{First, HasCleanDisk, IsDatabaseOf, IsMigrated, KeepsCommit, Ledger, Migrated, MovesLedger, Second, ShowsLedger, state, Survives, survives_begin, survives_then, Trees}
use Rattle.bag_sqlite.specs.Migrating.{ShowsMoved}
use Rattle.bag_sqlite.proofs.MakingLemmas.{kept_since}
use Rattle.bag_sqlite.proofs.MigratingLemmas.{begin_migrating, migrated_database, migrated_shows, rows_before, to_move}
use Rattle.bag_sqlite.proofs.SqlLemmas.{kept_then, on_ok}
use Rattle.bag_sqlite.proofs.migrating.migrate.Given.{Over}
use Rattle.bag_sqlite.proofs.migrating.migrate.Goals as goal

migrated : (g : Over) (c : goal.After-connection-2-1 g) → HasCleanDisk (state g.S.Store c.leave_format_1.new.tx.conn.now) → (ledger : Ledger) → ShowsLedger First (state g.S.Store c.args.connection.now) ledger
    → IsMigrated ledger (state g.S.Store c.leave_format_1.new.tx.conn.now)
migrated g c third ledger shows =
    let old = state g.S.Store c.args.connection.now in
    let one = state g.S.Store c.make_item_tables.new.tx.conn.now in
    let second : HasCleanDisk (state g.S.Store c.move_items.new.tx.conn.now) = omega (arith, third, c.leave_format_1.ensures.kept.survives.clean) in
    let first : HasCleanDisk one = omega (arith, second, c.move_items.ensures.kept.survives.clean) in
    let made = rw c.transaction-transaction.ensures.begun at (c.in_ok-make_item_tables.ensures.made first) in
    let tables = made Migrated (rows_before old.now.trees) refl refl (begin_migrating g.S.Store c.args.connection.now ledger shows) in
    c.in_ok-leave_format_1.ensures.left third ledger (c.in_ok-move_items.ensures.moved second ledger (to_move old one ledger shows tables.0 tables.1))

inside : (g : Over) (c : goal.After-connection-2-1 g) → HasCleanDisk (state g.S.Store c.move_items.new.tx.conn.now) → IsTrue (state g.S.Store c.make_item_tables.new.tx.conn.now).in_transaction
inside g c second =
    let first : HasCleanDisk (state g.S.Store c.make_item_tables.new.tx.conn.now) = omega (arith, second, c.move_items.ensures.kept.survives.clean) in
    let stays = rw c.transaction-transaction.ensures.begun at (c.in_ok-make_item_tables.ensures.inside first) in
    stays refl

kept : (g : Over) (c : goal.After-connection-2-1 g) → HasCleanDisk (state g.S.Store c.leave_format_1.new.tx.conn.now) → KeepsCommit (state g.S.Store c.args.connection.now) (state g.S.Store c.leave_format_1.new.tx.conn.now)
kept g c third =
    let one = state g.S.Store c.make_item_tables.new.tx.conn.now in
    let two = state g.S.Store c.move_items.new.tx.conn.now in
    let three = state g.S.Store c.leave_format_1.new.tx.conn.now in
    let second : HasCleanDisk two = omega (arith, third, c.leave_format_1.ensures.kept.survives.clean) in
    let first : HasCleanDisk one = omega (arith, second, c.move_items.ensures.kept.survives.clean) in
    kept_since g.S.Store c.args.connection.now three
    (kept_then _ one three (rw c.transaction-transaction.ensures.begun at (c.make_item_tables.ensures.kept.commit first)) (kept_then one two three (c.move_items.ensures.kept.commit second (inside g c second)) (c.leave_format_1.ensures.kept.commit third)))

open_at_end : (g : Over) (c : goal.After-connection-2-1 g) → HasCleanDisk (state g.S.Store c.leave_format_1.new.tx.conn.now) → IsTrue (state g.S.Store c.args.connection.now).is_open
open_at_end g c third =
    let two = state g.S.Store c.move_items.new.tx.conn.now in
    let second : HasCleanDisk two = omega (arith, third, c.leave_format_1.ensures.kept.survives.clean) in
    let stays = c.in_ok-leave_format_1.ensures.inside third (c.in_ok-move_items.ensures.inside second (inside g c second)) in
    (kept g c third).was_open stays.1

pub returns-clause-moved : goal.returns-clause-moved
returns-clause-moved g c clean =
    let old = state g.S.Store c.args.connection.now in
    let mid = state g.S.Store c.leave_format_1.new.tx.conn.now in
    let end = c.commit.new.self.0 in
    let same : end ≡ c.connection-2-1.given.0 = search rules in
    let late : HasCleanDisk (state g.S.Store end) = search rules in
    let third : HasCleanDisk mid = omega (arith, c.commit.ensures.survives.clean) in
    subst (λ h. OnOk c.commit.result (ShowsMoved old (state g.S.Store h))) same
    (on_ok c.commit.result (λ done. record {
      was_open = open_at_end g c third;
      moved = λ ledger shows. migrated_shows mid (state g.S.Store end) ledger shows.database.sound (migrated g c third ledger shows) done.1;
    }) (c.commit.ensures.ok late))

pub returns-clause-survives : goal.returns-clause-survives
returns-clause-survives g c =
    let old = c.args.connection.now in
    let one = state g.S.Store c.make_item_tables.new.tx.conn.now in
    let two = state g.S.Store c.move_items.new.tx.conn.now in
    let three = state g.S.Store c.leave_format_1.new.tx.conn.now in
    let end = c.commit.new.self.0 in
    let same : end ≡ c.connection-2-1.given.0 = search rules in
    let P = MovesLedger (state g.S.Store old) in
    let last = survives_then one two three _ _ (λ _. ⊥) (λ _ db none. none) (λ _ db none. none) c.move_items.ensures.kept.survives c.leave_format_1.ensures.kept.survives in
    let inside = survives_then _ one three _ _ (λ _. ⊥) (λ _ db none. none) (λ _ db none. none) (rw c.transaction-transaction.ensures.begun at c.make_item_tables.ensures.kept.survives) last in
    let whole = survives_then (state g.S.Store old) three (state g.S.Store end) _ _ P (λ _ db none. absurd none)
    (λ clean db is.
    let third : HasCleanDisk three = omega (arith, clean, c.commit.ensures.survives.clean) in
    (open_at_end g c third, λ ledger shows. subst (λ (t : Trees). IsDatabaseOf (Second Migrated) t ledger) (sym is) (migrated_database three ledger shows.database.sound (migrated g c third ledger shows))))
    (survives_begin g.S.Store old three _ inside) c.commit.ensures.survives in
    subst (λ h. Survives (state g.S.Store old) (state g.S.Store h) P) same whole
