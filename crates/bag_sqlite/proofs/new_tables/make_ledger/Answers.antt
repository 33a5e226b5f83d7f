use Rattle.std.proofs.Common.{◌≡◌, [], false, OnErr, OnOk, IsTrue, refl, sym, subst, rules, arith}
use Rattle.bag_sqlite.proofs.Words.{HasCleanDisk, IsCreated, IsDatabaseOf, IsLeft, IsMade, KeepsCommit, MakesLedger, New, no_rows, no_schema, Second, state, Survives, survives_begin, survives_then, Trees}
use Rattle.bag_sqlite.proofs.MakingLemmas.{begin_making, created_by, kept_since, left_by_failing}
use Rattle.bag_sqlite.proofs.SqlLemmas.{kept_then, on_err, on_ok}
use Rattle.bag_sqlite.proofs.new_tables.make_ledger.Given.{Over}
use Rattle.bag_sqlite.proofs.new_tables.make_ledger.Goals as goal

blank : (g : Over) (c : goal.After-connection-2-1 g) → (state g.S.Store c.args.connection.now).now.schema ≡ no_schema
blank g c = search rules

made : (g : Over) (c : goal.After-connection-2-1 g) → HasCleanDisk (state g.S.Store c.write_format.new.tx.conn.now)
    → IsMade (state g.S.Store c.write_format.new.tx.conn.now)
made g c third =
    let second : HasCleanDisk (state g.S.Store c.make_item_tables.new.tx.conn.now) = omega (arith, third, c.write_format.ensures.kept.survives.clean) in
    let first : HasCleanDisk (state g.S.Store c.make_transfer_tables.new.tx.conn.now) = omega (arith, second, c.make_item_tables.ensures.kept.survives.clean) in
    let one = rw c.transaction-transaction.ensures.begun at (c.in_ok-make_transfer_tables.ensures.made first) in
    c.in_ok-write_format.ensures.made third (c.in_ok-make_item_tables.ensures.made second New no_rows refl refl (one (begin_making g.S.Store c.args.connection.now (blank g c)))).0

kept : (g : Over) (c : goal.After-connection-2-1 g) → HasCleanDisk (state g.S.Store c.write_format.new.tx.conn.now)
    → KeepsCommit (state g.S.Store c.args.connection.now) (state g.S.Store c.write_format.new.tx.conn.now)
kept g c third =
    let one = state g.S.Store c.make_transfer_tables.new.tx.conn.now in
    let two = state g.S.Store c.make_item_tables.new.tx.conn.now in
    let three = state g.S.Store c.write_format.new.tx.conn.now in
    let second : HasCleanDisk two = omega (arith, third, c.write_format.ensures.kept.survives.clean) in
    let first : HasCleanDisk one = omega (arith, second, c.make_item_tables.ensures.kept.survives.clean) in
    kept_since g.S.Store c.args.connection.now three
    (kept_then _ one three (rw c.transaction-transaction.ensures.begun at (c.make_transfer_tables.ensures.kept.commit first)) (kept_then one two three (c.make_item_tables.ensures.kept.commit second) (c.write_format.ensures.kept.commit third)))

inside : (g : Over) (c : goal.After-connection-2-1 g) → HasCleanDisk (state g.S.Store c.write_format.new.tx.conn.now) → IsTrue (state g.S.Store c.write_format.new.tx.conn.now).in_transaction
inside g c third =
    let second : HasCleanDisk (state g.S.Store c.make_item_tables.new.tx.conn.now) = omega (arith, third, c.write_format.ensures.kept.survives.clean) in
    let first : HasCleanDisk (state g.S.Store c.make_transfer_tables.new.tx.conn.now) = omega (arith, second, c.make_item_tables.ensures.kept.survives.clean) in
    let one = rw c.transaction-transaction.ensures.begun at (c.in_ok-make_transfer_tables.ensures.inside first) in
    c.in_ok-write_format.ensures.inside third (c.in_ok-make_item_tables.ensures.inside second (one refl))

pub returns-clause-made : goal.returns-clause-made
returns-clause-made g c clean =
    let old = state g.S.Store c.args.connection.now in
    let mid = state g.S.Store c.write_format.new.tx.conn.now in
    let end = c.commit.new.self.0 in
    let same : end ≡ c.connection-2-1.given.0 = search rules in
    let late : HasCleanDisk (state g.S.Store end) = search rules in
    let third : HasCleanDisk mid = omega (arith, c.commit.ensures.survives.clean) in
    subst (λ h. OnOk c.commit.result ((old.now.schema ≡ no_schema) × IsCreated (state g.S.Store h))) same
    (on_ok c.commit.result (λ done. (blank g c, created_by mid (state g.S.Store end) (made g c third) done.1)) (c.commit.ensures.ok late))

pub returns-clause-unchanged : goal.returns-clause-unchanged
returns-clause-unchanged g c clean =
    let old = state g.S.Store c.args.connection.now in
    let mid = state g.S.Store c.write_format.new.tx.conn.now in
    let end = c.commit.new.self.0 in
    let same : end ≡ c.connection-2-1.given.0 = search rules in
    let late : HasCleanDisk (state g.S.Store end) = search rules in
    let third : HasCleanDisk mid = omega (arith, c.commit.ensures.survives.clean) in
    let idle : old.in_transaction ≡ false = search rules in
    subst (λ h. OnErr c.commit.result (IsLeft old (state g.S.Store h))) same
    (on_err c.commit.result (λ e failed. left_by_failing old mid (state g.S.Store end) e idle (inside g c third) (kept g c third) failed) (c.commit.ensures.err late))

pub returns-clause-survives : goal.returns-clause-survives
returns-clause-survives g c =
    let old = c.args.connection.now in
    let one = state g.S.Store c.make_transfer_tables.new.tx.conn.now in
    let two = state g.S.Store c.make_item_tables.new.tx.conn.now in
    let three = state g.S.Store c.write_format.new.tx.conn.now in
    let end = c.commit.new.self.0 in
    let same : end ≡ c.connection-2-1.given.0 = search rules in
    let P = MakesLedger (state g.S.Store old) in
    let last = survives_then one two three _ _ (λ _. ⊥) (λ _ db none. none) (λ _ db none. none) c.make_item_tables.ensures.kept.survives c.write_format.ensures.kept.survives in
    let inside = survives_then _ one three _ _ (λ _. ⊥) (λ _ db none. none) (λ _ db none. none) (rw c.transaction-transaction.ensures.begun at c.make_transfer_tables.ensures.kept.survives) last in
    let whole = survives_then (state g.S.Store old) three (state g.S.Store end) _ _ P (λ _ db none. absurd none)
    (λ clean db is. (blank g c, subst (λ (t : Trees). IsDatabaseOf (Second New) t []) (sym is) (made g c (omega (arith, c.commit.ensures.survives.clean))).database))
    (survives_begin g.S.Store old three _ inside) c.commit.ensures.survives in
    subst (λ h. Survives (state g.S.Store old) (state g.S.Store h) P) same whole
