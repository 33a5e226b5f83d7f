-- A database is that of at most one ledger.
use Rattle.std.proofs.Common.{◌≡◌, [], ap, arith, length, refl, subst}
use Rattle.bag_sqlite.proofs.Words.{First, HoldTransfers, IsDatabase, IsLedgerDatabase, Layout, Ledger, ListLedger, Migrated, New, Schema, schema_of, Second, Trees}
use Rattle.bag_sqlite.proofs.OneLedger.{one_ledger}
use Rattle.bag_sqlite.proofs.OneSchema.{one_schema}

-- the number of tables says which they are
one_layout : (a b : Layout) → length (schema_of a).tables ≡ length (schema_of b).tables → a ≡ b
one_layout First First same = refl
one_layout First (Second New) same = absurd (omega (arith, same))
one_layout First (Second Migrated) same = absurd (omega (arith, same))
one_layout (Second New) First same = absurd (omega (arith, same))
one_layout (Second New) (Second New) same = refl
one_layout (Second New) (Second Migrated) same = absurd (omega (arith, same))
one_layout (Second Migrated) First same = absurd (omega (arith, same))
one_layout (Second Migrated) (Second New) same = absurd (omega (arith, same))
one_layout (Second Migrated) (Second Migrated) same = refl

no_views : (l : Layout) → (schema_of l).views ≡ []
no_views First = refl
no_views (Second New) = refl
no_views (Second Migrated) = refl

-- the schema that trees list is that of the ledger
pub listed_schema : (l : Layout) (schema : Schema) (trees : Trees) → ListLedger l trees → IsDatabase (record { schema = schema; trees = trees }) → schema_of l ≡ schema
listed_schema l schema trees listed sound = one_schema (schema_of l) schema trees (no_views l) listed sound

pub one_database : (trees : Trees) (a b : Ledger) → IsLedgerDatabase trees a → IsLedgerDatabase trees b → a ≡ b
one_database trees a b p q =
    let schema = listed_schema p.0 (schema_of q.0) trees p.1.listed q.1.listed in
    let same : p.0 ≡ q.0 = one_layout p.0 q.0 (ap (λ (s : Schema). length s.tables) schema) in
    one_ledger trees a b (subst (λ l. HoldTransfers l trees a) same p.1.tables.held) q.1.tables.held
