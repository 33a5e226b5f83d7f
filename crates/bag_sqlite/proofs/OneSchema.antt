-- Trees list at most one schema.
use Rattle.std.proofs.Common.{◌≡◌, ◌+◌, ℕ, List, [], ◌∷◌, false, filter, pos, slice_get, true, refl, sym, ap, subst, ◌∙◌, arith}
use Rattle.std.specs.List.{AllZip}
use Rattle.sqlite_catalog.proofs.AlterLemmas.{numbers_differ}
use Rattle.sqlite_catalog.proofs.StepLemmas.{named_once, same_itself}
use Rattle.sqlite_catalog.specs.Listing.{automatic, IsDefined, IsIndexRow, IsSound, IsTableRow, IsViewRow, is_index_row, is_table_row, is_view_row}
use Rattle.sqlite_resolve.specs.Compile.{table_defined_by}
use Rattle.sqlite_schema.specs.Names.{same_name}
use Rattle.sqlite_schema.specs.declared.schema.Index.{Index}
use Rattle.sqlite_schema.specs.declared.schema.View.{View}
use Rattle.sqlite_trees.specs.Objects.{catalog_tree}
use Rattle.sqlite_value.specs.declared.value.Value.TheVariants.{Real}
use Rattle.bag_sqlite.proofs.Words.{Blob, column, Int, IsAscending, Null, Row, same_Some, Schema, Table, Text, Trees, Value}
use Rattle.bag_sqlite.proofs.InsertLemmas.{same_value}

same_text : (a b : List ℕ) → Text a ≡ Text b → a ≡ b
same_text a b e = cc

same_tree : (a b : ℕ) → Int (pos (a + 1)) ≡ Int (pos (b + 1)) → a ≡ b
same_tree a b e = let n : a + 1 ≡ b + 1 = cc in omega (arith, n)

one_table : (row : Row) (t u : Table) → IsTableRow row t → IsTableRow row u → t ≡ u
one_table row t u p q =
    let tree = same_tree t.tree u.tree (sym p.described.id ∙ q.described.id) in
    let sql = same_text p.sql q.sql (sym p.sql_is ∙ q.sql_is) in
    let made : p.defined.0 ≡ q.defined.0 = same_value (sym p.defined.1 ∙ ap table_defined_by sql ∙ q.defined.1) in
    p.defined.2 ∙ (λ i. record (made i) { tree = tree i }) ∙ sym q.defined.2

-- what the text says of an index of this table, in this tree
by_text : (table : Table) (i j : Index) (v : Value) → i.tree ≡ j.tree → i.name ≡ j.name → IsDefined table i v → IsDefined table j v → i ≡ j
by_text table i j Null tree name p q =
    let at : p.0 ≡ q.0 = numbers_differ table p.0 q.0 p.4 q.4
    (subst (λ n. same_name (automatic table p.0 [] 0).name n ≡ true) (ap (λ (x : Index). x.name) (sym p.3) ∙ name ∙ ap (λ (x : Index). x.name) q.3) (same_itself (automatic table p.0 [] 0).name)) in
    let key : p.1 ≡ q.1 = same_Some p.1 q.1 (sym p.2 ∙ ap (slice_get table.uniques) at ∙ q.2) in
    p.3 ∙ (λ t. automatic table (at t) (key t) (tree t)) ∙ sym q.3
by_text table i j (Int n) tree name p q = absurd p
by_text table i j (Real x) tree name p q = absurd p
by_text table i j (Text sql) tree name p q =
    let made : p.0 ≡ q.0 = same_value (sym p.1 ∙ q.1) in
    p.2 ∙ (λ t. record (made t) { tree = tree t; table = table.tree }) ∙ sym q.2
by_text table i j (Blob b) tree name p q = absurd p

one_index : (tables : List Table) → IsAscending (λ s t. same_name s.name t.name ≡ false) tables → (row : Row) (i j : Index) → IsIndexRow tables row i → IsIndexRow tables row j → i ≡ j
one_index tables named row i j p q =
    let owner = same_text p.table.name q.table.name (sym p.described.owner_is ∙ q.described.owner_is) in
    let table : p.table ≡ q.table = named_once tables p.table q.table named p.listed q.listed (subst (λ n. same_name p.table.name n ≡ true) owner (same_itself p.table.name)) in
    by_text q.table i j (column row 4) (same_tree i.tree j.tree (sym p.described.id ∙ q.described.id)) (same_text i.name j.name (sym p.described.name_is ∙ q.described.name_is))
    (subst (λ t. IsDefined t i (column row 4)) table p.defined) q.defined

one_by_one : {X : Type 0} (R : Row → X → Type 0) → ((row : Row) (x y : X) → R row x → R row y → x ≡ y) → (rows : List Row) (xs ys : List X) → AllZip R rows xs → AllZip R rows ys → xs ≡ ys
one_by_one R one [] [] [] p q = refl
one_by_one R one (row ∷ rows) (x ∷ xs) (y ∷ ys) p q = λ i. one row x y p.0 q.0 i ∷ one_by_one R one rows xs ys p.1 q.1 i
one_by_one R one [] [] (y ∷ ys) p q = absurd q
one_by_one R one [] (x ∷ xs) ys p q = absurd p
one_by_one R one (row ∷ rows) [] ys p q = absurd p
one_by_one R one (row ∷ rows) (x ∷ xs) [] p q = absurd q

no_views : (rows : List Row) (xs ys : List View) → xs ≡ [] → AllZip IsViewRow rows xs → AllZip IsViewRow rows ys → ys ≡ []
no_views rows [] [] none p q = refl
no_views [] [] (y ∷ ys) none p q = absurd q
no_views (row ∷ rows) [] (y ∷ ys) none p q = absurd p
no_views rows (x ∷ xs) ys none p q = absurd (let e = none in cc)

pub one_schema : (a b : Schema) (db : Trees) → a.views ≡ [] → IsSound a db → IsSound b db → a ≡ b
one_schema a b db none p q =
    let rows = db catalog_tree in
    let l = p.lists.listed in
    let m = q.lists.listed in
    let tables : a.tables ≡ b.tables = one_by_one IsTableRow one_table (filter is_table_row rows) a.tables b.tables l.tables m.tables in
    let indexes : a.indexes ≡ b.indexes = one_by_one (IsIndexRow b.tables) (one_index b.tables m.named) (filter is_index_row rows) a.indexes b.indexes
    (subst (λ (ts : List Table). AllZip (IsIndexRow ts) (filter is_index_row rows) a.indexes) tables l.indexes) m.indexes in
    let views : a.views ≡ b.views = none ∙ sym (no_views (filter is_view_row rows) a.views b.views none l.views m.views) in
    λ t. record { tables = tables t; indexes = indexes t; views = views t }
