-- Creating the tables of a ledger.
use Rattle.std.proofs.Common.{◌≡◌, inl, inr, ℕ, List, [], ◌∷◌, ◌++◌, true, false, None, Ok, IsTrue, pos, refl, sym, ap, subst, ◌∙◌, arith}
use Rattle.bag_sqlite.proofs.Words.{AllByRecursion, AreTablesOf, created, CreateTable, Database, Error, ExecutesInside, FailsToCommit, format_row, Ghosts, held, Held, held_tree, HoldsLedger, Int, IsCreated, IsDatabase, IsDatabaseOf, IsLeft, IsMade, IsMaking, IsPermutation, IsPermutation-refl, IsRolledBack, IsStrictlySortedBy, KeepsCommit, lacks_sequence, Makes, meta, Migrated, NamesFormat, New, next_tree, no_rows, no_schema, one_permutation, Origin, piece_tree, runs_as, Schema, schema_before, Second, second_schema, Shows, sound_nothing, State, state, Table, tag_tree, Tally, transfer_tree, Trees, without_rowids}
use Rattle.sqlite.specs.State.{Writes}
use Rattle.bag_sqlite.proofs.InsertLemmas.{row_inserted, same_value, went}
use Rattle.bag_sqlite.proofs.MeaningLemmas.{format_is, format_plain, format_terms, format_text}
use Rattle.bag_sqlite.proofs.SqlLemmas.{cast_int, cast_null}

-- A TABLE

-- the tables have these rows
abbrev pub HaveRowsOf : Trees → Trees → List Table → Type 0
HaveRowsOf rows trees = AllByRecursion (λ (table : Table). trees table.tree ≡ rows table.tree)

stay_so : (rows old new : Trees) (tables : List Table) → AllByRecursion (λ (t : Table). new t.tree ≡ old t.tree) tables → HaveRowsOf rows old tables → HaveRowsOf rows new tables
stay_so rows old new [] same were = tt
stay_so rows old new (t ∷ ts) same were = (same.0 ∙ were.0, stay_so rows old new ts same.1 were.1)

one_more : (rows trees : Trees) (tables : List Table) (last : Table) → HaveRowsOf rows trees tables → trees last.tree ≡ rows last.tree → HaveRowsOf rows trees (tables ++ last ∷ [])
one_more rows trees [] last were new = (new, tt)
one_more rows trees (t ∷ ts) last were new = (were.0, one_more rows trees ts last were.1 new)

pub table_made : (old new : State) (text : List ℕ) (count : ℕ) (before : Schema) (table : Table) (rows : Trees) → Makes before text table → rows (next_tree before) ≡ [] → IsMaking before rows old
    → ExecutesInside 0 text [] old new (Ok count) → IsMaking (created before table) rows new × IsDatabase new.now
table_made old new text count before table rows makes none making ran =
    let w = subst (λ t. Writes old new None CreateTable t [] count) makes.statement (runs_as text [] old new before making.schema_is CreateTable makes.command makes.plain count ran.0) in
    let all = went w.changed in
    let first = went all.1 in
    let made = first.1 in
    let same : made.table ≡ table = same_value (sym made.defined ∙ makes.defined) in
    let schema : first.0.schema ≡ created before table = made.is ∙ ap (λ s. created s made.table) making.schema_is ∙ ap (created before) same in
    let plain : lacks_sequence first.0.schema ≡ false = ap lacks_sequence schema ∙ makes.uncounted in
    let now : new.now ≡ first.0 = ap (λ (p : Tally × Database). p.1) (same_value all.2) ∙ same_value (rw plain at first.2) in
    let others = subst (λ (s : Schema). AllByRecursion (λ (t : Table). first.0.trees t.tree ≡ old.now.trees t.tree) s.tables) making.schema_is made.others in
    let empty : first.0.trees (next_tree before) ≡ [] = subst (λ s. first.0.trees (next_tree s) ≡ []) making.schema_is made.empty in
    let done : HaveRowsOf rows first.0.trees (created before table).tables = one_more rows first.0.trees before.tables (record table { tree = next_tree before })
    (stay_so rows old.now.trees first.0.trees before.tables others making.rows_are) (empty ∙ sym none) in (
      record {
        mode = ran.1.mode;
        schema_is = ap (λ (d : Database). d.schema) now ∙ schema;
        rows_are = subst (λ (d : Database). HaveRowsOf rows d.trees (created before table).tables) (sym now) done;
      },
      w.sound,
    )

-- the trees of the tables that are made next
pub first_empty : (o : Origin) (rows : Trees) → rows (held_tree o) ≡ [] → rows (next_tree (schema_before o)) ≡ []
first_empty New rows none = none
first_empty Migrated rows none = none

pub next_empty : (o : Origin) (rows : Trees) → rows (piece_tree o) ≡ [] → rows (next_tree (created (schema_before o) held)) ≡ []
next_empty New rows none = none
next_empty Migrated rows none = none

-- THE ROW OF THE FORMAT

pub no_transfer : (trees : Trees) → NamesFormat trees (pos 2) → trees transfer_tree ≡ [] → trees tag_tree ≡ [] → trees (held_tree New) ≡ [] → trees (piece_tree New) ≡ []
    → AreTablesOf (Second New) trees []
unfolding IsStrictlySortedBy
no_transfer trees format transfers tags held pieces = record {
  format = format;
  held = record {
    transfers = [];
    rows = record {
      transfers = subst (IsPermutation []) (sym transfers) (IsPermutation-refl []);
      tags = subst (λ rows. IsPermutation [] (without_rowids rows)) (sym tags) (IsPermutation-refl []);
      items = record {
        held = subst (IsPermutation []) (sym held) (IsPermutation-refl []);
        pieces = subst (λ rows. IsPermutation [] (without_rowids rows)) (sym pieces) (IsPermutation-refl []);
      };
    };
    numbers = tt;
    item_numbers = tt;
    cut = tt;
    is = refl;
    order = record { names = tt; tags = tt; items = tt };
  };
  moved = tt;
}

pub format_written : (old new : State) (count : ℕ) → IsMaking (second_schema New) no_rows old → ExecutesInside 0 format_text [] old new (Ok count) → IsMade new
format_written old new count making ran =
    let row = row_inserted New meta 0 format_terms 3 format_text [] (format_row (pos 2)) old new count making.schema_is refl format_is format_plain (rw (cast_null, cast_int)) ran.0 in
    let empty = making.rows_are in
    let rows = one_permutation (Int new.last_rowid ∷ format_row (pos 2)) (new.now.trees 0) (rw empty.0 at row.rows) in
    record {
      mode = ran.1.mode;
      schema_is = row.schema_is;
      database = record {
        listed = row.listed;
        tables = no_transfer new.now.trees (new.last_rowid, rows)
            (row.others.1.0 (λ e. omega (arith, e)) ∙ empty.1.0)
            (row.others.1.1.0 (λ e. omega (arith, e)) ∙ empty.1.1.0)
            (row.others.1.1.1.0 (λ e. omega (arith, e)) ∙ empty.1.1.1.0)
            (row.others.1.1.1.1.0 (λ e. omega (arith, e)) ∙ empty.1.1.1.1.0);
        sound = sound_nothing;
      };
    }

-- THE COMMIT

pub created_by : (mid end : State) → IsMade mid → Shows mid end mid.now mid.now false → IsCreated end
created_by mid end made shows = record {
  is_open = shows.is_open;
  autocommit = shows.mode;
  schema_is = ap (λ (d : Database). d.schema) shows.now_is ∙ made.schema_is;
  database = subst (λ (d : Database). IsDatabaseOf (Second New) d.trees []) (sym shows.now_is) made.database;
  committed = shows.committed_is ∙ sym shows.now_is;
}

-- a transaction that began here was rolled back
pub left_by_undoing : (old mid end : State) → old.in_transaction ≡ false → KeepsCommit old mid → IsRolledBack mid end → IsLeft old end
left_by_undoing old mid end idle kept back = record {
  mode = back.autocommit ∙ sym idle;
  was_open = λ h. kept.was_open (back.was_open h);
  committed = λ h. (back.undone h).1 ∙ kept.committed (back.was_open h);
  now = λ h _. (back.undone h).0 ∙ kept.committed (back.was_open h);
}

pub left_by_failing : (old mid end : State) (e : Error) → old.in_transaction ≡ false → IsTrue mid.in_transaction → KeepsCommit old mid → FailsToCommit mid end e → IsLeft old end
left_by_failing old mid end e idle inside kept (inl failed) = left_by_undoing old mid end idle kept failed.3
left_by_failing old mid end e idle inside kept (inr late) = absurd (let f = late.1 in cc)

-- THE TRANSACTION BEGINS

pub begin_making : {S : Type 0} (g : Ghosts S) (old : Held S) → (state g old).now.schema ≡ no_schema → IsMaking no_schema no_rows (state g (record old { in_transaction = true }))
begin_making g old blank = record { mode = refl; schema_is = blank; rows_are = tt }

pub kept_since : {S : Type 0} (g : Ghosts S) (old : Held S) (mid : State) → KeepsCommit (state g (record old { in_transaction = true })) mid → KeepsCommit (state g old) mid
kept_since g old mid kept = record { was_open = kept.was_open; committed = kept.committed }

-- WHAT THE KEEPER OF A NEW LEDGER HOLDS

pub holds_nothing : (s : State) → IsCreated s → ((trees : Trees) → IsTrue s.is_open → s.may_leave trees → trees ≡ s.committed.trees) → HoldsLedger s []
holds_nothing s created settled = record {
  sound = sound_nothing;
  shows = λ _. (New, record { schema_is = created.schema_is; database = created.database; committed = created.committed });
  outcomes = λ trees left. ([], (Second New, subst (λ (t : Trees). IsDatabaseOf (Second New) t []) (sym (settled trees created.is_open left ∙ ap (λ (d : Database). d.trees) created.committed)) created.database));
}
