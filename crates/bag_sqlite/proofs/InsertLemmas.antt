-- What an INSERT of values writes, for any table.
use Rattle.std.proofs.Common.{◌≡◌, ◌≢◌, ◌⊎◌, inl, inr, ℕ, ℤ, ◌/◌, List, [], ◌∷◌, length, false, Option, Some, None, slice_get, unwrap_or, Ok, Err, Result, Ordering, Less, Equal, Greater, true≢false, refl, sym, ap, subst, ◌∙◌, is_eq}
use Rattle.bag_sqlite.proofs.Words.{AllByRecursion, and_parts, AtPlace, Chosen, column, command_of, Database, Does, Edit, edit_of, Enforced, Executes, Insert, Inserts, Int, is_taken, IsDatabase, IsFree, IsPermutation, IsPermutation-cons, IsPermutation-middle, IsPermutation-refl, IsPermutation-trans, IsPlain, last_id, ListLedger, match_ordering, Migrated, Mode, mode_of, New, next_rowid, not-true, one_step, OnRows, or_parts, Origin, put_all, put_row, Row, rowid, runs_as, Schema, Second, second_schema, stamped, State, statement_of, Table, Tally, Task, Term, tied_itself, Trees, understood, value_cmp, value_cmp_total, value_rows, Values, works, Writes, Written}

pub went : {B E R : Type 0} {b : B} {Stops : E → Type 0} → ((stop : E) × Stops stop × (Ok b ≡ Err stop)) ⊎ R → R
went (inl stopped) = absurd (let e = stopped.2 in cc)
went (inr on) = on

pub same_value : {B E : Type 0} {a b : B} → ◌≡◌ {A = Result B E} (Ok a) (Ok b) → a ≡ b
same_value e = cc

-- a table whose rowids are not counted in sqlite_sequence
abbrev pub uncounted : Table → Table
uncounted t = record t { is_counted = false }

module _ (limit : Option ℕ) (mode : Mode) (schema : Schema) (t : Table) (params : Row) (at : ℕ) (terms : List Term) (width : ℕ) (db : Trees) where
  abbrev task : Task
  task = record { limit = limit; keys = mode.keys; schema = schema; table = uncounted t; params = params }

  -- the rows that it inserts, under their rowids
  abbrev pub given_rows : List Row → Edit
  given_rows rows = edit_of db (uncounted t) [] Chosen 0 rows

  abbrev pub given : Edit
  given = given_rows (value_rows (stamped (uncounted t) params) width (length terms / width) terms)

  -- the trees afterwards, and the last rowid
  abbrev Gives : Trees → Option ℤ → Edit → Type 0
  Gives next last edit = Writes schema mode.keys db edit (Ok next) × (last ≡ last_id edit.news)

  inserts : (w : Written) → Inserts task (Values terms width) db (Ok w) → Gives w.trees w.last given
  inserts w h =
      let sourced = went h in
      let written = went (went sourced.2).2 in
      let counted = went written.2 in
      let same : w.trees ≡ written.0 = ap (λ (it : Written). it.trees) (same_value counted.2) ∙ same_value counted.1 in
      let last : w.last ≡ last_id (given_rows sourced.0).news = ap (λ (it : Written). it.last) (same_value counted.2) in
      subst (λ (rows : List Row). Gives w.trees w.last (given_rows rows)) sourced.1.1 (subst (λ (trees : Trees). Writes schema mode.keys db (given_rows sourced.0) (Ok trees)) (sym same) written.1, last)

  on_rows : (tally : Tally) (after : Database) → OnRows task mode None (Insert at (Values terms width)) db (Ok (tally, after)) → (next : Trees) × Gives next tally.last given × (after ≡ record { schema = schema; trees = next })
  on_rows tally after h =
      let done = went h in
      let last = went (went done.2).2 in
      let noted : tally.last ≡ done.0.last = ap (λ (p : Tally × Database). p.0.last) (same_value last.2) in
      let gives = inserts done.0 done.1 in
      (done.0.trees, (gives.0, noted ∙ gives.1), ap (λ (p : Tally × Database). p.1) (same_value last.2))

  pub insert_gives : (after : Database) (text : List ℕ) (tally : Tally) → slice_get schema.tables at ≡ Some (uncounted t)
      → Does limit mode params (record { schema = schema; trees = db }) text None (Insert at (Values terms width)) (Ok (tally, after)) → (next : Trees) × Gives next tally.last given × (after ≡ record { schema = schema; trees = next })
  insert_gives after text tally found h = on_rows tally after (subst (λ o. AtPlace (λ table. OnRows (record { limit = limit; keys = mode.keys; schema = schema; table = table; params = params }) mode None (Insert at (Values terms width)) db) o (Ok (tally, after))) found h)

-- ONE ROW

pub put_fresh : (new : Row) (rows : List Row) → is_taken rows new ≡ false → IsPermutation (new ∷ rows) (put_row new rows)
put_fresh new [] free = IsPermutation-refl (new ∷ [])
put_fresh new (r ∷ rows) free = go (value_cmp (rowid r) (rowid new)) (or_parts _ _ free).0 (put_fresh new rows (or_parts _ _ free).1)
  where
    go : (o : Ordering) → is_eq o ≡ false → IsPermutation (new ∷ rows) (put_row new rows) → IsPermutation (new ∷ r ∷ rows) (match_ordering o (r ∷ put_row new rows) (new ∷ rows) (new ∷ r ∷ rows))
    go Less other rest = IsPermutation-trans _ (r ∷ new ∷ rows) (r ∷ put_row new rows) (IsPermutation-middle (new ∷ []) r rows) (IsPermutation-cons r (new ∷ rows) (put_row new rows) rest)
    go Equal other rest = absurd (true≢false other)
    go Greater other rest = IsPermutation-refl (new ∷ r ∷ rows)

pub apart_from : (number : ℤ) (rows : List Row) → IsFree number rows → AllByRecursion (λ row. column row 0 ≢ Int number) rows
apart_from number [] free = tt
apart_from number (r ∷ rows) free = (
  (λ is. true≢false (sym (ap (λ v. is_eq (value_cmp v (Int number))) is ∙ ap is_eq (tied_itself value_cmp_total (Int number))) ∙ (or_parts _ _ free).0)),
  apart_from number rows (or_parts _ _ free).1,
)

-- a database with this schema lists its tables
pub lists_ledger : (o : Origin) (db : Database) → db.schema ≡ second_schema o → IsDatabase db → ListLedger (Second o) db.trees
lists_ledger o db is sound = subst (λ (schema : Schema). IsDatabase (record { schema = schema; trees = db.trees })) is sound

-- what an INSERT of one row without a rowid does: the row is added under a rowid that was free, and the connection
-- reports that rowid
pub record InsertsRow (o : Origin) (tree : ℕ) (values : Row) (old new : State) : Type 0 where
  pub schema_is : new.now.schema ≡ second_schema o
  pub listed : ListLedger (Second o) new.now.trees
  pub fresh : IsFree new.last_rowid (old.now.trees tree)
  pub rows : IsPermutation ((Int new.last_rowid ∷ values) ∷ old.now.trees tree) (new.now.trees tree)
  pub others : AllByRecursion (λ (t : Table). t.tree ≢ tree → new.now.trees t.tree ≡ old.now.trees t.tree) (second_schema o).tables

no_action : (o : Origin) (tree : ℕ) (row : Row) → works (second_schema o) Enforced 0 tree [] (row ∷ []) ≡ []
no_action New tree row = refl
no_action Migrated tree row = refl

module _ (o : Origin) (t : Table) (at : ℕ) (terms : List Term) (width : ℕ) (text : List ℕ) (params values : Row) (old new : State) (count : ℕ) where
  abbrev Edits : Edit
  Edits = given old.step_limit (mode_of old) (second_schema o) t params at terms width old.now.trees

  pub row_inserted : old.now.schema ≡ second_schema o → slice_get (second_schema o).tables at ≡ Some (uncounted t)
      → command_of (understood (second_schema o) text) ≡ Insert at (Values terms width) → IsPlain (understood (second_schema o) text)
      → Edits.news ≡ (Int (next_rowid (old.now.trees t.tree)) ∷ values) ∷ []
      → Executes text params old new (Ok count) → InsertsRow o t.tree values old new
  row_inserted has found is plain news ran =
      let number = next_rowid (old.now.trees t.tree) in
      let command = Insert at (Values terms width) in
      let said = statement_of text (understood (second_schema o) text) in
      let w = runs_as text params old new (second_schema o) has command is plain count ran in
      let changed = subst (λ s. Does old.step_limit (mode_of old) params (record old.now { schema = s }) said None command (Ok (w.tally, new.now))) has w.changed in
      let (next, (wrote, last), now) = insert_gives old.step_limit (mode_of old) (second_schema o) t params at terms width old.now.trees new.now said w.tally found changed in
      let step = one_step (second_schema o) Enforced old.now.trees next Edits (rw news (no_action o t.tree (Int number ∷ values))) wrote in
      let told : new.last_rowid ≡ number = w.last_rowid ∙ ap (λ o. unwrap_or o old.last_rowid) (last ∙ ap last_id news) in
      let free : is_taken (old.now.trees t.tree) (Int number ∷ values) ≡ false = not-true _ (and_parts _ _ (rw news at step.fresh)).0 in
      let rows : next t.tree ≡ put_row (Int number ∷ values) (old.now.trees t.tree) = step.rows ∙ ap (put_all (old.now.trees t.tree)) news in
      record {
        schema_is = ap (λ (d : Database). d.schema) now;
        listed = lists_ledger o new.now (ap (λ (d : Database). d.schema) now) w.sound;
        fresh = rw told free;
        rows = rw (told, now, rows) (put_fresh (Int number ∷ values) (old.now.trees t.tree) free);
        others = rw now step.tables;
      }
