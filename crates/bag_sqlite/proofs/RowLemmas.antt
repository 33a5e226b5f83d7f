-- Writing the rows of a payload file.
use Rattle.std.proofs.Common.{◌≡◌, ◌==◌, ℕ, ℤ, pos, List, [], ◌∷◌, ◌++◌, Bool, true, false, not, cond, is_eq, Option, Some, None, Ok, length, map, drop, slice_get, refl, sym, ap, subst, ◌∙◌}
use Rattle.bag_sqlite.proofs.Words.{AddsItem, AddsPiece, AddsPieces, all_weaker, AllByRecursion, and_parts, Answers, Applies, are_fresh, AtPlace, binary, Binary, Blob, column, Compare, concat, Database, deed_of, Does, Edit, edit_of, edited, Enforced, Eq, ExecutesInside, filter, filter_all, filter_map, filter_none, flat_map, has_rowid, HasOneItemMore, held_tree, ids_of, Int, is_taken, is_true, IsFree, IsPermutation, IsPermutation-cons, IsPermutation-filter, IsPermutation-map, IsPermutation-trans, IsUnderWay, item_row, left_by, Migrated, Mode, mode_of, New, none_from_any, not-true, Null, one_permutation, one_step, OnRows, Origin, Output, pairs, parent_key, piece_rows, piece_tree, Program, put_all, put_row, Row, runs_as, Schema, second_schema, SetsSize, State, statement_of, Table, taken_by, Tally, Task, Text, tied_itself, Trees, understood, Update, Value, value_cmp, value_cmp_total, without_rowid, without_rowids, work_by, works, Writes, Written}
use Rattle.sqlite.specs.Rowids.TheVariants.{Given}
use Rattle.bag_sqlite.proofs.CutLemmas.{length_concat}
use Rattle.bag_sqlite.proofs.InsertLemmas.{lists_ledger, put_fresh, row_inserted, same_value, went}
use Rattle.bag_sqlite.proofs.LayoutLemmas.{held_found, held_place, held_seen, keeps_transfers_then, kept_by_held, kept_by_piece, piece_found, piece_place, stored_held, stored_piece}
use Rattle.bag_sqlite.proofs.RowMeanings.{new_item_is, new_item_plain, new_item_terms, new_item_text, new_piece_is, new_piece_plain, new_piece_terms, new_piece_text, size_is, size_plain, size_query, size_terms, size_text, size_where}
use Rattle.bag_sqlite.proofs.SqlLemmas.{cast_int, cast_null}
use Rattle.bag_sqlite.proofs.WhereLemmas.{Lists, answer_lists, equal_numbers, made, passes, same_number, truth_kept}
use Rattle.std.proofs.Math.Bool.{and-true}

-- ONE ROW ADDED

pub item_inserted : {o : Origin} (old new : State) (transfer : ℤ) (path : List ℕ) (count : ℕ) → IsUnderWay o old → ExecutesInside 0 new_item_text (Int transfer ∷ Text path ∷ []) old new (Ok count)
    → IsUnderWay o new × AddsItem o old.now.trees new.now.trees new.last_rowid transfer path 0
item_inserted {o} old new transfer path count way ran =
    let values = Null ∷ Int transfer ∷ Text path ∷ Int (pos 0) ∷ [] in
    let row = row_inserted o (stored_held o) (held_place o) new_item_terms 5 new_item_text (Int transfer ∷ Text path ∷ []) values old new count way.schema_is (held_found o) (new_item_is o) (new_item_plain o) (rw (cast_null, cast_int transfer, cast_int (pos 0)) refl) ran.0 in
    let kept = kept_by_held old.now.trees new.now.trees o row.others in
    (record { mode = ran.1.mode; schema_is = row.schema_is; listed = row.listed }, record { kept = kept.0; fresh = row.fresh; held = row.rows; pieces = kept.1 })

pub piece_inserted : {o : Origin} (old new : State) (item : ℤ) (n : ℕ) (body : List ℕ) (count : ℕ) → IsUnderWay o old → ExecutesInside 0 new_piece_text (Int item ∷ Int (pos n) ∷ Blob body ∷ []) old new (Ok count)
    → IsUnderWay o new × AddsPiece o old.now.trees new.now.trees item n body
piece_inserted {o} old new item n body count way ran =
    let values = Int item ∷ Int (pos n) ∷ Blob body ∷ [] in
    let row = row_inserted o (stored_piece o) (piece_place o) new_piece_terms 4 new_piece_text values values old new count way.schema_is (piece_found o) (new_piece_is o) (new_piece_plain o) (rw (cast_null, cast_int item, cast_int (pos n)) refl) ran.0 in
    let kept = kept_by_piece old.now.trees new.now.trees o row.others in
    (record { mode = ran.1.mode; schema_is = row.schema_is; listed = row.listed }, record { kept = kept.0; held = kept.1; pieces = IsPermutation-map (drop 1) _ _ row.rows })

-- SETTING A SIZE

-- what an UPDATE writes
module _ (limit : Option ℕ) (mode : Mode) (schema : Schema) (t : Table) (params : Row) (at : ℕ) (q : Program) (db : Trees) where
  abbrev task : Task
  task = record { limit = limit; keys = mode.keys; schema = schema; table = t; params = params }

  abbrev pub changed_rows : List Row → Edit
  changed_rows rows = edit_of db t (ids_of rows) Given 1 rows

  pub update_gives : (after : Database) (text : List ℕ) (tally : Tally) → slice_get schema.tables at ≡ Some t → Does limit mode params (record { schema = schema; trees = db }) text None (Update at q) (Ok (tally, after))
      → (rows : List Row) × (next : Trees) × Answers (record { schema = schema; trees = db }) q params rows × Writes schema mode.keys db (changed_rows rows) (Ok next) × (after ≡ record { schema = schema; trees = next })
  update_gives after text tally found h =
      let done = went (subst (λ o. AtPlace (λ table. OnRows (record { limit = limit; keys = mode.keys; schema = schema; table = table; params = params }) mode None (Update at q) db) o (Ok (tally, after))) found h) in
      let last = went (went done.2).2 in
      let updated = went done.1 in
      let written = went updated.2 in
      let trees : done.0.trees ≡ written.0 = ap (λ (w : Written). w.trees) (same_value written.2) in
      (updated.0, written.0, updated.1, written.1, ap (λ (p : Tally × Database). p.1) (same_value last.2) ∙ ap (λ (now : Trees). record { schema = schema; trees = now }) trees)

-- no foreign key takes effect when a row is changed
quiet : (o : Origin) (olds news : List Row) → works (second_schema o) Enforced 0 (held_tree o) olds news ≡ []
quiet o olds news = go o (length news == 0)
  where
    go : (o : Origin) (deletes : Bool) → flat_map (λ (child : Table). filter_map (λ ref. work_by 0 (held_tree o) (pairs olds news) child ref (deed_of Enforced deletes (cond deletes ref.on_delete ref.on_update)) (parent_key (second_schema o).tables ref)) child.references) (second_schema o).tables ≡ []
    go New true = refl
    go New false = refl
    go Migrated true = refl
    go Migrated false = refl

pub untested : (v : Value) (n : ℤ) → is_eq (value_cmp v (Int n)) ≡ false → is_true (binary (Compare Eq Binary) v (Int n)) ≡ false
unfolding binary
untested Null n other = refl
untested v n other = truth_kept _ ∙ other

module _ (o : Origin) (trees : Trees) (item transfer : ℤ) (path : List ℕ) (before size : ℕ) (others : List Row) (free : IsFree item others)
    (same : IsPermutation (item_row item transfer path before ∷ others) (trees (held_tree o))) where
  abbrev was : Row
  was = item_row item transfer path before

  abbrev size_params : Row
  size_params = Int item ∷ Int (pos size) ∷ []

  -- the row that is selected, and what it becomes
  abbrev selected : Row
  selected = Int item ∷ item_row item transfer path size

  apart : AllByRecursion (λ (row : Row). has_rowid item row ≡ false) others
  apart = none_from_any (has_rowid item) others free

  tied : is_eq (value_cmp (Int item) (Int item)) ≡ true
  tied = ap is_eq (tied_itself value_cmp_total (Int item))

  one_selected : (rows : List Row) → Lists (held_tree o) size_where size_terms [] size_params (trees (held_tree o)) rows → rows ≡ selected ∷ []
  one_selected rows lists =
      let test = passes size_where size_params in
      let here : test was ≡ true = and-true _ ∙ equal_numbers item item ∙ same_number item item refl in
      let none = filter_none test others (all_weaker (λ (row : Row). has_rowid item row ≡ false) (λ (row : Row). test row ≡ false) (λ row other. and-true _ ∙ untested (column row 0) item other) others apart) in
      let kept : filter test (was ∷ others) ≡ was ∷ [] = rw (here, none) refl in
      let moved = subst (λ l. IsPermutation l (filter test (trees (held_tree o)))) kept (IsPermutation-filter test (was ∷ others) (trees (held_tree o)) same) in
      let one = one_permutation was (filter test (trees (held_tree o))) moved in
      let show = made (held_tree o) size_where size_terms [] size_params in
      let ordered = one_permutation (show was) lists.ordered (subst (λ l. IsPermutation (map show l) lists.ordered) one lists.same) in
      lists.shown ∙ ap (map (λ (o : Output). o.1)) ordered

  left : IsPermutation others (without_rowid item (trees (held_tree o)))
  left =
      let keep = λ (row : Row). not (has_rowid item row) in
      let all = filter_all keep others (all_weaker (λ (row : Row). has_rowid item row ≡ false) (λ (row : Row). keep row ≡ true) (λ row other. ap not other) others apart) in
      let gone : filter keep (was ∷ others) ≡ others = rw (tied, all) refl in
      subst (λ l. IsPermutation l (filter keep (trees (held_tree o)))) gone (IsPermutation-filter keep (was ∷ others) (trees (held_tree o)) same)

  abbrev edit : List Row → Edit
  edit rows = edit_of trees (stored_held o) (ids_of rows) Given 1 rows

  changed_to : (rows : List Row) (next : Trees) → rows ≡ selected ∷ [] → Applies (second_schema o) Enforced trees (edit rows) next → IsPermutation (item_row item transfer path size ∷ others) (next (held_tree o))
  changed_to rows next is step =
      let new = item_row item transfer path size in
      let rest = without_rowid item (trees (held_tree o)) in
      let news : (edit (selected ∷ [])).news ≡ new ∷ [] = rw (cast_null, cast_int item, cast_int transfer, cast_int (pos size)) refl in
      let fresh : are_fresh rest (new ∷ []) ≡ true = subst (λ l. are_fresh rest l ≡ true) news (subst (λ l. are_fresh (left_by trees (edit l)) (edit l).news ≡ true) is step.fresh) in
      let free : is_taken rest new ≡ false = not-true _ (and_parts _ _ fresh).0 in
      let rows_are : next (held_tree o) ≡ put_row new rest = step.rows ∙ ap (λ l. edited trees (edit l)) is ∙ ap (put_all rest) news in
      subst (IsPermutation (new ∷ others)) (sym rows_are) (IsPermutation-trans (new ∷ others) (new ∷ rest) (put_row new rest) (IsPermutation-cons new others rest left) (put_fresh new rest free))

pub size_set : {o : Origin} (old new : State) (item : ℤ) (size count : ℕ) → IsUnderWay o old → ExecutesInside 0 size_text (Int item ∷ Int (pos size) ∷ []) old new (Ok count)
    → IsUnderWay o new × SetsSize o old.now.trees new.now.trees item size
size_set {o} old new item size count way ran =
    let params = Int item ∷ Int (pos size) ∷ [] in
    let q : Program = record { lets = []; body = size_query o } in
    let command = Update (held_place o) q in
    let trees = old.now.trees in
    let said = statement_of size_text (understood (second_schema o) size_text) in
    let w = runs_as size_text params old new (second_schema o) way.schema_is command (size_is o) (size_plain o) count ran.0 in
    let changed = subst (λ s. Does old.step_limit (mode_of old) params (record old.now { schema = s }) said None command (Ok (w.tally, new.now))) way.schema_is w.changed in
    let (rows, next, answers, wrote, now) = update_gives old.step_limit (mode_of old) (second_schema o) (stored_held o) params (held_place o) q trees new.now said w.tally (held_found o) changed in
    let edit = edit_of trees (stored_held o) (ids_of rows) Given 1 rows in
    let step = one_step (second_schema o) Enforced trees next edit (quiet o (taken_by trees edit) edit.news) wrote in
    let schema = ap (λ (d : Database). d.schema) now in
    let lists = answer_lists (held_tree o) size_where size_terms [] params trees rows (answers.answer Null) (held_seen o trees) in
    let kept = kept_by_held trees next o step.tables in (
      record { mode = ran.1.mode; schema_is = schema; listed = lists_ledger o new.now schema w.sound },
      record {
        kept = rw now kept.0;
        held = λ others transfer path before free same.
            rw now (changed_to o trees item transfer path before size others free same rows next (one_selected o trees item transfer path before size others free same rows lists) step);
        pieces = rw now kept.1;
      },
    )

-- IN SEQUENCE

-- the row, the pieces and then the size
pub item_written : {o : Origin} (a b c d : Trees) (transfer number : ℤ) (path : List ℕ) (pieces : List (List ℕ)) (size : ℕ) → size ≡ length (concat pieces) → AddsItem o a b number transfer path 0
    → AddsPieces o b c (record { number = number; path = []; pieces = pieces }) → SetsSize o c d number size → HasOneItemMore o a d transfer (record { number = number; path = path; pieces = pieces })
item_written {o} a b c d transfer number path pieces size is p q r = record {
  kept = keeps_transfers_then o a b d p.kept (keeps_transfers_then o b c d q.kept r.kept);
  fresh = p.fresh;
  held = subst (λ n. IsPermutation (item_row number transfer path n ∷ a (held_tree o)) (d (held_tree o))) (is ∙ length_concat pieces)
      (r.held (a (held_tree o)) transfer path 0 p.fresh (subst (IsPermutation (item_row number transfer path 0 ∷ a (held_tree o))) (sym q.held) p.held));
  pieces = subst (λ rows. IsPermutation (piece_rows (record { number = number; path = path; pieces = pieces }) ++ without_rowids rows) (without_rowids (d (piece_tree o)))) p.pieces
      (subst (λ rows. IsPermutation (piece_rows (record { number = number; path = path; pieces = pieces }) ++ without_rowids (b (piece_tree o))) (without_rowids rows)) (sym r.pieces) q.pieces);
}
