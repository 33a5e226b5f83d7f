-- The statements that move a ledger of format 1 to format 2.
use Rattle.std.proofs.Common.{Option, ◌≡◌, ◌∙◌, ◌==◌, fold, ℕ, ℤ, List, [], ◌∷◌, Bool, None, Ok, true, false, cond, inl, inr, ap, arith, is_eq, length, map, not, pos, refl, slice_get, Some, subst, sym, ◌<◌, ◌≤◌, ◌+◌, get_or, IsTrue, nat_lt, slice_index_or, suc, take, zero, take_all}
use Rattle.bag_sqlite.proofs.Words.{all_has, AllByRecursion, Answers, AtPlace, Blob, body_text, col, column, Database, deed_of, Does, Edit, edit_of, edited, Empties, Enforced, ExecutesInside, filter_map, First, flat_map, format_row, Has, has_map, has_rowid, HasBody, held_rows, HoldTransfers, ids_of, Int, IsInBoth, IsInt, IsMigrated, IsPermutation, IsPermutation-map, IsPermutation-sym, IsPermutation-trans, IsToMove, IsUnderWay, item, item_tree, items_in, Ledger, map_twice, meta, meta_tree, Migrated, Mode, mode_of, NamesFormat, Null, NumberedTransfer, one_permutation, one_step, OnRows, Output, pairs, parent_key, piece_rows, Program, put_all, reads_as, Row, rowid, runs_as, Schema, Second, second_schema, SetsFormat, Shown, State, statement_of, Table, tag_rows, tag_tree, taken_by, Tally, Text, tied_itself, transfer_row, transfer_tree, Trees, understood, Update, value_cmp, value_cmp_total, without_rowid, without_rowids, work_by, works, Writes, Written, AreTablesOf, concat, first_schema, Ghosts, HasContentMore, Held, IsDatabase, IsDatabaseOf, IsMaking, IsPlain, IsSound, IsUnchanged, item_rows, length-map, ListLedger, Shows, ShowsLedger, state, whole_row}
use Rattle.sqlite.specs.Command.TheVariants.{Delete}
use Rattle.sqlite.specs.Rowids.TheVariants.{Given}
use Rattle.sqlite_rules.specs.Edit.{id_in, without_all}
use Rattle.bag_sqlite.proofs.AdoptingMeanings.{body_columns, body_command, body_where}
use Rattle.bag_sqlite.proofs.BodyLemmas.{Owned, has_body, one_body, owned, row_of_whole, whole_permuted}
use Rattle.bag_sqlite.proofs.InsertLemmas.{lists_ledger, same_value, went}
use Rattle.bag_sqlite.proofs.MigratingMeanings.{all_columns, all_command, all_is, all_plain, all_text, all_unlisted, empty_is, empty_plain, empty_query, empty_text, format_is, format_plain, format_query, format_terms, format_text, one_is, one_plain, one_unlisted}
use Rattle.bag_sqlite.proofs.MovingLemmas.{HaveMoved, all_moved, none_moved, one_moved, taken_more}
use Rattle.bag_sqlite.proofs.OneLedger.{has_moved}
use Rattle.bag_sqlite.proofs.PermutationLemmas.{all_permuted, lifted}
use Rattle.bag_sqlite.proofs.RowLemmas.{update_gives}
use Rattle.bag_sqlite.proofs.SqlLemmas.{cast_int}
use Rattle.bag_sqlite.proofs.ToldLemmas.{unasked}
use Rattle.bag_sqlite.proofs.WhereLemmas.{Lists, answer_lists, has_from_kept, has_shown, made}

-- DELETING ALL ROWS OF A TABLE

-- what a DELETE writes
module _ (limit : Option ℕ) (mode : Mode) (schema : Schema) (t : Table) (params : Row) (at : ℕ) (q : Program) (db : Trees) where
  abbrev pub without_rows : List Row → Edit
  without_rows rows = edit_of db t (ids_of rows) Given 0 []

  pub delete_gives : (after : Database) (text : List ℕ) (tally : Tally) → slice_get schema.tables at ≡ Some t → Does limit mode params (record { schema = schema; trees = db }) text None (Delete at q) (Ok (tally, after))
      → (rows : List Row) × (next : Trees) × Answers (record { schema = schema; trees = db }) q params rows × Writes schema mode.keys db (without_rows rows) (Ok next) × (after ≡ record { schema = schema; trees = next })
  delete_gives after text tally found h =
      let done = went (subst (λ o. AtPlace (λ table. OnRows (record { limit = limit; keys = mode.keys; schema = schema; table = table; params = params }) mode None (Delete at q) db) o (Ok (tally, after))) found h) in
      let last = went (went done.2).2 in
      let deleted = went done.1 in
      let written = went deleted.2 in
      let trees : done.0.trees ≡ written.0 = ap (λ (w : Written). w.trees) (same_value written.2) in
      (deleted.0, written.0, deleted.1, written.1, ap (λ (p : Tally × Database). p.1) (same_value last.2) ∙ ap (λ (now : Trees). record { schema = schema; trees = now }) trees)

-- no row is left, if each has one of these numbers
none_left : (ids : List ℤ) (rows : List Row) → ((row : Row) → Has rows row → (id : ℤ) × Has ids id × (has_rowid id row ≡ true)) → fold (λ rs id. without_rowid id rs) rows ids ≡ []
none_left [] [] each = refl
none_left [] (row ∷ rows) each = absurd (each row (inl refl)).1
none_left (id ∷ ids) rows each = none_left ids (without_rowid id rows) (λ row has.
    let keep = λ (r : Row). not (has_rowid id r) in
    let kept = has_from_kept keep rows row has in
    let it = each row kept.0 in
    elim it.1 [
      | inl here ↦ absurd (let no : false ≡ true = ap not (sym (subst (λ n. has_rowid n row ≡ true) (sym here) it.2)) ∙ kept.1 in cc)
      | inr there ↦ (it.0, there, it.2)
    ])

-- the table of format 1, as it is stored
abbrev stored_item : Table
stored_item = record item { tree = item_tree }

-- no foreign key takes effect when its rows are deleted
quiet : (olds : List Row) → works (second_schema Migrated) Enforced 0 item_tree olds [] ≡ []
quiet olds = refl

-- each row has its number among those that the query shows
numbers_shown : (table rows : List Row) → AllByRecursion (λ row. IsInt (column row 0)) table → Lists 6 [] (col 1 0 ∷ []) [] [] table rows → (row : Row) → Has table row → (id : ℤ) × Has (ids_of rows) id × (has_rowid id row ≡ true)
numbers_shown table rows ints lists row has =
    let (id, is) = all_has (λ r. IsInt (column r 0)) table row ints has in
    let shown = has_shown 6 [] (col 1 0 ∷ []) [] [] table rows lists row has refl in
    let number = has_map (λ r. id_in (rowid r)) rows (column row 0 ∷ []) shown in
    (id, subst (λ v. Has (ids_of rows) (id_in v)) is number, ap (λ v. is_eq (value_cmp v (Int id))) is ∙ ap is_eq (tied_itself value_cmp_total (Int id)))

pub items_emptied : (old new : State) (count : ℕ) → IsUnderWay Migrated old → AllByRecursion (λ row. IsInt (column row 0)) (old.now.trees item_tree) → ExecutesInside 0 empty_text [] old new (Ok count)
    → IsUnderWay Migrated new × Empties old.now.trees new.now.trees
items_emptied old new count way ints ran =
    let q : Program = record { lets = []; body = empty_query } in
    let command = Delete 3 q in
    let trees = old.now.trees in
    let schema = second_schema Migrated in
    let said = statement_of empty_text (understood schema empty_text) in
    let w = runs_as empty_text [] old new schema way.schema_is command empty_is empty_plain count ran.0 in
    let changed = subst (λ s. Does old.step_limit (mode_of old) [] (record old.now { schema = s }) said None command (Ok (w.tally, new.now))) way.schema_is w.changed in
    let (rows, next, answers, wrote, now) = delete_gives old.step_limit (mode_of old) schema stored_item [] 3 q trees new.now said w.tally refl changed in
    let edit = edit_of trees stored_item (ids_of rows) Given 0 [] in
    let step = one_step schema Enforced trees next edit (quiet (taken_by trees edit)) wrote in
    let is = ap (λ (d : Database). d.schema) now in
    let lists = answer_lists 6 [] (col 1 0 ∷ []) [] [] trees rows (answers.answer Null) refl in
    let none : next item_tree ≡ [] = step.rows ∙ none_left (ids_of rows) (trees item_tree) (numbers_shown (trees item_tree) rows ints lists) in (
      record { mode = ran.1.mode; schema_is = is; listed = lists_ledger Migrated new.now is w.sound },
      rw now (record {
        kept = record {
          transfers = step.tables.1.0 (λ e. omega (arith, e));
          tags = step.tables.1.1.0 (λ e. omega (arith, e));
          held = step.tables.1.1.1.1.0 (λ e. omega (arith, e));
          pieces = step.tables.1.1.1.1.1.0 (λ e. omega (arith, e));
        };
        format = step.tables.0 (λ e. omega (arith, e));
        items = none;
      }),
    )

-- SETTING THE FORMAT

abbrev stored_meta : Table
stored_meta = record meta { tree = meta_tree }

still : (olds news : List Row) → works (second_schema Migrated) Enforced 0 meta_tree olds news ≡ []
still olds news = go (length news == 0)
  where
    go : (deletes : Bool) → flat_map (λ (child : Table). filter_map (λ ref. work_by 0 meta_tree (pairs olds news) child ref (deed_of Enforced deletes (cond deletes ref.on_delete ref.on_update)) (parent_key (second_schema Migrated).tables ref)) child.references) (second_schema Migrated).tables ≡ []
    go true = refl
    go false = refl

-- what the query shows of the only row
only_shown : (table rows : List Row) (id number : ℤ) → table ≡ (Int id ∷ format_row number) ∷ [] → Lists 0 [] format_terms [] [] table rows → rows ≡ (Int id ∷ Int id ∷ format_row (pos 2)) ∷ []
only_shown table rows id number is lists =
    let show = made 0 [] format_terms [] [] in
    let moves : IsPermutation (show (Int id ∷ format_row number) ∷ []) lists.ordered = subst (λ l. IsPermutation (map show l) lists.ordered) (unasked table ∙ is) lists.same in
    lists.shown ∙ ap (map (λ (o : Output). o.1)) (one_permutation (show (Int id ∷ format_row number)) lists.ordered moves)

pub format_set : (old new : State) (number : ℤ) (count : ℕ) → IsUnderWay Migrated old → NamesFormat old.now.trees number → ExecutesInside 0 format_text [] old new (Ok count)
    → IsUnderWay Migrated new × SetsFormat old.now.trees new.now.trees
format_set old new number count way says ran =
    let q : Program = record { lets = []; body = format_query } in
    let command = Update 0 q in
    let trees = old.now.trees in
    let schema = second_schema Migrated in
    let said = statement_of format_text (understood schema format_text) in
    let w = runs_as format_text [] old new schema way.schema_is command format_is format_plain count ran.0 in
    let changed = subst (λ s. Does old.step_limit (mode_of old) [] (record old.now { schema = s }) said None command (Ok (w.tally, new.now))) way.schema_is w.changed in
    let (rows, next, answers, wrote, now) = update_gives old.step_limit (mode_of old) schema stored_meta [] 0 q trees new.now said w.tally refl changed in
    let edit = λ (rows : List Row). edit_of trees stored_meta (ids_of rows) Given 1 rows in
    let step = one_step schema Enforced trees next (edit rows) (still (taken_by trees (edit rows)) (edit rows).news) wrote in
    let is = ap (λ (d : Database). d.schema) now in
    let lists = answer_lists 0 [] format_terms [] [] trees rows (answers.answer Null) refl in
    let (id, table) = says in
    let shown = only_shown (trees 0) rows id number table lists in
    let new_row : Row = Int id ∷ format_row (pos 2) in
    let news : (edit ((Int id ∷ new_row) ∷ [])).news ≡ new_row ∷ [] = rw (cast_int id, cast_int (pos 2)) refl in
    let gone : has_rowid id (Int id ∷ format_row number) ≡ true = ap is_eq (tied_itself value_cmp_total (Int id)) in
    let kept : without_all ((Int id ∷ format_row number) ∷ []) (id ∷ []) ≡ [] = rw gone refl in
    let left : without_all (trees 0) (id ∷ []) ≡ [] = ap (λ rows. without_all rows (id ∷ [])) table ∙ kept in
    let rows_are : next meta_tree ≡ new_row ∷ [] = step.rows ∙ ap (λ l. edited trees (edit l)) shown ∙ (λ i. put_all (left i) (news i)) in (
      record { mode = ran.1.mode; schema_is = is; listed = lists_ledger Migrated new.now is w.sound },
      rw now (record {
        kept = record {
          transfers = step.tables.1.0 (λ e. omega (arith, e));
          tags = step.tables.1.1.0 (λ e. omega (arith, e));
          held = step.tables.1.1.1.1.0 (λ e. omega (arith, e));
          pieces = step.tables.1.1.1.1.1.0 (λ e. omega (arith, e));
        };
        format = (id, rows_are);
        items = step.tables.1.1.1.0 (λ e. omega (arith, e));
      }),
    )

-- WHAT IS ASKED OF THE TABLE OF FORMAT 1

-- a query leaves the connection as it is
unchanged_by : (old new : State) (sql : List ℕ) (params : Row) (rows : List Row) → IsPlain (understood (second_schema Migrated) sql) → old.now.schema ≡ second_schema Migrated → Shown sql params old new rows → IsUnchanged old new
unfolding Shown
unchanged_by old new sql params rows plain has h =
    let known = sym h.1.is ∙ ap (λ (s : Schema). understood s sql) has in
    let bare = subst IsPlain (sym known) plain in
    let it = rw bare.0 at h.2 in
    it.3

way_on : (old new : State) → IsUnchanged old new → IsUnderWay Migrated old → IsUnderWay Migrated new
way_on old new same way = record {
  mode = same.0.mode ∙ way.mode;
  schema_is = ap (λ (d : Database). d.schema) same.0.now_is ∙ way.schema_is;
  listed = subst (λ (d : Database). ListLedger (Second Migrated) d.trees) (sym same.0.now_is) way.listed;
}

abbrev shown_of : Owned → Row
shown_of o = Int o.1.number ∷ Int o.0 ∷ Text o.1.path ∷ []

-- these rows are those of all payload files, in some order
pub record AreAll (rows : List Row) (ts : List NumberedTransfer) : Type 0 where
  pub order : List Owned
  pub same : IsPermutation (owned ts) order
  pub rows_are : rows ≡ map shown_of order

module _ (old new : State) (rows : List Row) (way : IsUnderWay Migrated old) where
  all_shown : (ledger : Ledger) (tables : HoldTransfers First old.now.trees ledger) → Shown all_text [] old new rows → AreAll rows tables.transfers
  all_shown ledger tables shown =
      let got = reads_as all_text [] old new (second_schema Migrated) way.schema_is all_command all_is all_plain all_unlisted rows shown in
      let lists = answer_lists 6 [] all_columns [] [] old.now.trees rows (got.answer Null) refl in
      let show = made 6 [] all_columns [] [] in
      let out : Owned → Output = λ o. show (row_of_whole o) in
      let table = old.now.trees item_tree in
      let moves : IsPermutation (map show table) lists.ordered = subst (λ l. IsPermutation (map show l) lists.ordered) (unasked table) lists.same in
      let from : IsPermutation (map out (owned tables.transfers)) (map show table) = subst (λ l. IsPermutation l (map show table)) (map_twice row_of_whole show (owned tables.transfers)) (IsPermutation-map show _ _ (whole_permuted old.now.trees ledger tables)) in
      let it = lifted out (owned tables.transfers) lists.ordered (IsPermutation-trans _ _ _ from moves) in
      record {
        order = it.moved;
        same = it.same;
        rows_are = lists.shown ∙ ap (map (λ (o : Output). o.1)) (sym it.is) ∙ map_twice out (λ (o : Output). o.1) it.moved;
      }

  -- the row with this number shows its content
  body_shown : (number transfer : ℤ) (path content : List ℕ) → HasBody old.now.trees number transfer path content → Shown body_text (Int number ∷ []) old new rows → rows ≡ (Blob content ∷ []) ∷ []
  body_shown number transfer path content body shown =
      let got = reads_as body_text (Int number ∷ []) old new (second_schema Migrated) way.schema_is body_command one_is one_plain one_unlisted rows shown in
      one_body old.now.trees number transfer path content body rows (answer_lists 6 body_where body_columns [] (Int number ∷ []) old.now.trees rows (got.answer Null) refl)

-- a content that was shown is stored
pub item_moved : (old mid new : State) (rows : List Row) (number transfer : ℤ) (path content body : List ℕ) → IsUnderWay Migrated old → HasBody old.now.trees number transfer path content → Shown body_text (Int number ∷ []) old mid rows
    → column (slice_index_or rows 0 []) 0 ≡ Blob body → (IsUnderWay Migrated mid → IsUnderWay Migrated new × HasContentMore Migrated mid.now.trees new.now.trees transfer path body)
    → IsUnderWay Migrated new × HasContentMore Migrated old.now.trees new.now.trees transfer path content
item_moved old mid new rows number transfer path content body way has shown read stored =
    let same = unchanged_by old mid body_text (Int number ∷ []) rows one_plain way.schema_is shown in
    let it = stored (way_on old mid same way) in
    let value : Blob body ≡ Blob content = sym read ∙ ap (λ rs. column (slice_index_or rs 0 []) 0) (body_shown old mid rows way number transfer path content has shown) in
    let body_is : body ≡ content = cc in (
      it.0,
      subst (λ (d : Database). HasContentMore Migrated d.trees new.now.trees transfer path content) same.0.now_is (subst (λ octets. HasContentMore Migrated mid.now.trees new.now.trees transfer path octets) body_is it.1),
    )

-- ALL OF THEM

-- those in the rows before this one were moved
pub record AreMovedTo (old now : State) (rows : List Row) (count : ℕ) (ledger : Ledger) (to : IsToMove ledger old) : Type 0 where
  pub way : IsUnderWay Migrated now
  pub all : AreAll rows to.tables.held.transfers
  pub moved : HaveMoved old.now.trees now.now.trees (take count all.order)

pub begin_moving : (old now : State) (rows : List Row) (ledger : Ledger) (to : IsToMove ledger old) → Shown all_text [] old now rows → AreMovedTo old now rows 0 ledger to
begin_moving old now rows ledger to shown =
    let same = unchanged_by old now all_text [] rows all_plain to.way.schema_is shown in
    record {
      way = way_on old now same to.way;
      all = all_shown old now rows to.way ledger to.tables.held shown;
      moved = subst (λ (d : Database). HaveMoved old.now.trees d.trees []) (sym same.0.now_is) (none_moved old.now.trees to.none.0 to.none.1);
    }

-- the one in this row
at_row : (order : List Owned) (i : ℕ) (row : Row) → i < length order → (o : Owned) × (o ≡ get_or order i o) × (get_or (map shown_of order) i row ≡ shown_of o) × Has order o
at_row [] i row low = absurd (omega (arith, low))
at_row (o ∷ order) zero row low = (o, refl, refl, inl refl)
at_row (o ∷ order) (suc i) row low = let it = at_row order i row (omega (arith, low)) in (it.0, it.1, it.2, inr it.3)

same_body : (old now : Trees) (number transfer : ℤ) (path content : List ℕ) → now item_tree ≡ old item_tree → HasBody old number transfer path content → HasBody now number transfer path content
same_body old now number transfer path content same body = record { others = body.others; free = body.free; rows = subst (IsPermutation (whole_row number transfer path content ∷ body.others)) (sym same) body.rows }

pub move_on : (old now new : State) (rows : List Row) (i : ℕ) (row : Row) (ledger : Ledger) (to : IsToMove ledger old) (number transfer : ℤ) (path : List ℕ) → i < length rows → row ≡ get_or rows i row
    → column row 0 ≡ Int number → column row 1 ≡ Int transfer → column row 2 ≡ Text path → AreMovedTo old now rows i ledger to
    → ((content : List ℕ) → IsUnderWay Migrated now → HasBody now.now.trees number transfer path content → IsUnderWay Migrated new × HasContentMore Migrated now.now.trees new.now.trees transfer path content)
    → AreMovedTo old new rows (i + 1) ledger to
move_on old now new rows i row ledger to number transfer path low at first second third so_far moves =
    let order = so_far.all.order in
    let below : i < length order = omega (arith, low, ap length so_far.all.rows_are, length-map order shown_of) in
    let (o, here, shown, there) = at_row order i row below in
    let row_is : row ≡ shown_of o = at ∙ ap (λ rs. get_or rs i row) so_far.all.rows_are ∙ shown in
    let one : Int number ≡ Int o.1.number = sym first ∙ ap (λ r. column r 0) row_is in
    let two : Int transfer ≡ Int o.0 = sym second ∙ ap (λ r. column r 1) row_is in
    let three : Text path ≡ Text o.1.path = sym third ∙ ap (λ r. column r 2) row_is in
    let number_is : number ≡ o.1.number = cc in
    let transfer_is : transfer ≡ o.0 = cc in
    let path_is : path ≡ o.1.path = cc in
    let ts = to.tables.held.transfers in
    let was = has_body old.now.trees ledger to.tables.held o (has_moved order (owned ts) o (IsPermutation-sym (owned ts) order so_far.all.same) there) in
    let body = same_body old.now.trees now.now.trees o.1.number o.0 o.1.path (concat o.1.pieces) so_far.moved.kept.first was in
    let stores = rw (number_is, transfer_is, path_is) at moves in
    let it = stores (concat o.1.pieces) so_far.way body in
    record {
      way = it.0;
      all = so_far.all;
      moved = subst (HaveMoved old.now.trees new.now.trees) (sym (taken_more order i o below here)) (one_moved old.now.trees now.now.trees new.now.trees (take i order) o so_far.moved it.1);
    }

-- what the tables of format 1 hold
first_stays : (old now : Trees) (ledger : Ledger) → now meta_tree ≡ old meta_tree → now transfer_tree ≡ old transfer_tree → now tag_tree ≡ old tag_tree → now item_tree ≡ old item_tree → AreTablesOf First old ledger → AreTablesOf First now ledger
first_stays old now ledger format transfers tags items tables =
    let held = tables.held in
    record {
      format = (tables.format.0, format ∙ tables.format.1);
      held = record {
        transfers = held.transfers;
        rows = record {
          transfers = subst (IsPermutation (map transfer_row held.transfers)) (sym transfers) held.rows.transfers;
          tags = subst (λ rows. IsPermutation (flat_map tag_rows held.transfers) (without_rowids rows)) (sym tags) held.rows.tags;
          items = subst (IsPermutation (flat_map item_rows held.transfers)) (sym items) held.rows.items;
        };
        numbers = held.numbers;
        item_numbers = held.item_numbers;
        cut = held.cut;
        is = held.is;
        order = held.order;
      };
      moved = tt;
    }

pub moved_to_end : (old now : State) (rows : List Row) (count : ℕ) (ledger : Ledger) (to : IsToMove ledger old) → length rows ≤ count → AreMovedTo old now rows count ledger to → IsInBoth ledger now
moved_to_end old now rows count ledger to past so_far =
    let order = so_far.all.order in
    let end : length order ≤ count = omega (arith, past, ap length so_far.all.rows_are, length-map order shown_of) in
    let kept = so_far.moved.kept in
    record {
      way = so_far.way;
      tables = first_stays old.now.trees now.now.trees ledger kept.format kept.transfers kept.tags kept.first to.tables;
      held = all_moved old.now.trees now.now.trees ledger to.tables.held order so_far.all.same (subst (HaveMoved old.now.trees now.now.trees) (take_all count order end) so_far.moved);
    }

-- THE TRANSACTION

-- the rows before the tables of format 2 are made
abbrev pub rows_before : Trees → Trees
rows_before trees tree = cond (nat_lt tree 8) (trees tree) []

pub begin_migrating : {S : Type 0} (g : Ghosts S) (old : Held S) (ledger : Ledger) → ShowsLedger First (state g old) ledger → IsMaking first_schema (rows_before (state g old).now.trees) (state g (record old { in_transaction = true }))
begin_migrating g old ledger shows = record { mode = refl; schema_is = shows.schema_is; rows_are = (refl, (refl, (refl, (refl, tt)))) }

-- the tables of format 2 were made
pub to_move : (old now : State) (ledger : Ledger) → ShowsLedger First old ledger → IsMaking (second_schema Migrated) (rows_before old.now.trees) now → IsDatabase now.now → IsToMove ledger now
to_move old now ledger shows making sound =
    let rows = making.rows_are in
    record {
      way = record { mode = making.mode; schema_is = making.schema_is; listed = lists_ledger Migrated now.now making.schema_is sound };
      tables = first_stays old.now.trees now.now.trees ledger rows.0 rows.1.0 rows.1.1.0 rows.1.1.1.0 shows.database.tables;
      none = (rows.1.1.1.1.0, rows.1.1.1.1.1.0);
    }

pub migrated_database : (now : State) (ledger : Ledger) → IsSound ledger → IsMigrated ledger now → IsDatabaseOf (Second Migrated) now.now.trees ledger
migrated_database now ledger sound it = record { listed = it.way.listed; tables = it.tables; sound = sound }

pub migrated_shows : (mid end : State) (ledger : Ledger) → IsSound ledger → IsMigrated ledger mid → Shows mid end mid.now mid.now false → IsTrue end.is_open × ShowsLedger (Second Migrated) end ledger
migrated_shows mid end ledger sound it shows = (
  shows.is_open,
  record {
    schema_is = ap (λ (d : Database). d.schema) shows.now_is ∙ it.way.schema_is;
    database = subst (λ (d : Database). IsDatabaseOf (Second Migrated) d.trees ledger) (sym shows.now_is) (migrated_database mid ledger sound it);
    committed = shows.committed_is ∙ sym shows.now_is;
  },
)

-- IN SEQUENCE

-- each row of the table has a number
pub numbered_rows : (trees : Trees) (ledger : Ledger) → HoldTransfers First trees ledger → AllByRecursion (λ row. IsInt (column row 0)) (trees item_tree)
numbered_rows trees ledger tables = all_permuted (λ row. IsInt (column row 0)) (map row_of_whole (owned tables.transfers)) (trees item_tree) (whole_permuted trees ledger tables) (each (owned tables.transfers))
  where
    each : (os : List Owned) → AllByRecursion (λ row. IsInt (column row 0)) (map row_of_whole os)
    each [] = tt
    each (o ∷ os) = ((o.1.number, refl), each os)

-- the tables of format 2 hold what they held, once format 1 is left
pub left_behind : (a b c : State) (ledger : Ledger) → IsInBoth ledger a → (IsUnderWay Migrated b × Empties a.now.trees b.now.trees) → (IsUnderWay Migrated c × SetsFormat b.now.trees c.now.trees) → IsMigrated ledger c
left_behind a b c ledger both emptied set =
    let p = emptied.1.kept in
    let q = set.1.kept in
    let old = a.now.trees in
    let new = c.now.trees in
    let held = both.held in
    record {
      way = set.0;
      tables = record {
        format = set.1.format;
        held = record {
          transfers = held.transfers;
          rows = record {
            transfers = subst (IsPermutation (map transfer_row held.transfers)) (sym (q.transfers ∙ p.transfers)) held.rows.transfers;
            tags = subst (λ rows. IsPermutation (flat_map tag_rows held.transfers) (without_rowids rows)) (sym (q.tags ∙ p.tags)) held.rows.tags;
            items = record {
              held = subst (IsPermutation (flat_map held_rows held.transfers)) (sym (q.held ∙ p.held)) held.rows.items.held;
              pieces = subst (λ rows. IsPermutation (flat_map piece_rows (items_in held.transfers)) (without_rowids rows)) (sym (q.pieces ∙ p.pieces)) held.rows.items.pieces;
            };
          };
          numbers = held.numbers;
          item_numbers = held.item_numbers;
          cut = held.cut;
          is = held.is;
          order = held.order;
        };
        moved = set.1.items ∙ emptied.1.items;
      };
    }
