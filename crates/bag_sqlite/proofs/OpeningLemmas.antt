-- Writing the rows of a transfer.
use Rattle.std.proofs.Common.{◌≡◌, ◌<◌, ◌+◌, ℕ, ℤ, suc, List, [], ◌∷◌, ◌++◌, IsTrue, Ok, Some, slice_get, true, append_assoc, drop, get_or, length, take, refl, sym, ap, subst, ◌∙◌, arith}
use Rattle.std.specs.Str.{IsUtf8}
use Rattle.bag_sqlite.proofs.Words.{AddsTags, AddsTransfer, AreTagFiles, Blob, ExecutesInside, File, Files, files_of, Ghosts, HasCleanDisk, HasOneTransferMore, Held, Int, IsPermutation, IsPermutation-cons, IsPermutation-map, IsPermutation-middle, IsPermutation-refl, IsPermutation-trans, IsUnderWay, IsUnused, KeepsCommit, Ledger, map-append, Migrated, New, Null, opened_under, Opens, Origin, Row, second_schema, sound_begun, state, State, Survives, survives_begin, Table, tag, tag_rows, tag_tree, take-suc, Text, transfer, transfer_tree, Trees, with_transfer, without_rowids}
use Rattle.bag_sqlite.proofs.CommitLemmas.{Prepares}
use Rattle.bag_sqlite.proofs.GrowthLemmas.{begun_tables}
use Rattle.bag_sqlite.proofs.InsertLemmas.{apart_from, row_inserted}
use Rattle.bag_sqlite.proofs.LayoutLemmas.{keeps_items_same, keeps_items_then, kept_by_tag, kept_by_transfer}
use Rattle.bag_sqlite.proofs.MakingLemmas.{kept_since}
use Rattle.bag_sqlite.proofs.MeaningLemmas.{new_tag_is, new_tag_plain, new_tag_terms, new_tag_text, new_transfer_is, new_transfer_plain, new_transfer_terms, new_transfer_text}
use Rattle.bag_sqlite.proofs.SqlLemmas.{cast_int, cast_null}

-- THE ROWS

abbrev stored_transfer : Table
stored_transfer = record transfer { tree = transfer_tree }

abbrev stored_tag : Table
stored_tag = record tag { tree = tag_tree }

transfer_found : (o : Origin) → slice_get (second_schema o).tables 1 ≡ Some stored_transfer
transfer_found New = refl
transfer_found Migrated = refl

tag_found : (o : Origin) → slice_get (second_schema o).tables 2 ≡ Some stored_tag
tag_found New = refl
tag_found Migrated = refl

pub transfer_inserted : {o : Origin} (old new : State) (name : List ℕ) (count : ℕ) → IsUnderWay o old → ExecutesInside 0 new_transfer_text (Text name ∷ []) old new (Ok count)
    → IsUnderWay o new × AddsTransfer o old.now.trees new.now.trees new.last_rowid name
transfer_inserted {o} old new name count way ran =
    let row = row_inserted o stored_transfer 1 new_transfer_terms 3 new_transfer_text (Text name ∷ []) (Null ∷ Text name ∷ []) old new count way.schema_is (transfer_found o) (new_transfer_is o) (new_transfer_plain o) (rw cast_null) ran.0 in
    let kept = kept_by_transfer old.now.trees new.now.trees o row.others in (
      record { mode = ran.1.mode; schema_is = row.schema_is; listed = row.listed },
      record { kept = kept.0; fresh = apart_from new.last_rowid (old.now.trees transfer_tree) row.fresh; transfers = row.rows; tags = kept.1 },
    )

pub tag_inserted : {o : Origin} (old new : State) (number : ℤ) (path body : List ℕ) (count : ℕ) → IsUnderWay o old → ExecutesInside 0 new_tag_text (Int number ∷ Text path ∷ Blob body ∷ []) old new (Ok count)
    → IsUnderWay o new × AddsTags o old.now.trees new.now.trees number ((path, body) ∷ [])
tag_inserted {o} old new number path body count way ran =
    let values = Int number ∷ Text path ∷ Blob body ∷ [] in
    let row = row_inserted o stored_tag 2 new_tag_terms 4 new_tag_text values values old new count way.schema_is (tag_found o) (new_tag_is o) (new_tag_plain o) (rw (cast_null, cast_int)) ran.0 in
    let kept = kept_by_tag old.now.trees new.now.trees o row.others in (
      record { mode = ran.1.mode; schema_is = row.schema_is; listed = row.listed },
      record { kept = kept.0; transfers = kept.1; tags = IsPermutation-map (drop 1) _ _ row.rows },
    )

-- IN SEQUENCE

pub no_tags : {o : Origin} (a : Trees) (number : ℤ) → AddsTags o a a number []
no_tags {o} a number = record { kept = keeps_items_same o a; transfers = refl; tags = IsPermutation-refl (without_rowids (a tag_tree)) }

-- one more tag file
module _ {o : Origin} (a b c : Trees) (number : ℤ) where
  more_tags : (files : Files) (file : List ℕ × List ℕ) → AddsTags o a b number files → AddsTags o b c number (file ∷ []) → AddsTags o a c number (files ++ file ∷ [])
  more_tags files file p q =
      let row_of = λ (file : List ℕ × List ℕ). let row : Row = Int number ∷ Text file.0 ∷ Blob file.1 ∷ [] in row in
      let rows = tag_rows (opened_under number [] files) in
      let was = without_rowids (a tag_tree) in
      let end = without_rowids (c tag_tree) in
      let split : tag_rows (opened_under number [] (files ++ file ∷ [])) ++ was ≡ rows ++ row_of file ∷ was = ap (λ l. l ++ was) (map-append row_of files (file ∷ [])) ∙ append_assoc rows (row_of file ∷ []) was in
      record {
        kept = keeps_items_then o a b c p.kept q.kept;
        transfers = q.transfers ∙ p.transfers;
        tags = subst (λ l. IsPermutation l end) (sym split) (IsPermutation-trans _ _ end (IsPermutation-middle rows (row_of file) was)
            (IsPermutation-trans _ _ end (IsPermutation-cons (row_of file) (rows ++ was) (without_rowids (b tag_tree)) p.tags) q.tags));
      }

  pub tags_grow : (files : List File) (i : ℕ) (file : File) → i < length files → file ≡ get_or files i file → AddsTags o a b number (files_of (take i files)) → AddsTags o b c number ((file.path, file.body.items) ∷ [])
      → AddsTags o a c number (files_of (take (i + 1) files))
  tags_grow files i file low at p q =
      let next : i + 1 ≡ suc i = omega arith in
      let split : take (i + 1) files ≡ take i files ++ file ∷ [] = rw next (take-suc files i file low) ∙ ap (λ f. take i files ++ f ∷ []) (sym at) in
      let listed : files_of (take (i + 1) files) ≡ files_of (take i files) ++ (file.path, file.body.items) ∷ [] = ap files_of split ∙ map-append (λ (f : File). (f.path, f.body.items)) (take i files) (file ∷ []) in
      subst (AddsTags o a c number) (sym listed) (more_tags (files_of (take i files)) (file.path, file.body.items) p q)

-- the transfer's row, and then those of its tag files
pub one_more : {o : Origin} (a b c : Trees) (number : ℤ) (name : List ℕ) (files : Files) → AddsTransfer o a b number name → AddsTags o b c number files → HasOneTransferMore o a c (opened_under number name files)
one_more {o} a b c number name files p q = record {
  kept = keeps_items_then o a b c p.kept q.kept;
  fresh = p.fresh;
  transfers = subst (IsPermutation ((Int number ∷ Null ∷ Text name ∷ []) ∷ a transfer_tree)) (sym q.transfers) p.transfers;
  tags = subst (λ rows. IsPermutation (tag_rows (opened_under number name files) ++ without_rowids rows) (without_rowids (c tag_tree))) p.tags q.tags;
}

-- THE TRANSACTION

module _ {S : Type 0} (g : Ghosts S) (old : Held S) (mid : State) (name : List ℕ) (tags : Files) where
  abbrev begun : State
  begun = state g (record old { in_transaction = true })

  abbrev pub opens_it : Ledger → Ledger
  opens_it ledger = with_transfer ledger name tags

  pub prepares : IsUtf8 name → AreTagFiles tags → Opens tags → (HasCleanDisk mid → (o : Origin) → IsUnderWay o begun → IsUnderWay o mid × ((number : ℤ) × HasOneTransferMore o begun.now.trees mid.now.trees (opened_under number name tags)))
      → (HasCleanDisk mid → IsTrue begun.in_transaction → IsTrue begun.is_open) → (HasCleanDisk mid → KeepsCommit begun mid) → Survives begun mid (λ _. ⊥) → Prepares g (IsUnused name) opens_it old mid
  prepares text tag_files opens written opened kept survives = record {
    kept = λ clean. kept_since g old mid (kept clean);
    survives = survives_begin g old mid _ survives;
    database = λ clean ledger holds unused.
        let (o, shows) = holds.shows (opened clean refl) in
        let it = written clean o (record { mode = refl; schema_is = shows.schema_is; listed = shows.database.listed }) in (
          o,
          it.0,
          record {
            listed = it.0.listed;
            tables = begun_tables begun.now.trees mid.now.trees ledger it.1.0 name tags shows.database.tables unused tag_files.rising it.1.1;
            sound = sound_begun ledger name tags holds.sound text tag_files opens;
          },
        );
  }
