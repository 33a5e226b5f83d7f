-- The meanings of the queries for rows that no ledger has.
use Rattle.std.proofs.Common.{◌≡◌, ℕ, List, [], ◌∷◌, None, codes, false, negsuc, pos, refl}
use Rattle.sqlite_sql.specs.Query.{counted, Join}
use Rattle.sqlite_sql.specs.Term.{op1}
use Rattle.sqlite_sql.specs.declared.ops.BinaryOp.TheVariants.{Or}
use Rattle.sqlite_sql.specs.declared.ops.CompareOp.TheVariants.{Ne}
use Rattle.sqlite_sql.specs.declared.ops.UnaryOp.TheVariants.{Not, TypeOf}
use Rattle.bag_sqlite.specs.Adopting.{stray_items_text, stray_pieces_text, stray_tag_files_text, stray_transfers_text, stray_whole_items_text}
use Rattle.bag_sqlite.proofs.Words.{Binary, col, Command, command_of, Compare, end, everything, First, first_schema, held_tree, inner, Int, IsPlain, Layout, lit, Migrated, New, op2, Origin, piece_tree, Query, reads_listing, schema_of, Second, second_schema, Select, Term, Text, understood}
use Rattle.bag_sqlite.proofs.WhereLemmas.{equals, over}

-- the value has another type
abbrev is_other : Term → List ℕ → Term
is_other value type = op2 (Compare Ne Binary) (op1 TypeOf value) (lit (Text type))

abbrev either : Term → Term → Term
either = op2 Or

-- no row of the other table owns it; its owners are counted up to one
abbrev unowned : Term
unowned = op1 Not (col 2 0)

abbrev pub just_one : List Term
just_one = lit (Int (pos 1)) ∷ []

abbrev pub the_one : List (List ℕ)
the_one = codes "1" ∷ []

-- the rows of a table, each with the number of its owners in another table
abbrev pub with_owners : ℕ → ℕ → List Term → Join
with_owners tree parent owner = inner tree (counted 1 (inner parent end) owner end)

abbrev pub over_owned : ℕ → ℕ → List Term → List Term → List Term → Query
over_owned tree parent owner shown conditions = record {
  from = with_owners tree parent owner;
  filter = conditions;
  group = None;
  project = shown;
  distinct = false;
  collations = [];
  order = [];
  limit = lit (Int (negsuc 0));
  offset = lit (Int (pos 0));
}

abbrev pub meant : List (List ℕ) → Query → Command
meant names query = Select (record { lets = []; body = query }) names

-- TRANSFERS

abbrev pub stray_transfers : List Term
stray_transfers = either (is_other (col 1 0) (codes "integer")) (is_other (col 1 2) (codes "text")) ∷ []

abbrev pub stray_transfers_query : Query
stray_transfers_query = over 2 stray_transfers just_one []

pub stray_transfers_is : (l : Layout) → command_of (understood (schema_of l) stray_transfers_text) ≡ meant the_one stray_transfers_query
unfolding understood everything
stray_transfers_is First = refl
stray_transfers_is (Second New) = refl
stray_transfers_is (Second Migrated) = refl

pub stray_transfers_plain : (l : Layout) → IsPlain (understood (schema_of l) stray_transfers_text)
unfolding understood everything
stray_transfers_plain First = (refl, refl)
stray_transfers_plain (Second New) = (refl, refl)
stray_transfers_plain (Second Migrated) = (refl, refl)

pub stray_transfers_unlisted : (l : Layout) → reads_listing (schema_of l) stray_transfers_text ≡ false
unfolding everything
stray_transfers_unlisted First = refl
stray_transfers_unlisted (Second New) = refl
stray_transfers_unlisted (Second Migrated) = refl

-- TAG FILES

abbrev pub tag_owner : List Term
tag_owner = equals (col 2 0) (col 1 1) ∷ []

abbrev pub stray_tag_files : List Term
stray_tag_files =
    either (either (either (is_other (col 1 1) (codes "integer")) (is_other (col 1 2) (codes "text"))) (is_other (col 1 3) (codes "blob"))) unowned ∷ []

abbrev pub stray_tag_files_query : Query
stray_tag_files_query = over_owned 4 2 tag_owner just_one stray_tag_files

pub stray_tag_files_is : (l : Layout) → command_of (understood (schema_of l) stray_tag_files_text) ≡ meant the_one stray_tag_files_query
unfolding understood everything
stray_tag_files_is First = refl
stray_tag_files_is (Second New) = refl
stray_tag_files_is (Second Migrated) = refl

pub stray_tag_files_plain : (l : Layout) → IsPlain (understood (schema_of l) stray_tag_files_text)
unfolding understood everything
stray_tag_files_plain First = (refl, refl)
stray_tag_files_plain (Second New) = (refl, refl)
stray_tag_files_plain (Second Migrated) = (refl, refl)

pub stray_tag_files_unlisted : (l : Layout) → reads_listing (schema_of l) stray_tag_files_text ≡ false
unfolding everything
stray_tag_files_unlisted First = refl
stray_tag_files_unlisted (Second New) = refl
stray_tag_files_unlisted (Second Migrated) = refl

-- PAYLOAD FILES

abbrev pub item_owner : List Term
item_owner = equals (col 2 0) (col 1 2) ∷ []

abbrev pub stray_items : List Term
stray_items =
    either (either (either (either (is_other (col 1 0) (codes "integer")) (is_other (col 1 2) (codes "integer"))) (is_other (col 1 3) (codes "text"))) (is_other (col 1 4) (codes "integer"))) unowned ∷ []

abbrev pub stray_items_query : Origin → Query
stray_items_query o = over_owned (held_tree o) 2 item_owner just_one stray_items

pub stray_items_is : (o : Origin) → command_of (understood (second_schema o) stray_items_text) ≡ meant the_one (stray_items_query o)
unfolding understood everything
stray_items_is New = refl
stray_items_is Migrated = refl

pub stray_items_plain : (o : Origin) → IsPlain (understood (second_schema o) stray_items_text)
unfolding understood everything
stray_items_plain New = (refl, refl)
stray_items_plain Migrated = (refl, refl)

pub stray_items_unlisted : (o : Origin) → reads_listing (second_schema o) stray_items_text ≡ false
unfolding everything
stray_items_unlisted New = refl
stray_items_unlisted Migrated = refl

-- THE SAME IN FORMAT 1

abbrev pub whole_owner : List Term
whole_owner = equals (col 2 0) (col 1 1) ∷ []

abbrev pub whole_shown : List Term
whole_shown = col 1 0 ∷ col 1 4 ∷ []

abbrev pub whole_names : List (List ℕ)
whole_names = codes "rowid" ∷ codes "body" ∷ []

abbrev pub stray_whole_items : List Term
stray_whole_items =
    either (either (either (is_other (col 1 1) (codes "integer")) (is_other (col 1 2) (codes "text"))) (is_other (col 1 3) (codes "integer"))) unowned ∷ []

abbrev pub stray_whole_items_query : Query
stray_whole_items_query = over_owned 6 2 whole_owner whole_shown stray_whole_items

pub stray_whole_items_is : command_of (understood first_schema stray_whole_items_text) ≡ meant whole_names stray_whole_items_query
unfolding understood everything
stray_whole_items_is = refl

pub stray_whole_items_plain : IsPlain (understood first_schema stray_whole_items_text)
unfolding understood everything
stray_whole_items_plain = (refl, refl)

pub stray_whole_items_unlisted : reads_listing first_schema stray_whole_items_text ≡ false
unfolding everything
stray_whole_items_unlisted = refl

-- PIECES

abbrev pub piece_owner : List Term
piece_owner = equals (col 2 0) (col 1 1) ∷ []

abbrev pub piece_shown : List Term
piece_shown = col 1 3 ∷ []

abbrev pub piece_names : List (List ℕ)
piece_names = codes "body" ∷ []

abbrev pub stray_pieces : List Term
stray_pieces = either (either (is_other (col 1 1) (codes "integer")) (is_other (col 1 2) (codes "integer"))) unowned ∷ []

abbrev pub stray_pieces_query : Origin → Query
stray_pieces_query o = over_owned (piece_tree o) (held_tree o) piece_owner piece_shown stray_pieces

pub stray_pieces_is : (o : Origin) → command_of (understood (second_schema o) stray_pieces_text) ≡ meant piece_names (stray_pieces_query o)
unfolding understood everything
stray_pieces_is New = refl
stray_pieces_is Migrated = refl

pub stray_pieces_plain : (o : Origin) → IsPlain (understood (second_schema o) stray_pieces_text)
unfolding understood everything
stray_pieces_plain New = (refl, refl)
stray_pieces_plain Migrated = (refl, refl)

pub stray_pieces_unlisted : (o : Origin) → reads_listing (second_schema o) stray_pieces_text ≡ false
unfolding everything
stray_pieces_unlisted New = refl
stray_pieces_unlisted Migrated = refl
