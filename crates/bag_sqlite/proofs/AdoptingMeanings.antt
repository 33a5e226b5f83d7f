-- The meanings of the queries by which a database is opened as a ledger.
use Rattle.std.proofs.Common.{◌≡◌, List, [], ◌∷◌, Some, codes, false, refl}
use Rattle.sqlite_sql.specs.Group.{Grouping}
use Rattle.sqlite_sql.specs.declared.aggregate.AggregateOp.TheVariants.{CountRows}
use Rattle.bag_sqlite.proofs.Words.{ascending, Binary, body_text, col, Command, command_of, count_text, everything, First, first_schema, format_text, held_tree, IsPlain, items_text, Layout, lit, Migrated, New, Null, Origin, piece_tree, Query, reads_listing, schema_of, Second, second_schema, Select, Term, transfers_text, understood}
use Rattle.bag_sqlite.specs.declared.format.Format.TheVariants as form
use Rattle.bag_sqlite.proofs.WhereLemmas.{equals, over}

-- THE FORMAT

abbrev pub format_columns : List Term
format_columns = col 1 1 ∷ col 1 2 ∷ []

pub format_is : (l : Layout) → command_of (understood (schema_of l) format_text) ≡ Select (record { lets = []; body = over 0 [] format_columns [] }) (codes "k" ∷ codes "v" ∷ [])
unfolding understood everything
format_is First = refl
format_is (Second New) = refl
format_is (Second Migrated) = refl

pub format_plain : (l : Layout) → IsPlain (understood (schema_of l) format_text)
unfolding understood everything
format_plain First = (refl, refl)
format_plain (Second New) = (refl, refl)
format_plain (Second Migrated) = (refl, refl)

pub format_unlisted : (l : Layout) → reads_listing (schema_of l) format_text ≡ false
unfolding everything
format_unlisted First = refl
format_unlisted (Second New) = refl
format_unlisted (Second Migrated) = refl

-- THE TRANSFERS

abbrev pub transfers_columns : List Term
transfers_columns = col 1 0 ∷ col 1 2 ∷ []

pub transfers_is : (l : Layout) → command_of (understood (schema_of l) transfers_text)
    ≡ Select (record { lets = []; body = over 2 [] transfers_columns ((col 1 2, ascending Binary) ∷ []) }) (codes "id" ∷ codes "name" ∷ [])
unfolding understood everything
transfers_is First = refl
transfers_is (Second New) = refl
transfers_is (Second Migrated) = refl

pub transfers_plain : (l : Layout) → IsPlain (understood (schema_of l) transfers_text)
unfolding understood everything
transfers_plain First = (refl, refl)
transfers_plain (Second New) = (refl, refl)
transfers_plain (Second Migrated) = (refl, refl)

pub transfers_unlisted : (l : Layout) → reads_listing (schema_of l) transfers_text ≡ false
unfolding everything
transfers_unlisted First = refl
transfers_unlisted (Second New) = refl
transfers_unlisted (Second Migrated) = refl

-- THE PAYLOAD FILES OF A TRANSFER

abbrev pub items_where : List Term
items_where = equals (col 1 2) (col 0 0) ∷ []

abbrev pub items_columns : List Term
items_columns = col 1 0 ∷ col 1 3 ∷ col 1 4 ∷ []

pub items_is : (o : Origin) → command_of (understood (second_schema o) (items_text form.Second))
    ≡ Select (record { lets = []; body = over (held_tree o) items_where items_columns ((col 1 3, ascending Binary) ∷ []) }) (codes "id" ∷ codes "path" ∷ codes "size" ∷ [])
unfolding understood everything
items_is New = refl
items_is Migrated = refl

pub items_plain : (o : Origin) → IsPlain (understood (second_schema o) (items_text form.Second))
unfolding understood everything
items_plain New = (refl, refl)
items_plain Migrated = (refl, refl)

pub items_unlisted : (o : Origin) → reads_listing (second_schema o) (items_text form.Second) ≡ false
unfolding everything
items_unlisted New = refl
items_unlisted Migrated = refl

-- THE SAME IN FORMAT 1

abbrev pub whole_where : List Term
whole_where = equals (col 1 1) (col 0 0) ∷ []

abbrev pub whole_columns : List Term
whole_columns = col 1 0 ∷ col 1 2 ∷ col 1 3 ∷ []

pub whole_is : command_of (understood first_schema (items_text form.First))
    ≡ Select (record { lets = []; body = over 6 whole_where whole_columns ((col 1 2, ascending Binary) ∷ []) }) (codes "rowid" ∷ codes "path" ∷ codes "size" ∷ [])
unfolding understood everything
whole_is = refl

pub whole_plain : IsPlain (understood first_schema (items_text form.First))
unfolding understood everything
whole_plain = (refl, refl)

pub whole_unlisted : reads_listing first_schema (items_text form.First) ≡ false
unfolding everything
whole_unlisted = refl

-- A CONTENT IN FORMAT 1

abbrev pub body_where : List Term
body_where = equals (col 1 0) (col 0 0) ∷ []

abbrev pub body_columns : List Term
body_columns = col 1 4 ∷ []

abbrev pub body_command : Command
body_command = Select (record { lets = []; body = over 6 body_where body_columns [] }) (codes "body" ∷ [])

pub body_is : command_of (understood first_schema body_text) ≡ body_command
unfolding understood everything
body_is = refl

pub body_plain : IsPlain (understood first_schema body_text)
unfolding understood everything
body_plain = (refl, refl)

pub body_unlisted : reads_listing first_schema body_text ≡ false
unfolding everything
body_unlisted = refl

-- THE NUMBER OF PIECES

abbrev pub count_where : List Term
count_where = equals (col 1 1) (col 0 0) ∷ []

-- one group of all rows, and their number
abbrev pub all_counted : Grouping
all_counted = record {
  keys = [];
  collations = [];
  aggregates = record { op = CountRows; distinct = false; collation = Binary; argument = lit Null } ∷ [];
  having = [];
}

abbrev pub count_query : Origin → Query
count_query o = record (over (piece_tree o) count_where (col 1 0 ∷ []) []) { group = Some all_counted }

pub count_is : (o : Origin) → command_of (understood (second_schema o) count_text) ≡ Select (record { lets = []; body = count_query o }) (codes "count(*)" ∷ [])
unfolding understood everything
count_is New = refl
count_is Migrated = refl

pub count_plain : (o : Origin) → IsPlain (understood (second_schema o) count_text)
unfolding understood everything
count_plain New = (refl, refl)
count_plain Migrated = (refl, refl)

pub count_unlisted : (o : Origin) → reads_listing (second_schema o) count_text ≡ false
unfolding everything
count_unlisted New = refl
count_unlisted Migrated = refl
