-- The tables of a ledger as `sqlite` understands them: those of format 1, those of format 2, and those of both.
use Rattle.std.specs.Prelude.{ℕ, ℤ, pos, List, [], ◌∷◌, true, false, Some, None, codes}
use Rattle.sqlite.specs.Change.{created}
use Rattle.sqlite.specs.Collation.TheVariants.{Binary}
use Rattle.sqlite.specs.Kind.{Kind}
use Rattle.sqlite.specs.Kind.TheVariants.{Integer, Text, Blob}
use Rattle.sqlite.specs.Schema.{Schema}
use Rattle.sqlite.specs.Table.{Table}
use Rattle.sqlite.specs.declared.types.Value.TheVariants.{Null}
use Rattle.sqlite_schema.specs.declared.schema.Action.TheVariants.{NoAction}
use Rattle.sqlite_schema.specs.declared.schema.Column.{Column}
use Rattle.sqlite_schema.specs.declared.schema.Reference.{Reference}
use Rattle.sqlite_value.specs.Keys.{plain}
use Rattle.bag_sqlite.specs.declared.format.Format.{Format}
use Rattle.bag_sqlite.specs.declared.format.Format.TheVariants as form

-- VOCABULARY FOR TABLES

-- a column of a strict table
abbrev pub column_of : List ℕ → Kind → Column
column_of name kind = record {
  name = name;
  kind = kind;
  is_strict = true;
  not_null = true;
  default = Null;
  collation = Binary;
}

-- the column `id`, which is the rowid
abbrev pub id_column : Column
id_column = record (column_of (codes "id") Integer) { not_null = false }

-- a table without a key
abbrev pub table_of : List ℕ → List Column → Table
table_of name columns = record {
  name = name;
  tree = 0;
  columns = columns;
  key = None;
  primary = [];
  uniques = [];
  orders = [];
  checks = [];
  references = [];
  computed = [];
  stamps = record { places = []; terms = []; formats = [] };
  is_counted = false;
}

-- the column at this place references the `id` of a row of another table
abbrev pub refers : ℕ → List ℕ → Reference
refers place parent = record {
  columns = place ∷ [];
  parent = parent;
  parent_columns = codes "id" ∷ [];
  on_delete = NoAction;
  on_update = NoAction;
  is_deferred = false;
}

-- THE TABLES OF BOTH FORMATS

abbrev pub meta : Table
meta = record (table_of (codes "meta")
    (column_of (codes "k") Text ∷ column_of (codes "v") Integer ∷ [])) {
      primary = 1 ∷ [];
      uniques = (1 ∷ []) ∷ [];
      orders = plain ∷ [];
    }

abbrev pub transfer : Table
transfer = record (table_of (codes "transfer")
    (id_column ∷ column_of (codes "name") Text ∷ [])) {
      key = Some 0;
      primary = 0 ∷ [];
      uniques = (2 ∷ []) ∷ [];
      orders = plain ∷ [];
    }

abbrev pub tag : Table
tag = record (table_of (codes "tag")
    (column_of (codes "transfer") Integer ∷ column_of (codes "path") Text
    ∷ column_of (codes "body") Blob ∷ [])) {
      primary = 1 ∷ 2 ∷ [];
      uniques = (1 ∷ 2 ∷ []) ∷ [];
      orders = plain ∷ [];
      references = refers 1 (codes "transfer") ∷ [];
    }

-- THE TABLE OF FORMAT 1

-- each payload file with its whole content
abbrev pub item : Table
item = record (table_of (codes "item")
    (column_of (codes "transfer") Integer ∷ column_of (codes "path") Text
    ∷ column_of (codes "size") Integer ∷ column_of (codes "body") Blob ∷ [])) {
      primary = 1 ∷ 2 ∷ [];
      uniques = (1 ∷ 2 ∷ []) ∷ [];
      orders = plain ∷ [];
      references = refers 1 (codes "transfer") ∷ [];
    }

-- THE TABLES OF FORMAT 2

abbrev pub held : Table
held = record (table_of (codes "held")
    (id_column ∷ column_of (codes "transfer") Integer ∷ column_of (codes "path") Text
    ∷ column_of (codes "size") Integer ∷ [])) {
      key = Some 0;
      primary = 0 ∷ [];
      uniques = (2 ∷ 3 ∷ []) ∷ [];
      orders = plain ∷ [];
      references = refers 2 (codes "transfer") ∷ [];
    }

abbrev pub piece : Table
piece = record (table_of (codes "piece")
    (column_of (codes "item") Integer ∷ column_of (codes "n") Integer
    ∷ column_of (codes "body") Blob ∷ [])) {
      primary = 1 ∷ 2 ∷ [];
      uniques = (1 ∷ 2 ∷ []) ∷ [];
      orders = plain ∷ [];
      references = refers 1 (codes "held") ∷ [];
    }

-- THE SCHEMAS

-- a database without tables
abbrev pub no_schema : Schema
no_schema = record { tables = []; indexes = []; views = [] }

abbrev pub schema_to_meta : Schema
schema_to_meta = created no_schema meta

abbrev pub schema_to_transfer : Schema
schema_to_transfer = created schema_to_meta transfer

abbrev pub schema_to_tag : Schema
schema_to_tag = created schema_to_transfer tag

-- that of format 1
abbrev pub first_schema : Schema
first_schema = created schema_to_tag item

-- where the tables of format 2 were made: in a new database, or in a ledger of format 1
pub data Origin : Type 0 where
  New : Origin
  Migrated : Origin

-- the tables that were there before those of payload files
abbrev pub schema_before : Origin → Schema
schema_before New = schema_to_tag
schema_before Migrated = first_schema

-- that of format 2; the tables were created in this order
abbrev pub second_schema : Origin → Schema
second_schema origin = created (created (schema_before origin) held) piece

-- which tables a database has
pub data Layout : Type 0 where
  First : Layout
  Second : Origin → Layout

abbrev pub schema_of : Layout → Schema
schema_of First = first_schema
schema_of (Second origin) = second_schema origin

abbrev pub format_of : Layout → Format
format_of First = form.First
format_of (Second origin) = form.Second

abbrev pub number_of : Format → ℤ
number_of form.First = pos 1
number_of form.Second = pos 2

-- THE TREES

-- the tree of each table; the next tree holds the index of its key
abbrev pub meta_tree : ℕ
meta_tree = 0

abbrev pub transfer_tree : ℕ
transfer_tree = 2

abbrev pub tag_tree : ℕ
tag_tree = 4

abbrev pub item_tree : ℕ
item_tree = 6

abbrev pub held_tree : Origin → ℕ
held_tree New = 6
held_tree Migrated = 8

abbrev pub piece_tree : Origin → ℕ
piece_tree New = 8
piece_tree Migrated = 10
