-- The meanings of the queries for all names and paths.
use Rattle.std.proofs.Common.{◌≡◌, ℕ, List, [], ◌∷◌, codes, false, refl}
use Rattle.bag_sqlite.specs.Adopting.{all_item_paths_text, all_names_text, all_tag_paths_text}
use Rattle.bag_sqlite.proofs.Words.{col, command_of, everything, First, first_schema, held_tree, IsPlain, Layout, Migrated, New, Origin, reads_listing, schema_of, Second, second_schema, Select, Term, understood}
use Rattle.bag_sqlite.specs.declared.format.Format.TheVariants as form
use Rattle.bag_sqlite.proofs.WhereLemmas.{over}

-- all rows of a table, each with one column
abbrev column_at : ℕ → List Term
column_at place = col 1 place ∷ []

-- NAMES

abbrev pub name_column : List Term
name_column = column_at 2

pub all_names_is : (l : Layout) → command_of (understood (schema_of l) all_names_text) ≡ Select (record { lets = []; body = over 2 [] name_column [] }) (codes "name" ∷ [])
unfolding understood everything
all_names_is First = refl
all_names_is (Second New) = refl
all_names_is (Second Migrated) = refl

pub all_names_plain : (l : Layout) → IsPlain (understood (schema_of l) all_names_text)
unfolding understood everything
all_names_plain First = (refl, refl)
all_names_plain (Second New) = (refl, refl)
all_names_plain (Second Migrated) = (refl, refl)

pub all_names_unlisted : (l : Layout) → reads_listing (schema_of l) all_names_text ≡ false
unfolding everything
all_names_unlisted First = refl
all_names_unlisted (Second New) = refl
all_names_unlisted (Second Migrated) = refl

-- PATHS OF TAG FILES

abbrev pub tag_path_column : List Term
tag_path_column = column_at 2

pub all_tag_paths_is : (l : Layout) → command_of (understood (schema_of l) all_tag_paths_text) ≡ Select (record { lets = []; body = over 4 [] tag_path_column [] }) (codes "path" ∷ [])
unfolding understood everything
all_tag_paths_is First = refl
all_tag_paths_is (Second New) = refl
all_tag_paths_is (Second Migrated) = refl

pub all_tag_paths_plain : (l : Layout) → IsPlain (understood (schema_of l) all_tag_paths_text)
unfolding understood everything
all_tag_paths_plain First = (refl, refl)
all_tag_paths_plain (Second New) = (refl, refl)
all_tag_paths_plain (Second Migrated) = (refl, refl)

pub all_tag_paths_unlisted : (l : Layout) → reads_listing (schema_of l) all_tag_paths_text ≡ false
unfolding everything
all_tag_paths_unlisted First = refl
all_tag_paths_unlisted (Second New) = refl
all_tag_paths_unlisted (Second Migrated) = refl

-- PATHS OF PAYLOAD FILES

abbrev pub held_path_column : List Term
held_path_column = column_at 3

pub held_paths_is : (o : Origin) → command_of (understood (second_schema o) (all_item_paths_text form.Second)) ≡ Select (record { lets = []; body = over (held_tree o) [] held_path_column [] }) (codes "path" ∷ [])
unfolding understood everything
held_paths_is New = refl
held_paths_is Migrated = refl

pub held_paths_plain : (o : Origin) → IsPlain (understood (second_schema o) (all_item_paths_text form.Second))
unfolding understood everything
held_paths_plain New = (refl, refl)
held_paths_plain Migrated = (refl, refl)

pub held_paths_unlisted : (o : Origin) → reads_listing (second_schema o) (all_item_paths_text form.Second) ≡ false
unfolding everything
held_paths_unlisted New = refl
held_paths_unlisted Migrated = refl

-- THE SAME IN FORMAT 1

abbrev pub whole_path_column : List Term
whole_path_column = column_at 2

pub whole_paths_is : command_of (understood first_schema (all_item_paths_text form.First)) ≡ Select (record { lets = []; body = over 6 [] whole_path_column [] }) (codes "path" ∷ [])
unfolding understood everything
whole_paths_is = refl

pub whole_paths_plain : IsPlain (understood first_schema (all_item_paths_text form.First))
unfolding understood everything
whole_paths_plain = (refl, refl)

pub whole_paths_unlisted : reads_listing first_schema (all_item_paths_text form.First) ≡ false
unfolding everything
whole_paths_unlisted = refl
