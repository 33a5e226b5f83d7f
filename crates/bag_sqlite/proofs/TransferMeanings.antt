-- The meanings of the queries for a transfer.
use Rattle.std.proofs.Common.{◌≡◌, ℕ, List, [], ◌∷◌, codes, false, refl}
use Rattle.bag_sqlite.proofs.Words.{ascending, Binary, col, Command, command_of, everything, First, held_tree, IsPlain, Layout, Migrated, New, Origin, Query, reads_listing, schema_of, Second, second_schema, Select, tag_files_text, understood}
use Rattle.bag_sqlite.proofs.WhereLemmas.{equals, over}

abbrev pub number_text : List ℕ
number_text = codes "SELECT id FROM transfer WHERE name = ?1"

-- the number of the transfer with the given name
abbrev pub number_query : Query
number_query = over 2 (equals (col 1 2) (col 0 0) ∷ []) (col 1 0 ∷ []) []

abbrev pub number_command : Command
number_command = Select (record { lets = []; body = number_query }) (codes "id" ∷ [])

pub number_is : (l : Layout) → command_of (understood (schema_of l) number_text) ≡ number_command
unfolding understood everything
number_is First = refl
number_is (Second New) = refl
number_is (Second Migrated) = refl

pub number_plain : (l : Layout) → IsPlain (understood (schema_of l) number_text)
unfolding understood everything
number_plain First = (refl, refl)
number_plain (Second New) = (refl, refl)
number_plain (Second Migrated) = (refl, refl)

pub number_unlisted : (l : Layout) → reads_listing (schema_of l) number_text ≡ false
unfolding everything
number_unlisted First = refl
number_unlisted (Second New) = refl
number_unlisted (Second Migrated) = refl

-- the tag files of the transfer with the given number
abbrev pub tags_query : Query
tags_query = over 4 (equals (col 1 1) (col 0 0) ∷ []) (col 1 2 ∷ col 1 3 ∷ []) ((col 1 2, ascending Binary) ∷ [])

abbrev pub tags_command : Command
tags_command = Select (record { lets = []; body = tags_query }) (codes "path" ∷ codes "body" ∷ [])

pub tags_is : (l : Layout) → command_of (understood (schema_of l) tag_files_text) ≡ tags_command
unfolding understood everything
tags_is First = refl
tags_is (Second New) = refl
tags_is (Second Migrated) = refl

pub tags_plain : (l : Layout) → IsPlain (understood (schema_of l) tag_files_text)
unfolding understood everything
tags_plain First = (refl, refl)
tags_plain (Second New) = (refl, refl)
tags_plain (Second Migrated) = (refl, refl)

pub tags_unlisted : (l : Layout) → reads_listing (schema_of l) tag_files_text ≡ false
unfolding everything
tags_unlisted First = refl
tags_unlisted (Second New) = refl
tags_unlisted (Second Migrated) = refl

abbrev pub sizes_text : List ℕ
sizes_text = codes "SELECT path, size FROM held WHERE transfer = ?1 ORDER BY path"

-- the payload files of the transfer with the given number
abbrev pub sizes_query : Origin → Query
sizes_query o = over (held_tree o) (equals (col 1 2) (col 0 0) ∷ []) (col 1 3 ∷ col 1 4 ∷ []) ((col 1 3, ascending Binary) ∷ [])

abbrev pub sizes_command : Origin → Command
sizes_command o = Select (record { lets = []; body = sizes_query o }) (codes "path" ∷ codes "size" ∷ [])

pub sizes_is : (o : Origin) → command_of (understood (second_schema o) sizes_text) ≡ sizes_command o
unfolding understood everything
sizes_is New = refl
sizes_is Migrated = refl

pub sizes_plain : (o : Origin) → IsPlain (understood (second_schema o) sizes_text)
unfolding understood everything
sizes_plain New = (refl, refl)
sizes_plain Migrated = (refl, refl)

pub sizes_unlisted : (o : Origin) → reads_listing (second_schema o) sizes_text ≡ false
unfolding everything
sizes_unlisted New = refl
sizes_unlisted Migrated = refl
