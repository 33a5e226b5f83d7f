-- The meanings of the queries for a payload file.
use Rattle.std.proofs.Common.{◌≡◌, ℕ, List, [], ◌∷◌, codes, false, refl}
use Rattle.bag_sqlite.proofs.Words.{col, Command, command_of, everything, held_tree, IsPlain, Migrated, New, Origin, piece_text, piece_tree, reads_listing, second_schema, Select, Term, understood}
use Rattle.bag_sqlite.proofs.WhereLemmas.{equals, over}

abbrev pub item_text : List ℕ
item_text = codes "SELECT id, size FROM held WHERE transfer = ?1 AND path = ?2"

-- the payload file of the transfer with the given number, at the given path
abbrev pub item_terms : List Term
item_terms = equals (col 1 2) (col 0 0) ∷ equals (col 1 3) (col 0 1) ∷ []

abbrev pub item_columns : List Term
item_columns = col 1 0 ∷ col 1 4 ∷ []

abbrev pub item_command : Origin → Command
item_command o = Select (record { lets = []; body = over (held_tree o) item_terms item_columns [] }) (codes "id" ∷ codes "size" ∷ [])

pub item_is : (o : Origin) → command_of (understood (second_schema o) item_text) ≡ item_command o
unfolding understood everything
item_is New = refl
item_is Migrated = refl

pub item_plain : (o : Origin) → IsPlain (understood (second_schema o) item_text)
unfolding understood everything
item_plain New = (refl, refl)
item_plain Migrated = (refl, refl)

pub item_unlisted : (o : Origin) → reads_listing (second_schema o) item_text ≡ false
unfolding everything
item_unlisted New = refl
item_unlisted Migrated = refl

-- the piece of the payload file with the given number
abbrev pub piece_terms : List Term
piece_terms = equals (col 1 1) (col 0 0) ∷ equals (col 1 2) (col 0 1) ∷ []

abbrev pub piece_columns : List Term
piece_columns = col 1 3 ∷ []

abbrev pub piece_command : Origin → Command
piece_command o = Select (record { lets = []; body = over (piece_tree o) piece_terms piece_columns [] }) (codes "body" ∷ [])

pub piece_is : (o : Origin) → command_of (understood (second_schema o) piece_text) ≡ piece_command o
unfolding understood everything
piece_is New = refl
piece_is Migrated = refl

pub piece_plain : (o : Origin) → IsPlain (understood (second_schema o) piece_text)
unfolding understood everything
piece_plain New = (refl, refl)
piece_plain Migrated = (refl, refl)

pub piece_unlisted : (o : Origin) → reads_listing (second_schema o) piece_text ≡ false
unfolding everything
piece_unlisted New = refl
piece_unlisted Migrated = refl
