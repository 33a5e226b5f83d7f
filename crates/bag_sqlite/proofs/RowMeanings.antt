-- The meanings of the statements that write a payload file.
use Rattle.std.proofs.Common.{◌≡◌, ℕ, List, [], ◌∷◌, codes, pos, refl}
use Rattle.bag_sqlite.proofs.Words.{col, command_of, everything, held_tree, Insert, Int, IsPlain, lit, Migrated, New, Null, Origin, Query, second_schema, Term, understood, Update, Values}
use Rattle.bag_sqlite.proofs.LayoutLemmas.{held_place, piece_place}
use Rattle.bag_sqlite.proofs.WhereLemmas.{equals, over}

abbrev pub new_item_text : List ℕ
new_item_text = codes "INSERT INTO held (transfer, path, size) VALUES (?1, ?2, 0)"

abbrev pub new_item_terms : List Term
new_item_terms = lit Null ∷ lit Null ∷ col 0 0 ∷ col 0 1 ∷ lit (Int (pos 0)) ∷ []

pub new_item_is : (o : Origin) → command_of (understood (second_schema o) new_item_text) ≡ Insert (held_place o) (Values new_item_terms 5)
unfolding understood everything
new_item_is New = refl
new_item_is Migrated = refl

pub new_item_plain : (o : Origin) → IsPlain (understood (second_schema o) new_item_text)
unfolding understood everything
new_item_plain New = (refl, refl)
new_item_plain Migrated = (refl, refl)

abbrev pub new_piece_text : List ℕ
new_piece_text = codes "INSERT INTO piece (item, n, body) VALUES (?1, ?2, ?3)"

abbrev pub new_piece_terms : List Term
new_piece_terms = lit Null ∷ col 0 0 ∷ col 0 1 ∷ col 0 2 ∷ []

pub new_piece_is : (o : Origin) → command_of (understood (second_schema o) new_piece_text) ≡ Insert (piece_place o) (Values new_piece_terms 4)
unfolding understood everything
new_piece_is New = refl
new_piece_is Migrated = refl

pub new_piece_plain : (o : Origin) → IsPlain (understood (second_schema o) new_piece_text)
unfolding understood everything
new_piece_plain New = (refl, refl)
new_piece_plain Migrated = (refl, refl)

abbrev pub size_text : List ℕ
size_text = codes "UPDATE held SET size = ?2 WHERE id = ?1"

-- the payload file with the given number
abbrev pub size_where : List Term
size_where = equals (col 1 0) (col 0 0) ∷ []

-- its rowid, and then the new values of its row
abbrev pub size_terms : List Term
size_terms = col 1 0 ∷ col 1 0 ∷ lit Null ∷ col 1 2 ∷ col 1 3 ∷ col 0 1 ∷ []

abbrev pub size_query : Origin → Query
size_query o = over (held_tree o) size_where size_terms []

pub size_is : (o : Origin) → command_of (understood (second_schema o) size_text) ≡ Update (held_place o) (record { lets = []; body = size_query o })
unfolding understood everything
size_is New = refl
size_is Migrated = refl

pub size_plain : (o : Origin) → IsPlain (understood (second_schema o) size_text)
unfolding understood everything
size_plain New = (refl, refl)
size_plain Migrated = (refl, refl)
