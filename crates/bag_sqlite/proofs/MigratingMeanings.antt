-- The meanings of the statements that move the payload files of a ledger of format 1.
use Rattle.std.proofs.Common.{◌≡◌, List, ℕ, [], ◌∷◌, codes, false, pos, refl}
use Rattle.bag_sqlite.proofs.Words.{body_text, col, Command, command_of, everything, Int, IsPlain, lit, Migrated, Query, reads_listing, second_schema, Select, Term, understood, Update}
use Rattle.sqlite.specs.Command.TheVariants.{Delete}
use Rattle.bag_sqlite.proofs.AdoptingMeanings.{body_command}
use Rattle.bag_sqlite.proofs.WhereLemmas.{over}

-- ALL PAYLOAD FILES

abbrev pub all_text : List ℕ
all_text = codes "SELECT rowid, transfer, path FROM item"

abbrev pub all_columns : List Term
all_columns = col 1 0 ∷ col 1 1 ∷ col 1 2 ∷ []

abbrev pub all_command : Command
all_command = Select (record { lets = []; body = over 6 [] all_columns [] }) (codes "rowid" ∷ codes "transfer" ∷ codes "path" ∷ [])

pub all_is : command_of (understood (second_schema Migrated) all_text) ≡ all_command
unfolding understood everything
all_is = refl

pub all_plain : IsPlain (understood (second_schema Migrated) all_text)
unfolding understood everything
all_plain = (refl, refl)

pub all_unlisted : reads_listing (second_schema Migrated) all_text ≡ false
unfolding everything
all_unlisted = refl

-- A CONTENT

pub one_is : command_of (understood (second_schema Migrated) body_text) ≡ body_command
unfolding understood everything
one_is = refl

pub one_plain : IsPlain (understood (second_schema Migrated) body_text)
unfolding understood everything
one_plain = (refl, refl)

pub one_unlisted : reads_listing (second_schema Migrated) body_text ≡ false
unfolding everything
one_unlisted = refl

-- THE ROWS OF FORMAT 1

abbrev pub empty_text : List ℕ
empty_text = codes "DELETE FROM item"

-- the rowids of all rows
abbrev pub empty_query : Query
empty_query = over 6 [] (col 1 0 ∷ []) []

pub empty_is : command_of (understood (second_schema Migrated) empty_text) ≡ Delete 3 (record { lets = []; body = empty_query })
unfolding understood everything
empty_is = refl

pub empty_plain : IsPlain (understood (second_schema Migrated) empty_text)
unfolding understood everything
empty_plain = (refl, refl)

-- THE NUMBER OF THE FORMAT

abbrev pub format_text : List ℕ
format_text = codes "UPDATE meta SET v = 2"

-- the rowid of each row, and then the new row
abbrev pub format_terms : List Term
format_terms = col 1 0 ∷ col 1 0 ∷ col 1 1 ∷ lit (Int (pos 2)) ∷ []

abbrev pub format_query : Query
format_query = over 0 [] format_terms []

pub format_is : command_of (understood (second_schema Migrated) format_text) ≡ Update 0 (record { lets = []; body = format_query })
unfolding understood everything
format_is = refl

pub format_plain : IsPlain (understood (second_schema Migrated) format_text)
unfolding understood everything
format_plain = (refl, refl)
