-- The meanings of a ledger's statements.
use Rattle.std.proofs.Common.{◌≡◌, ℕ, List, [], ◌∷◌, codes, pos, refl}
use Rattle.bag_sqlite.proofs.Words.{col, command_of, created, everything, held, Insert, Int, IsPlain, lit, Makes, meta, Migrated, New, no_schema, Null, Origin, piece, schema_before, schema_to_meta, schema_to_transfer, second_schema, tag, Term, Text, transfer, understood, Values}

abbrev pub meta_text : List ℕ
meta_text = codes "CREATE TABLE meta (k TEXT NOT NULL PRIMARY KEY, v INTEGER NOT NULL) STRICT"

pub makes_meta : Makes no_schema meta_text meta
unfolding understood everything
makes_meta = record { command = refl; statement = refl; plain = (refl, refl); defined = refl; uncounted = refl }

abbrev pub transfer_text : List ℕ
transfer_text = codes "CREATE TABLE transfer (id INTEGER PRIMARY KEY, name TEXT NOT NULL UNIQUE) STRICT"

pub makes_transfer : Makes schema_to_meta transfer_text transfer
unfolding understood everything
makes_transfer = record { command = refl; statement = refl; plain = (refl, refl); defined = refl; uncounted = refl }

abbrev pub tag_text : List ℕ
tag_text = codes "CREATE TABLE tag (transfer INTEGER NOT NULL REFERENCES transfer(id), path TEXT NOT NULL, body BLOB NOT NULL, PRIMARY KEY (transfer, path)) STRICT"

pub makes_tag : Makes schema_to_transfer tag_text tag
unfolding understood everything
makes_tag = record { command = refl; statement = refl; plain = (refl, refl); defined = refl; uncounted = refl }

abbrev pub held_text : List ℕ
held_text = codes "CREATE TABLE held (id INTEGER PRIMARY KEY, transfer INTEGER NOT NULL REFERENCES transfer(id), path TEXT NOT NULL, size INTEGER NOT NULL, UNIQUE (transfer, path)) STRICT"

pub makes_held : (o : Origin) → Makes (schema_before o) held_text held
unfolding understood everything
makes_held New = record { command = refl; statement = refl; plain = (refl, refl); defined = refl; uncounted = refl }
makes_held Migrated = record { command = refl; statement = refl; plain = (refl, refl); defined = refl; uncounted = refl }

abbrev pub piece_text : List ℕ
piece_text = codes "CREATE TABLE piece (item INTEGER NOT NULL REFERENCES held(id), n INTEGER NOT NULL, body BLOB NOT NULL, PRIMARY KEY (item, n)) STRICT"

pub makes_piece : (o : Origin) → Makes (created (schema_before o) held) piece_text piece
unfolding understood everything
makes_piece New = record { command = refl; statement = refl; plain = (refl, refl); defined = refl; uncounted = refl }
makes_piece Migrated = record { command = refl; statement = refl; plain = (refl, refl); defined = refl; uncounted = refl }

abbrev pub format_text : List ℕ
format_text = codes "INSERT INTO meta (k, v) VALUES ('bag-ledger', 2)"

abbrev pub format_terms : List Term
format_terms = lit Null ∷ lit (Text (codes "bag-ledger")) ∷ lit (Int (pos 2)) ∷ []

pub format_is : command_of (understood (second_schema New) format_text) ≡ Insert 0 (Values format_terms 3)
unfolding understood everything
format_is = refl

pub format_plain : IsPlain (understood (second_schema New) format_text)
unfolding understood everything
format_plain = (refl, refl)

abbrev pub new_transfer_text : List ℕ
new_transfer_text = codes "INSERT INTO transfer (name) VALUES (?1)"

abbrev pub new_transfer_terms : List Term
new_transfer_terms = lit Null ∷ lit Null ∷ col 0 0 ∷ []

pub new_transfer_is : (o : Origin) → command_of (understood (second_schema o) new_transfer_text) ≡ Insert 1 (Values new_transfer_terms 3)
unfolding understood everything
new_transfer_is New = refl
new_transfer_is Migrated = refl

pub new_transfer_plain : (o : Origin) → IsPlain (understood (second_schema o) new_transfer_text)
unfolding understood everything
new_transfer_plain New = (refl, refl)
new_transfer_plain Migrated = (refl, refl)

abbrev pub new_tag_text : List ℕ
new_tag_text = codes "INSERT INTO tag (transfer, path, body) VALUES (?1, ?2, ?3)"

abbrev pub new_tag_terms : List Term
new_tag_terms = lit Null ∷ col 0 0 ∷ col 0 1 ∷ col 0 2 ∷ []

pub new_tag_is : (o : Origin) → command_of (understood (second_schema o) new_tag_text) ≡ Insert 2 (Values new_tag_terms 4)
unfolding understood everything
new_tag_is New = refl
new_tag_is Migrated = refl

pub new_tag_plain : (o : Origin) → IsPlain (understood (second_schema o) new_tag_text)
unfolding understood everything
new_tag_plain New = (refl, refl)
new_tag_plain Migrated = (refl, refl)
