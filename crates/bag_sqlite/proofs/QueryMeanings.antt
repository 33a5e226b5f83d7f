-- The meanings of a ledger's queries.
use Rattle.std.proofs.Common.{◌≡◌, ℕ, List, [], ◌∷◌, None, codes, false, negsuc, pos, refl}
use Rattle.bag_sqlite.proofs.Words.{ascending, Binary, col, Command, command_of, end, everything, First, inner, Int, IsPlain, Layout, lit, Migrated, New, Query, reads_listing, schema_of, Second, Select, understood}

abbrev pub names_text : List ℕ
names_text = codes "SELECT name FROM transfer ORDER BY name"

abbrev pub names_query : Query
names_query = record {
  from = inner 2 end;
  filter = [];
  group = None;
  project = col 1 2 ∷ [];
  distinct = false;
  collations = [];
  order = (col 1 2, ascending Binary) ∷ [];
  limit = lit (Int (negsuc 0));
  offset = lit (Int (pos 0));
}

abbrev pub names_command : Command
names_command = Select (record { lets = []; body = names_query }) (codes "name" ∷ [])

pub names_is : (l : Layout) → command_of (understood (schema_of l) names_text) ≡ names_command
unfolding understood everything
names_is First = refl
names_is (Second New) = refl
names_is (Second Migrated) = refl

pub names_plain : (l : Layout) → IsPlain (understood (schema_of l) names_text)
unfolding understood everything
names_plain First = (refl, refl)
names_plain (Second New) = (refl, refl)
names_plain (Second Migrated) = (refl, refl)

pub names_unlisted : (l : Layout) → reads_listing (schema_of l) names_text ≡ false
unfolding everything
names_unlisted First = refl
names_unlisted (Second New) = refl
names_unlisted (Second Migrated) = refl
