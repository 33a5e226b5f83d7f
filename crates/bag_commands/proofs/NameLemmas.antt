-- Names have no octet that is escaped.
use Rattle.std.proofs.Common.{◌≡◌, ◌≢◌, ◌∷◌, [], ℕ, List, ap, false, refl, true}
use Rattle.std.specs.List.{list_all}
use Rattle.std.proofs.lemmas.Bool.{and_parts, ne_eqb}
use Rattle.bag_path.specs.Spellings.{written_spelling}
use Rattle.bag_receiver.specs.TransferNames.{is_of_names}

other_than : (octet none : ℕ) → is_of_names none ≡ false → is_of_names octet ≡ true → octet ≢ none
other_than octet none outside inside = λ e. cc (inside, outside, e)

pub written_itself : (text : List ℕ) → list_all is_of_names text ≡ true → written_spelling text ≡ text
written_itself [] h = refl
written_itself (x ∷ text) h =
    let both = and_parts (is_of_names x) (list_all is_of_names text) h in
    rw (ne_eqb x 37 (other_than x 37 refl both.0), ne_eqb x 10 (other_than x 10 refl both.0), ne_eqb x 13 (other_than x 13 refl both.0)) (ap (λ text. x ∷ text) (written_itself text both.1))
