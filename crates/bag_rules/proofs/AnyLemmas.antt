-- What `any` says about a list.
use Rattle.std.proofs.Common.{◌≡◌, ◌<◌, ℕ, Bool, true, false, List, length, sym, subst, arith}
use Rattle.bag_rules.proofs.Words.{AllWithin, get_or_from_slice_get, Has, HoldsAt, MatchBool, slice_get_within}
use Rattle.bag_rules.proofs.HasLemmas.{has_at, place_of_has}
use Rattle.bag_digest.proofs.ListLemmas.{stands}

-- some member has P, or none has
pub some_or_none : {X : Type 0} (P : X → Type 0) (r : Bool) (xs : List X) → MatchBool r ((k : ℕ) × (k < length xs) × HoldsAt P xs k) (AllWithin (λ x. ¬ P x) xs 0 (length xs)) → MatchBool r ((x : X) × Has xs x × P x) ((x : X) → Has xs x → ¬ P x)
some_or_none P true xs h =
    let here = stands xs h.0 h.1 in
    (here.0, has_at xs h.0 here.0 here.1, subst P (get_or_from_slice_get xs h.0 here.0 here.0 here.1) (h.2 here.0))
some_or_none P false xs h = λ x has p.
    let place = place_of_has xs x has in
    h place.0 x (omega arith) (slice_get_within xs place.0 x place.1) (subst P (sym (get_or_from_slice_get xs place.0 x x place.1)) p)

pub some_if : {X : Type 0} (P : X → Type 0) (r : Bool) (xs : List X) → MatchBool r ((x : X) × Has xs x × P x) ((x : X) → Has xs x → ¬ P x) → r ≡ true → (x : X) × Has xs x × P x
some_if P r xs h e = subst (λ b. MatchBool b ((x : _) × Has xs x × P x) ((x : _) → Has xs x → ¬ P x)) e h

pub none_if : {X : Type 0} (P : X → Type 0) (r : Bool) (xs : List X) → MatchBool r ((x : X) × Has xs x × P x) ((x : X) → Has xs x → ¬ P x) → r ≡ false → (x : X) → Has xs x → ¬ P x
none_if P r xs h e = subst (λ b. MatchBool b ((x : _) × Has xs x × P x) ((x : _) → Has xs x → ¬ P x)) e h
