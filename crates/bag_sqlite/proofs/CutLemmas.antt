-- A content in pieces, and which piece an octet is in.
use Rattle.std.proofs.Common.{◌≡◌, ◌≤◌, ◌<◌, ◌+◌, ◌-◌, ◌*◌, ◌/◌, ℕ, zero, suc, List, [], ◌∷◌, ◌++◌, Option, Some, None, append-nil, arith, drop, inl, inr, length, length-append, min, refl, slice_get, sym, ap, subst, take, ◌∙◌}
use Rattle.bag_sqlite.proofs.Words.{AreCut, concat, div-add-mod, drop-append-add, drop-append-le, enumerate_from, flat_map, Has, IsPieceAt, length-flat_map, length-take, length-take-le, PIECE, same_Some, sum_by, take-append-le}
use Rattle.bag_sqlite.proofs.OneLedger.{after_first, numbered_from}

concat_flat : (pieces : List (List ℕ)) → concat pieces ≡ flat_map (λ p. p) pieces
concat_flat [] = refl
concat_flat (p ∷ ps) = ap (λ rest. p ++ rest) (concat_flat ps)

pub length_concat : (pieces : List (List ℕ)) → length (concat pieces) ≡ sum_by length pieces
length_concat pieces = ap length (concat_flat pieces) ∙ length-flat_map (λ p. p) pieces

-- NUMBERED PIECES

at_number : {X : Type 0} (k n : ℕ) (xs : List X) (x : X) → Has (enumerate_from k xs) (k + n, x) → slice_get xs n ≡ Some x
at_number k n [] x h = absurd h
at_number {X} k zero (y ∷ ys) x (inl is) = ap (λ (p : ℕ × X). Some p.1) is
at_number k zero (y ∷ ys) x (inr h) = absurd (let later = numbered_from (k + 1) ys (k + 0, x) h in omega (arith, later))
at_number {X} k (suc n) (y ∷ ys) x h =
    let later : k + 1 ≤ k + suc n = omega arith in
    let next : k + suc n ≡ k + 1 + n = omega arith in
    at_number (k + 1) n ys x (subst (λ m. Has (enumerate_from (k + 1) ys) (m, x)) next (after_first k y ys (k + suc n, x) later h))

has_number : {X : Type 0} (k n : ℕ) (xs : List X) (x : X) → slice_get xs n ≡ Some x → Has (enumerate_from k xs) (k + n, x)
has_number {X} k n [] x at = absurd (let e : ◌≡◌ {A = Option X} None (Some x) = at in cc)
has_number k zero (y ∷ ys) x at = inl (λ i. (the_same i, same_Some y x at i))
  where
    the_same : k ≡ k + 0
    the_same = omega arith
has_number k (suc n) (y ∷ ys) x at =
    let next : k + 1 + n ≡ k + suc n = omega arith in
    inr (subst (λ m. Has (enumerate_from (k + 1) ys) (m, x)) next (has_number (k + 1) n ys x at))

from_zero : (n : ℕ) → 0 + n ≡ n
from_zero n = omega arith

pub numbered_is : {X : Type 0} (n : ℕ) (xs : List X) (x : X) → Has (enumerate_from 0 xs) (n, x) → slice_get xs n ≡ Some x
numbered_is n xs x h = at_number 0 n xs x (subst (λ m. Has (enumerate_from 0 xs) (m, x)) (sym (from_zero n)) h)

pub is_numbered : {X : Type 0} (n : ℕ) (xs : List X) (x : X) → slice_get xs n ≡ Some x → Has (enumerate_from 0 xs) (n, x)
is_numbered n xs x at = subst (λ m. Has (enumerate_from 0 xs) (m, x)) (from_zero n) (has_number 0 n xs x at)

pub no_number : {X : Type 0} (n : ℕ) (xs : List X) → ((x : X) → ¬ (slice_get xs n ≡ Some x)) → length xs ≤ n
no_number n [] none = omega arith
no_number zero (x ∷ xs) none = absurd (none x refl)
no_number (suc n) (x ∷ xs) none = omega (arith, no_number n xs none)

-- PIECES OF A CONTENT

-- from the front of a content, before its end
in_front : (front rest : List ℕ) (r n : ℕ) (buffer : List ℕ) → r < length front → IsPieceAt front r n buffer → IsPieceAt (front ++ rest) r n buffer
in_front front rest r n buffer low at =
    let counted : length (take n (drop r front)) ≡ n = ap length (sym at.octets) ∙ length-take-le n buffer at.bound in
    let fits : n ≤ length (drop r front) = omega (arith, counted, length-take n (drop r front)) in
    record {
      bound = at.bound;
      octets = at.octets ∙ sym (ap (take n) (drop-append-le r front rest (omega arith)) ∙ take-append-le n (drop r front) rest fits);
      some = λ within room. at.some low room;
    }

-- from what follows a front
behind : (front rest : List ℕ) (m n : ℕ) (buffer : List ℕ) → IsPieceAt rest m n buffer → IsPieceAt (front ++ rest) (length front + m) n buffer
behind front rest m n buffer at = record {
  bound = at.bound;
  octets = at.octets ∙ sym (ap (take n) (drop-append-add front rest m));
  some = λ within room. at.some (omega (arith, within, length-append front rest)) room;
}

pub piece_in : (pieces : List (List ℕ)) → AreCut pieces → (k r n : ℕ) (body buffer : List ℕ) → r < PIECE → slice_get pieces k ≡ Some body → IsPieceAt body r n buffer
    → IsPieceAt (concat pieces) (PIECE * k + r) n buffer
piece_in [] cut k r n body buffer low here at = absurd (let e : ◌≡◌ {A = Option (List ℕ)} None (Some body) = here in cc)
piece_in (last ∷ []) cut zero r n body buffer low here at =
    let place : r ≡ PIECE * 0 + r = omega arith in
    subst (λ m. IsPieceAt (last ++ []) m n buffer) place (subst (λ content. IsPieceAt content r n buffer) (sym (same_Some last body here) ∙ sym (append-nil last)) at)
piece_in (last ∷ []) cut (suc k) r n body buffer low here at = absurd (let e : ◌≡◌ {A = Option (List ℕ)} None (Some body) = here in cc)
piece_in (piece ∷ next ∷ more) cut zero r n body buffer low here at =
    let place : r ≡ PIECE * 0 + r = omega arith in
    subst (λ m. IsPieceAt (piece ++ concat (next ∷ more)) m n buffer) place
    (in_front piece (concat (next ∷ more)) r n buffer (omega (arith, low, cut.0)) (subst (λ p. IsPieceAt p r n buffer) (sym (same_Some piece body here)) at))
piece_in (piece ∷ next ∷ more) cut (suc k) r n body buffer low here at =
    let rest = piece_in (next ∷ more) cut.1 k r n body buffer low here at in
    let place : length piece + (PIECE * k + r) ≡ PIECE * suc k + r = omega (arith, cut.0) in
    subst (λ m. IsPieceAt (piece ++ concat (next ∷ more)) m n buffer) place (behind piece (concat (next ∷ more)) (PIECE * k + r) n buffer rest)

all_within : (pieces : List (List ℕ)) → AreCut pieces → length (concat pieces) ≤ PIECE * length pieces
all_within [] cut = omega arith
all_within (last ∷ []) cut = omega (arith, length-append last [], cut.1)
all_within (piece ∷ next ∷ more) cut = omega (arith, length-append piece (concat (next ∷ more)), cut.0, all_within (next ∷ more) cut.1)

-- nothing is read if there is no piece
pub past_pieces : (pieces : List (List ℕ)) → AreCut pieces → (offset : ℕ) (buffer : List ℕ) → length pieces ≤ offset / PIECE → IsPieceAt (concat pieces) offset 0 buffer
past_pieces pieces cut offset buffer past = record {
  bound = omega arith;
  octets = refl;
  some = λ within room. absurd (omega (arith, within, past, all_within pieces cut, div-add-mod offset PIECE));
}

-- THE FIRST PIECES OF A CONTENT

-- the pieces are the first of the others
abbrev pub AreFirstOf : List (List ℕ) → List (List ℕ) → Type 0
AreFirstOf pieces all = (n : ℕ) (piece : List ℕ) → slice_get pieces n ≡ Some piece → slice_get all n ≡ Some piece

cut_rest : (piece : List ℕ) (pieces : List (List ℕ)) → AreCut (piece ∷ pieces) → AreCut pieces
cut_rest piece [] cut = tt
cut_rest piece (next ∷ more) cut = cut.1

some_octet : (piece : List ℕ) (pieces : List (List ℕ)) → AreCut (piece ∷ pieces) → 0 < length piece
some_octet piece [] cut = cut.0
some_octet piece (next ∷ more) cut = omega (arith, cut.0)

first_same : (first piece : List ℕ) (pieces all : List (List ℕ)) → AreFirstOf (piece ∷ pieces) (first ∷ all) → first ≡ piece
first_same first piece pieces all front = same_Some first piece (front 0 piece refl)

-- more octets are in a next piece, with as many of them as it can have
pub next_piece : (pieces all : List (List ℕ)) → AreFirstOf pieces all → AreCut all → length (concat pieces) < length (concat all)
    → (piece : List ℕ) × (slice_get all (length pieces) ≡ Some piece) × (length piece ≡ min (length (concat all) - length (concat pieces)) PIECE)
next_piece [] [] front cut more = absurd (omega (arith, more))
next_piece [] (last ∷ []) front cut more = (last, refl, omega (arith, cut.1, length-append last []))
next_piece [] (piece ∷ next ∷ rest) front cut more = (piece, refl, omega (arith, cut.0, length-append piece (concat (next ∷ rest))))
next_piece (piece ∷ pieces) [] front cut more = absurd (let e : ◌≡◌ {A = Option (List ℕ)} None (Some piece) = front 0 piece refl in cc)
next_piece (piece ∷ pieces) (first ∷ all) front cut more =
    let same = ap length (first_same first piece pieces all front) in
    let joined = length-append piece (concat pieces) in
    let all_joined = length-append first (concat all) in
    let next = next_piece pieces all (λ n body at. front (suc n) body at) (cut_rest first all cut) (omega (arith, more, same, joined, all_joined)) in
    (next.0, next.1, omega (arith, next.2, same, joined, all_joined))

-- they are all, if they have all octets
pub all_pieces : (pieces all : List (List ℕ)) → AreFirstOf pieces all → AreCut all → length (concat pieces) ≡ length (concat all) → pieces ≡ all
all_pieces [] [] front cut whole = refl
all_pieces [] (first ∷ all) front cut whole = absurd (omega (arith, whole, some_octet first all cut, length-append first (concat all)))
all_pieces (piece ∷ pieces) [] front cut whole = absurd (let e : ◌≡◌ {A = Option (List ℕ)} None (Some piece) = front 0 piece refl in cc)
all_pieces (piece ∷ pieces) (first ∷ all) front cut whole =
    let same = first_same first piece pieces all front in
    let rest = all_pieces pieces all (λ n body at. front (suc n) body at) (cut_rest first all cut) (omega (arith, whole, ap length same, length-append piece (concat pieces), length-append first (concat all))) in
    λ i. sym same i ∷ rest i

-- no piece is empty
pub few_pieces : (pieces : List (List ℕ)) → AreCut pieces → length pieces ≤ length (concat pieces)
few_pieces [] cut = omega arith
few_pieces (piece ∷ pieces) cut = omega (arith, some_octet piece pieces cut, few_pieces pieces (cut_rest piece pieces cut), length-append piece (concat pieces))
