-- A source that is read through a buffer, piece by piece.
use Rattle.std.proofs.Common.{◌≡◌, ◌≤◌, ◌+◌, ◌-◌, ℕ, List, ◌++◌, IfOk, Option, Result, Ok, Err, length, take, arith, refl, sym, ap, subst, ◌∙◌, length-append}
use Rattle.std.proofs.KnownBytes.{Consumes-trans}
use Rattle.std.proofs.Math.Seq.{take-append-add, take-length, take-take}
use Rattle.std.specs.Io.KnownBytes.{Consumes}
use Rattle.std.proofs.lemmas.List.{length-take-le}
use Rattle.std.proofs.lemmas.Slice.{take-put_mid}
use borrow.Rule.Slice.PartMut.{put_mid}
use Rattle.bag_digest.specs.Reading.{GavePiece}
use Rattle.bag_digest.proofs.Progress.{HasGiven}

-- a piece more
pub given_more : (old mid new : Option (List ℕ)) (total limit n : ℕ) (octets buffer : List ℕ) → HasGiven old mid total limit octets → GavePiece mid new (limit - total) n buffer
    → HasGiven old new (total + n) limit (octets ++ take n buffer)
given_more old mid new total limit n octets buffer given piece = record {
  gave = Consumes-trans old mid new _ _ given.gave piece.gave;
  count = omega (arith, given.count, length-append octets (take n buffer), length-take-le n buffer piece.bound);
  within = omega (arith, given.within, piece.within);
}

take_filled : (filled k n : ℕ) (buffer part : List ℕ) → filled ≤ length buffer → n ≤ length part → take (filled + n) (put_mid filled k buffer part) ≡ take filled buffer ++ take n part
take_filled filled k n buffer part low fits =
    let front : length (take filled buffer) ≡ filled = length-take-le filled buffer low in
    sym (take-take (filled + n) (filled + length part) (put_mid filled k buffer part) (omega arith)) ∙ ap (take (filled + n)) (take-put_mid filled k buffer part (filled + length part) refl low)
    ∙ ap (λ m. take (m + n) (take filled buffer ++ part)) (sym front) ∙ take-append-add (take filled buffer) part n

-- the front of the buffer is filled further
pub filled_more : (old mid new : Option (List ℕ)) (filled limit n k : ℕ) (buffer part : List ℕ) → filled ≤ length buffer → HasGiven old mid filled limit (take filled buffer)
    → GavePiece mid new (limit - filled) n part → HasGiven old new (filled + n) limit (take (filled + n) (put_mid filled k buffer part))
filled_more old mid new filled limit n k buffer part low given piece =
    subst (HasGiven old new (filled + n) limit) (sym (take_filled filled k n buffer part low piece.bound)) (given_more old mid new filled limit n (take filled buffer) part given piece)

-- a buffer that was filled to its end is what the source gave
pub filled_whole : (old new : Option (List ℕ)) (limit n : ℕ) (buffer : List ℕ) → GavePiece old new limit n buffer → length buffer ≤ n
    → HasGiven old new n limit buffer
filled_whole old new limit n buffer piece full =
    let is : n ≡ length buffer = omega (arith, piece.bound, full) in
    let all : take n buffer ≡ buffer = ap (λ k. take k buffer) is ∙ take-length buffer in
    record { gave = subst (Consumes old new) all piece.gave; count = is; within = piece.within }

-- what follows for what was answered
pub if_ok : {A E : Type 0} (r : Result A E) {P Q : A → Type 0} → ((a : A) → P a → Q a) → IfOk r P → IfOk r Q
if_ok (Ok a) more h = more a h
if_ok (Err e) more h = h
