-- The digests of several messages, algorithm by algorithm. Private functions alone cite these.
use Rattle.std.specs.Prelude.{◌≡◌, ℕ, List, Bool, true, false, Option, Some, None, Vec, if◌then◌else◌, map}
use Rattle.std.specs.Borrow.{Bor}
use Rattle.std.specs.declared.alloc.Global.{Global}

-- these are the octets of the messages, in their order
abbrev pub AreSlicesOf : List (Vec ℕ Global) → List (Bor (List ℕ)) → Type 0
AreSlicesOf messages slices = map (λ s. s.now) slices ≡ map (λ m. m.items) messages

-- the digest by this function, if it is wanted
abbrev pub digest_if : (List ℕ → List ℕ) → Bool → List ℕ → Option (List ℕ)
digest_if digest wanted octets = if wanted then Some (digest octets) else None

-- the digests by this function, if they are wanted
abbrev pub AreDigestsBy : (List ℕ → List ℕ) → Bool → List (Bor (List ℕ))
    → Option (Vec (List ℕ) Global) → Type 0
AreDigestsBy digest wanted slices None = wanted ≡ false
AreDigestsBy digest wanted slices (Some digests) = (wanted ≡ true)
    × (digests.items ≡ map (λ s. digest s.now) slices)
