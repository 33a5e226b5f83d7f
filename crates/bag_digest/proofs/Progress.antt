-- How far a source was read, and what reading did to it.
use Rattle.std.proofs.Common.{◌≡◌, ◌≤◌, ◌<◌, ◌-◌, ℕ, List, [], ◌++◌, Option, Some, None, length, take, arith, refl, sym, ap, ◌∙◌, subst, length-append, append-nil}
use Rattle.std.specs.Io.KnownBytes.{Consumes}
use Rattle.std.proofs.KnownBytes.{Consumes-trans}
use Rattle.std.proofs.lemmas.List.{length-take-le}
use Rattle.bag_digest.specs.declared.reading.ReadFault.{ReadFault}
use Rattle.bag_digest.specs.declared.reading.ReadFault.TheVariants as read
use Rattle.bag_digest.specs.Failures.{UsesSource}
use Rattle.bag_digest.specs.Reading.{GaveAll, GaveBefore, GaveMoreThan, GavePiece, GaveWithin}

-- the source gave these octets so far, of this number and within the limit
pub record HasGiven (old new : Option (List ℕ)) (total limit : ℕ) (octets : List ℕ) : Type 0 where
  pub gave : Consumes old new octets
  pub count : total ≡ length octets
  pub within : total ≤ limit

-- octets that were given after those, of which this many were left
given_on : (old mid new : Option (List ℕ)) (total limit : ℕ) (octets more : List ℕ)
    → HasGiven old mid total limit octets → Consumes mid new more → length more ≤ limit - total → GaveWithin old new limit
given_on old mid new total limit octets more given gave within = (
  octets ++ more,
  Consumes-trans old mid new _ _ given.gave gave,
  omega (arith, given.count, given.within, within, length-append octets more),
)

-- what was given before a fault, together with what was given earlier
pub given_before : (old mid new : Option (List ℕ)) (total limit : ℕ) (octets : List ℕ) (fault : ReadFault)
    → HasGiven old mid total limit octets → GaveBefore mid new (limit - total) fault → GaveBefore old new limit fault
given_before old mid new total limit octets read.Read given more = given_on old mid new total limit octets more.0 given more.1 more.2
given_before old mid new total limit octets read.Memory given more = given_on old mid new total limit octets more.0 given more.1 more.2
given_before old mid new total limit octets read.TooLarge given more = (
  octets ++ more.0,
  Consumes-trans old mid new _ _ given.gave more.1,
  omega (arith, given.count, given.within, more.2, length-append octets more.0),
)

-- one more piece, of no more octets than were left
pub given_piece : (old mid new : Option (List ℕ)) (total limit n : ℕ) (octets buffer : List ℕ)
    → HasGiven old mid total limit octets → GavePiece mid new (limit - total) n buffer → GaveWithin old new limit
given_piece old mid new total limit n octets buffer given piece =
    given_on old mid new total limit octets (take n buffer) given piece.gave
    (let e = length-take-le n buffer piece.bound in omega (arith, e, piece.within))

whole : (known given rest : List ℕ) → known ≡ given ++ rest → rest ≡ [] → given ≡ known
whole known given rest e none = sym (e ∙ rw (none, append-nil) refl)

all_of : (known given : List ℕ) (new : Option (List ℕ)) (limit : ℕ) → GaveAll (Some known) new limit given → given ≡ known
all_of known given None limit gave = absurd gave.gave
all_of known given (Some rest) limit gave = whole known given rest gave.gave gave.none_left

-- if the octets of a source are known, those that it gave up to its end are all of them
pub all_known : (known given : List ℕ) (old new : Option (List ℕ)) (limit : ℕ)
    → old ≡ Some known → GaveAll old new limit given → (given ≡ known) × (length known ≤ limit)
all_known known given old new limit e gave =
    let same = all_of known given new limit (subst (λ o. GaveAll o new limit given) e gave) in
    (same, subst (λ octets. length octets ≤ limit) same gave.within)

more_of : (known given : List ℕ) (new : Option (List ℕ)) → Consumes (Some known) new given → length given ≤ length known
more_of known given None gave = absurd gave
more_of known given (Some rest) gave = omega (arith, ap length gave, length-append given rest)

-- if it gave more octets than a limit, it holds more
pub more_known : (known : List ℕ) (old new : Option (List ℕ)) (limit : ℕ)
    → old ≡ Some known → GaveMoreThan old new limit → limit < length known
more_known known old new limit e (given, gave, count) =
    omega (arith, more_of known given new (subst (λ o. Consumes o new given) e gave), count)

module _ {S : Type 0} (failures : S → ℕ) (ready : S → Type 0) (keeps : S → S → Type 0) where
  -- before anything was read
  pub uses_none : (a : S) → keeps a a → UsesSource failures ready keeps a a ⊥
  uses_none a itself = record {
    kept = itself;
    counted = record { rises = λ h. absurd h; stays = λ _. refl };
    stays_ready = λ h. (h, λ no. no);
  }

  -- one more read after reads that didn't fail
  pub uses_on : (a b c : S) (failed : Type 0) → (keeps a b → keeps b c → keeps a c)
      → UsesSource failures ready keeps a b ⊥ → UsesSource failures ready keeps b c failed → UsesSource failures ready keeps a c failed
  uses_on a b c failed on before after =
      let same : failures b ≡ failures a = before.counted.stays (λ no. no) in record {
        kept = on before.kept after.kept;
        counted = record { rises = λ h. rw (← same) (after.counted.rises h); stays = λ h. after.counted.stays h ∙ same };
        stays_ready = λ h. after.stays_ready (before.stays_ready h).0;
      }

  -- the same with an equivalent fact
  pub uses_as : (a b : S) (failed told : Type 0) → (told → failed) → (failed → told)
      → UsesSource failures ready keeps a b failed → UsesSource failures ready keeps a b told
  uses_as a b failed told to from uses = record {
    kept = uses.kept;
    counted = record { rises = λ h. uses.counted.rises (to h); stays = λ h. uses.counted.stays (λ f. h (from f)) };
    stays_ready = λ h. ((uses.stays_ready h).0, λ t. (uses.stays_ready h).1 (to t));
  }
