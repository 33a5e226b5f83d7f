-- What is wanted of a file, by its digests and by its octets.
use Rattle.std.proofs.Common.{◌≡◌, ◌≢◌, ◌↔◌, ◌∙◌, ℕ, Bool, true, false, IsTrue, List, MatchResult, Option, None, Some, Result, Ok, Err, is_ok, refl, sym, ap, inl, inr}
use Rattle.bag_digest.specs.Algorithm.{IsFirstAmong}
use Rattle.bag_digest.specs.declared.sums.Sums.{Sums}
use Rattle.bag_rules.specs.Wants.{AreSumsFor, IsFirstMisfitOf, IsWanted, IsWrongBy, IsOtherBy}
use Rattle.bag_rules.specs.declared.want.WantFault.{WantFault}
use Rattle.bag_rules.specs.declared.want.WantFault.TheVariants.{Digest as WrongDigest, Length}
use Rattle.bag_rules.proofs.Words.{Alg, Decided, Digest, digest_in, Digests, Fits, FitsDigests, FitsListing, Has, hash, listed_digest, Listing, same_Some, Want}
use Rattle.bag_rules.proofs.FileFaultLemmas.{taken}
use Rattle.bag_rules.proofs.ListedLemmas.{some_listed}
use Rattle.bag_rules.proofs.ValidityLemmas.{decided_digest}

-- DIGESTS

decided_taken : (taken : Option Digest) (digest : Digest) → Decided (taken ≡ Some digest)
decided_taken None digest = inr (λ e. cc)
decided_taken (Some own) digest = elim (decided_digest own digest) [ inl same ↦ inl (ap Some same) | inr other ↦ inr (λ e. other (same_Some own digest e)) ]

-- if no algorithm is wrong, the digests fit
pub none_wrong : (want : Want) (digests : Digests) → ((alg : Alg) → ¬ IsWrongBy want digests alg) → FitsDigests want digests
none_wrong want digests none listing has digest listed = elim (decided_taken (digest_in digests listing.alg) digest) [
  | inl same ↦ same
  | inr other ↦ absurd (none listing.alg (record { listing = listing; has = has; alg_is = refl; is_such = λ fits. other (fits digest listed) }))
]

-- OCTETS

module _ (want : Want) (octets : List ℕ) (sums : Sums) (are : AreSumsFor want octets sums) where
  -- the digest that was taken is that of the octets
  own : (listing : Listing) (digest : Digest) → Has want.manifests.now listing → listed_digest listing.pairs want.path.now ≡ Some digest → digest_in sums.digests listing.alg ≡ Some (hash listing.alg octets)
  own listing digest has listed = taken sums.digests are.set want.manifests.now listing want.path.now octets are.are_sums.1 are.covers has (some_listed listing.pairs want.path.now digest listed)

  pub wanted : Fits want sums → IsWanted want octets
  wanted fits = record {
    lengths = λ given has. fits.0 given has ∙ are.are_sums.0;
    digests = λ listing digest has listed. same_Some _ _ (sym (own listing digest has listed) ∙ fits.1 listing has digest listed);
  }

  -- a manifest whose digest wasn't found lists another than that of the octets
  by_listed : (listing : Listing) (listed : Option Digest) → Has want.manifests.now listing → listed_digest listing.pairs want.path.now ≡ listed → ¬ FitsListing want.path.now sums.digests listing → (digest : Digest) × (listed_digest listing.pairs want.path.now ≡ Some digest) × (hash listing.alg octets ≢ digest)
  by_listed listing None has none wrong = absurd (wrong (λ digest listed. let k : None ≡ Some digest = sym none ∙ listed in cc))
  by_listed listing (Some own_digest) has some wrong = (
    own_digest,
    some,
    λ same. wrong (λ digest listed. own listing digest has listed ∙ ap Some (same ∙ same_Some own_digest digest (sym some ∙ listed))),
  )

  other_so : (alg : Alg) → IsWrongBy want sums.digests alg → IsOtherBy want octets alg
  other_so alg wrong = record {
    listing = wrong.listing;
    has = wrong.has;
    alg_is = wrong.alg_is;
    is_such = by_listed wrong.listing (listed_digest wrong.listing.pairs want.path.now) wrong.has refl wrong.is_such;
  }

  other_back : (alg : Alg) → IsOtherBy want octets alg → IsWrongBy want sums.digests alg
  other_back alg other = record {
    listing = other.listing;
    has = other.has;
    alg_is = other.alg_is;
    is_such = λ fits. other.is_such.2 (same_Some _ _ (sym (own other.listing other.is_such.0 other.has other.is_such.1) ∙ fits other.is_such.0 other.is_such.1));
  }

  pub first_other : (alg : Alg) → IsFirstAmong (IsWrongBy want sums.digests) alg → IsFirstAmong (IsOtherBy want octets) alg
  first_other alg first = (other_so alg first.0, λ other lists. first.1 other (other_back other lists))

-- what doesn't fit isn't wanted
pub misfit_other : (want : Want) (octets : List ℕ) (fault : WantFault) → IsFirstMisfitOf want octets fault → ¬ IsWanted want octets
misfit_other want octets Length misfit wanted = misfit wanted.lengths
misfit_other want octets (WrongDigest alg) (fits, first) wanted = (let such = first.0 in such.is_such.2 (wanted.digests such.listing such.is_such.0 such.has such.is_such.1))

-- the test tells whether they are wanted
pub told_wanted : (want : Want) (octets : List ℕ) (result : Result Unit WantFault) (told : Bool) → told ≡ is_ok result → MatchResult result (λ done. IsWanted want octets) (IsFirstMisfitOf want octets)
    → IsTrue told ↔ IsWanted want octets
told_wanted want octets (Ok done) told is test = (λ yes. test, λ wanted. is)
told_wanted want octets (Err fault) told is test = (λ yes. absurd (let e : false ≡ true = sym is ∙ yes in cc), λ wanted. absurd (misfit_other want octets fault test wanted))
