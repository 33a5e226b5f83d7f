-- What a file has to be (RFC 8493 sections 2.1.3, 2.2.1 and 2.2.3).
use Rattle.std.specs.Prelude.{◌≡◌, ◌≢◌, ◌&&◌, ℕ, Bool, true, List, Some, length}
use Rattle.std.specs.List.{list_any}
use Rattle.bag_digest.specs.declared.algorithm.Alg.{Alg}
use Rattle.bag_digest.specs.declared.digest.Digest.{Digest}
use Rattle.bag_digest.specs.declared.multi.Digests.{Digests}
use Rattle.bag_digest.specs.declared.algorithm.AlgSet.{AlgSet}
use Rattle.bag_digest.specs.declared.sums.Sums.{Sums}
use Rattle.bag_digest.specs.Algorithm.{IsFirstAmong, has, is_alg}
use Rattle.bag_digest.specs.Hash.{digest_in, hash}
use Rattle.bag_digest.specs.Reading.{AreSums}
use Rattle.bag_tags.specs.Listings.{Listing, lists_path, listed_digest}
use Rattle.bag_rules.specs.declared.want.GivenLength.{GivenLength}
use Rattle.bag_rules.specs.declared.want.Want.{Want}
use Rattle.bag_rules.specs.declared.want.WantFault.{WantFault}
use Rattle.bag_rules.specs.declared.want.WantFault.TheVariants.{Length, Digest as WrongDigest}
use Rattle.bag_rules.specs.Faults.{Has}

-- some manifest by this algorithm is such
pub record HasSuch (listings : List Listing) (such : Listing → Type 0) (alg : Alg) : Type 0 where
  pub listing : Listing
  pub has : Has listings listing
  pub alg_is : listing.alg ≡ alg
  pub is_such : such listing

-- some manifest by this algorithm lists the path
abbrev pub lists_by : List Listing → List ℕ → Alg → Bool
lists_by listings path alg =
    list_any (λ
    (listing : Listing). is_alg listing.alg alg && lists_path listing.pairs path) listings

-- the algorithms by which the path is listed are in the set
abbrev pub CoversListed : List Listing → List ℕ → AlgSet → Type 0
CoversListed listings path set = (alg : Alg) → lists_by listings path alg ≡ true
    → has set alg ≡ true

abbrev pub CoversWant : AlgSet → Want → Type 0
CoversWant set want = CoversListed want.manifests.now want.path.now set

-- every length that is given is this one
abbrev pub FitsLength : Want → ℕ → Type 0
FitsLength want n = (given : GivenLength) → Has want.lengths.now given → given.length ≡ n

-- the digest that the manifest lists for the path, if it lists one, is among these
abbrev pub FitsListing : List ℕ → Digests → Listing → Type 0
FitsListing path digests listing = (digest : Digest)
    → listed_digest listing.pairs path ≡ Some digest → digest_in digests listing.alg ≡ Some digest

-- the same for several manifests
abbrev pub FitsListings : List ℕ → Digests → List Listing → Type 0
FitsListings path digests listings = (listing : Listing) → Has listings listing
    → FitsListing path digests listing

abbrev pub FitsDigests : Want → Digests → Type 0
FitsDigests want digests = FitsListings want.path.now digests want.manifests.now

-- a file of this length and with these digests is the one that is wanted
abbrev pub Fits : Want → Sums → Type 0
Fits want sums = FitsLength want sums.length × FitsDigests want sums.digests

-- some manifest by this algorithm lists another digest for the path
abbrev pub IsWrongBy : Want → Digests → Alg → Type 0
IsWrongBy want digests =
    HasSuch want.manifests.now (λ listing. ¬ FitsListing want.path.now digests listing)

-- the first reason why it isn't the one that is wanted
abbrev pub IsFirstMisfit : Want → Sums → WantFault → Type 0
IsFirstMisfit want sums Length = ¬ FitsLength want sums.length
IsFirstMisfit want sums (WrongDigest alg) = FitsLength want sums.length
    × IsFirstAmong (IsWrongBy want sums.digests) alg

-- THE SAME FOR OCTETS

-- the length of these octets, and their digests by each algorithm by which the path is listed
pub record AreSumsFor (want : Want) (octets : List ℕ) (sums : Sums) : Type 0 where
  pub set : AlgSet
  pub are_sums : AreSums sums set octets
  pub covers : CoversWant set want

-- a file with these octets is the one that is wanted
pub record IsWanted (want : Want) (octets : List ℕ) : Type 0 where
  pub lengths : FitsLength want (length octets)
  pub digests : (listing : Listing) (digest : Digest) → Has want.manifests.now listing
      → listed_digest listing.pairs want.path.now ≡ Some digest → hash listing.alg octets ≡ digest

-- some manifest by this algorithm lists a digest for the path that isn't that of the octets
abbrev pub IsOtherBy : Want → List ℕ → Alg → Type 0
IsOtherBy want octets = HasSuch want.manifests.now (λ listing. (digest : Digest)
    × (listed_digest listing.pairs want.path.now ≡ Some digest)
    × (hash listing.alg octets ≢ digest))

-- the first reason why it isn't the one that is wanted
abbrev pub IsFirstMisfitOf : Want → List ℕ → WantFault → Type 0
IsFirstMisfitOf want octets Length = ¬ FitsLength want (length octets)
IsFirstMisfitOf want octets (WrongDigest alg) = FitsLength want (length octets)
    × IsFirstAmong (IsOtherBy want octets) alg
