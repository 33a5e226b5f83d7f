-- The digests of octets, and what the hashers of several algorithms hold.
use Rattle.std.specs.Prelude.{◌≡◌, ℕ, List, Bool, true, false, Option, Some, None, if◌then◌else◌}
use Rattle.std.specs.Option.{option_map}
use Rattle.md5.specs.Md5.{md5}
use Rattle.md5.specs.Md5 as MD5
use Rattle.sha1.specs.Sha1.{sha1}
use Rattle.sha1.specs.Sha1 as SHA1
use Rattle.sha2.specs.Sha256.{sha256}
use Rattle.sha2.specs.Sha512.{sha512}
use Rattle.sha2.specs.Hashers.{Holds256, Holds512}
use Rattle.bag_digest.specs.declared.algorithm.Alg.{Alg}
use Rattle.bag_digest.specs.declared.algorithm.Alg.TheVariants.{Md5, Sha1, Sha256, Sha512}
use Rattle.bag_digest.specs.declared.algorithm.AlgSet.{AlgSet}
use Rattle.bag_digest.specs.declared.digest.Digest.{Digest}
use Rattle.bag_digest.specs.declared.digest.Digest.TheVariants as digest
use Rattle.bag_digest.specs.declared.multi.Digests.{Digests}
use Rattle.bag_digest.specs.declared.multi.Multi.{Multi}
use Rattle.bag_digest.specs.Algorithm.{has}

-- the digest of some octets by an algorithm (RFC 1321 section 3, FIPS 180-4 sections 6.1, 6.2 and 6.4)
abbrev pub hash : Alg → List ℕ → Digest
hash Md5 octets = digest.Md5 (md5 octets)
hash Sha1 octets = digest.Sha1 (sha1 octets)
hash Sha256 octets = digest.Sha256 (sha256 octets)
hash Sha512 octets = digest.Sha512 (sha512 octets)

-- the algorithm of a digest
abbrev pub alg_of : Digest → Alg
alg_of (digest.Md5 octets) = Md5
alg_of (digest.Sha1 octets) = Sha1
alg_of (digest.Sha256 octets) = Sha256
alg_of (digest.Sha512 octets) = Sha512

-- the digest by an algorithm, if it was computed
abbrev pub digest_in : Digests → Alg → Option Digest
digest_in digests Md5 = option_map (λ d. digest.Md5 d) digests.md5
digest_in digests Sha1 = option_map (λ d. digest.Sha1 d) digests.sha1
digest_in digests Sha256 = option_map (λ d. digest.Sha256 d) digests.sha256
digest_in digests Sha512 = option_map (λ d. digest.Sha512 d) digests.sha512

-- the digests of these octets by the algorithms of the set, and no others
abbrev pub AreDigests : Digests → AlgSet → List ℕ → Type 0
AreDigests digests set octets = (alg : Alg)
    → digest_in digests alg ≡ (if has set alg then Some (hash alg octets) else None)

-- a hasher exists exactly if it is wanted, and then it holds the octets
abbrev pub HoldsIf : {H : Type 0} → (H → List ℕ → Type 0) → Bool → Option H → List ℕ → Type 0
HoldsIf holds wanted None octets = wanted ≡ false
HoldsIf holds wanted (Some hasher) octets = (wanted ≡ true) × holds hasher octets

-- the hashers are those of the set, and each holds these octets
pub record Holds (multi : Multi) (set : AlgSet) (octets : List ℕ) : Type 0 where
  pub md5 : HoldsIf MD5.Holds (has set Md5) multi.md5 octets
  pub sha1 : HoldsIf SHA1.Holds (has set Sha1) multi.sha1 octets
  pub sha256 : HoldsIf Holds256 (has set Sha256) multi.sha256 octets
  pub sha512 : HoldsIf Holds512 (has set Sha512) multi.sha512 octets
