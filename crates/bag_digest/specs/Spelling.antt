-- Digests written in hex.
use Rattle.std.specs.Prelude.{◌≡◌, ℕ, List, length, Ok}
use Rattle.hex.specs.Hex.{decode_sized, encode_lower, IsBytes}
use Rattle.bag_digest.specs.declared.algorithm.Alg.{Alg}
use Rattle.bag_digest.specs.declared.digest.Digest.{Digest}
use Rattle.bag_digest.specs.declared.digest.Digest.TheVariants.{Md5, Sha1, Sha256, Sha512}
use Rattle.bag_digest.specs.Algorithm.{size_of}
use Rattle.bag_digest.specs.Hash.{alg_of}

-- the octets of a digest
abbrev pub octets_of : Digest → List ℕ
octets_of (Md5 octets) = octets
octets_of (Sha1 octets) = octets
octets_of (Sha256 octets) = octets
octets_of (Sha512 octets) = octets

-- The text is a digest by this algorithm in hex, with letters in either case: two digits for each octet, and as many
-- octets as the algorithm gives (RFC 8493 section 2.1.3).
pub record SpellsDigest (alg : Alg) (text : List ℕ) (digest : Digest) : Type 0 where
  pub by_alg : alg_of digest ≡ alg
  pub digits : decode_sized text (size_of alg) ≡ Ok (octets_of digest)

-- the spelling of a digest with lower case letters
abbrev pub lower_case_of : Digest → List ℕ
lower_case_of digest = encode_lower (octets_of digest)

-- the digest has as many octets as its algorithm gives (as each value of the Rust type has)
pub record IsWhole (digest : Digest) : Type 0 where
  pub size : length (octets_of digest) ≡ size_of (alg_of digest)
  pub octets : IsBytes (octets_of digest)
