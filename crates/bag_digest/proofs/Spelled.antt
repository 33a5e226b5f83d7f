-- Facts about digests written in hex.
use Rattle.std.proofs.Common.{◌≡◌, ℕ, List, Result, ap, sym, ◌∙◌, refl}
use Rattle.std.specs.Result.{result_unwrap_or}
use Rattle.std.specs.Prelude.{[]}
use Rattle.hex.specs.declared.error.FromHexError.{FromHexError}
use Rattle.hex.proofs.HexLemmas.{decode_sized-encode_lower}
use Rattle.bag_digest.specs.declared.algorithm.Alg.{Alg}
use Rattle.bag_digest.specs.declared.digest.Digest.{Digest}
use Rattle.bag_digest.specs.declared.digest.Digest.TheVariants.{Md5, Sha1, Sha256, Sha512}
use Rattle.bag_digest.specs.Hash.{alg_of}
use Rattle.bag_digest.specs.Spelling.{octets_of, lower_case_of, SpellsDigest, IsWhole}

-- the lower case spelling of a digest spells it
pub lower_case_spells : (digest : Digest) → IsWhole digest → SpellsDigest (alg_of digest) (lower_case_of digest) digest
lower_case_spells digest whole = record {
  by_alg = refl;
  digits = decode_sized-encode_lower (octets_of digest) _ whole.size whole.octets;
}

-- digests by one algorithm with the same octets are the same
same_digest : (a b : Digest) → alg_of a ≡ alg_of b → octets_of a ≡ octets_of b → a ≡ b
same_digest (Md5 x) (Md5 y) alg octets = ap Md5 octets
same_digest (Sha1 x) (Sha1 y) alg octets = ap Sha1 octets
same_digest (Sha256 x) (Sha256 y) alg octets = ap Sha256 octets
same_digest (Sha512 x) (Sha512 y) alg octets = ap Sha512 octets
same_digest (Md5 x) (Sha1 y) alg octets = cc alg
same_digest (Md5 x) (Sha256 y) alg octets = cc alg
same_digest (Md5 x) (Sha512 y) alg octets = cc alg
same_digest (Sha1 x) (Md5 y) alg octets = cc alg
same_digest (Sha1 x) (Sha256 y) alg octets = cc alg
same_digest (Sha1 x) (Sha512 y) alg octets = cc alg
same_digest (Sha256 x) (Md5 y) alg octets = cc alg
same_digest (Sha256 x) (Sha1 y) alg octets = cc alg
same_digest (Sha256 x) (Sha512 y) alg octets = cc alg
same_digest (Sha512 x) (Md5 y) alg octets = cc alg
same_digest (Sha512 x) (Sha1 y) alg octets = cc alg
same_digest (Sha512 x) (Sha256 y) alg octets = cc alg

-- a text spells at most one digest by an algorithm
pub one_digest_spelled : (alg : Alg) (text : List ℕ) (a b : Digest) → SpellsDigest alg text a → SpellsDigest alg text b → a ≡ b
one_digest_spelled alg text a b as_a as_b =
    same_digest a b (as_a.by_alg ∙ sym as_b.by_alg)
    (ap (λ (r : Result (List ℕ) FromHexError). result_unwrap_or r []) (sym as_a.digits ∙ as_b.digits))
