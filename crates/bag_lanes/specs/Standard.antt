-- What MD5 (RFC 1321), SHA-1 and SHA-256 (FIPS 180-4) have in common, on lists of numbers: a message is padded to whole
-- blocks of 64 octets, the blocks change the hash value one after another, and the words of the last are the digest.
use Rattle.std.specs.Prelude.{ℕ, zero, suc, ◌+◌, ◌-◌, ◌*◌, ◌/◌, ◌%◌, ◌^◌, List, [], ◌∷◌, ◌++◌, length, take, drop, replicate, slice_index}
use Rattle.std.specs.List.{flat_map}
use Rattle.std.specs.Int.{Width, w32, w64, to_le_bytes, to_be_bytes, from_le_bytes, from_be_bytes}
use Rattle.md5.specs.Md5 as MD5
use Rattle.sha1.specs.Sha1 as SHA1
use Rattle.sha2.specs.Sha256 as SHA256
use Rattle.bag_lanes.specs.declared.octets.ByteOrder.{ByteOrder}
use Rattle.bag_lanes.specs.declared.octets.ByteOrder.TheVariants.{LowFirst, HighFirst}

-- a number of this width in octets
abbrev pub octets_of : ByteOrder → Width → ℕ → List ℕ
octets_of LowFirst w n = to_le_bytes w n
octets_of HighFirst w n = to_be_bytes w n

-- the number that some octets are
abbrev pub number_of : ByteOrder → Width → List ℕ → ℕ
number_of LowFirst w octets = from_le_bytes w octets
number_of HighFirst w octets = from_be_bytes w octets

-- the word at octet i of a block
abbrev pub word_at : ByteOrder → List ℕ → ℕ → ℕ
word_at order b i = number_of order w32
    (slice_index b i ∷ slice_index b (i + 1) ∷ slice_index b (i + 2) ∷ slice_index b (i + 3) ∷ [])

-- what a hash function has of its own
pub record HashFunction : Type 0 where
  pub order : ByteOrder
  -- the initial hash value (RFC 1321, 3.3; FIPS 180-4, 5.3)
  pub initial : List ℕ
  -- the hash value after a block (RFC 1321, 3.4; FIPS 180-4, 6.1.2 and 6.2.2)
  pub compress : List ℕ → List ℕ → List ℕ

-- The message, the octet 1000 0000, zeros up to 8 octets short of a block, and the message's length in bits modulo 2 ^
-- 64 (RFC 1321, 3.1 and 3.2; FIPS 180-4, 5.1.1).
abbrev pub padded : ByteOrder → List ℕ → List ℕ
padded order m = m
    ++ (0x80 ∷ replicate ((119 - length m % 64) % 64) 0
    ++ octets_of order w64 (length m * 8 % 2 ^ 64))

-- block j of some octets
abbrev pub block : List ℕ → ℕ → List ℕ
block octets j = take 64 (drop (j * 64) octets)

-- how many blocks some octets have
abbrev pub block_count : List ℕ → ℕ
block_count octets = length octets / 64

-- the hash value after the first n blocks
unfoldable pub hash_value : HashFunction → List ℕ → ℕ → List ℕ
hash_value f octets zero = f.initial
hash_value f octets (suc n) = f.compress (hash_value f octets n) (block octets n)

-- the hash value of a message: that after all blocks of the padded message
abbrev pub final_value : HashFunction → List ℕ → List ℕ
final_value f m = let octets = padded f.order m in hash_value f octets (block_count octets)

-- the digest of a message: the words of its hash value in octets
abbrev pub digest : HashFunction → List ℕ → List ℕ
digest f m = flat_map (octets_of f.order w32) (final_value f m)

-- RFC 1321, 3.3 and 3.4
abbrev pub md5_function : HashFunction
md5_function = record { order = LowFirst; initial = MD5.initial_hash; compress = MD5.compress }

-- FIPS 180-4, 5.3.1 and 6.1.2
abbrev pub sha1_function : HashFunction
sha1_function = record { order = HighFirst; initial = SHA1.initial_hash; compress = SHA1.compress }

-- FIPS 180-4, 5.3.3 and 6.2.2
abbrev pub sha256_function : HashFunction
sha256_function = record {
  order = HighFirst;
  initial = SHA256.initial_hash_256;
  compress = SHA256.compress;
}
