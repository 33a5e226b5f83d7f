-- The digest algorithms of the format, and sets of them.
use Rattle.std.specs.Prelude.{◌≤◌, ℕ, List, Bool, true, false, codes}
use Rattle.bag_digest.specs.declared.algorithm.Alg.{Alg}
use Rattle.bag_digest.specs.declared.algorithm.Alg.TheVariants.{Md5, Sha1, Sha256, Sha512}
use Rattle.bag_digest.specs.declared.algorithm.AlgSet.{AlgSet}

-- the name that appears in the names of manifests (RFC 8493 section 2.4)
abbrev pub name_of : Alg → List ℕ
name_of Md5 = codes "md5"
name_of Sha1 = codes "sha1"
name_of Sha256 = codes "sha256"
name_of Sha512 = codes "sha512"

-- the length of a digest in octets (RFC 1321 section 3.5, FIPS 180-4 section 1)
abbrev pub size_of : Alg → ℕ
size_of Md5 = 16
size_of Sha1 = 20
size_of Sha256 = 32
size_of Sha512 = 64

-- the place of an algorithm among the four, in the order in which the algorithms of a bag are processed
abbrev pub place_of : Alg → ℕ
place_of Md5 = 0
place_of Sha1 = 1
place_of Sha256 = 2
place_of Sha512 = 3

-- whether they are the same algorithm
abbrev pub is_alg : Alg → Alg → Bool
is_alg Md5 Md5 = true
is_alg Sha1 Sha1 = true
is_alg Sha256 Sha256 = true
is_alg Sha512 Sha512 = true
is_alg _ _ = false

-- whether the algorithm is in the set
abbrev pub has : AlgSet → Alg → Bool
has set Md5 = set.md5
has set Sha1 = set.sha1
has set Sha256 = set.sha256
has set Sha512 = set.sha512

-- it is one of these algorithms, and none of them comes before it
abbrev pub IsFirstAmong : (Alg → Type 0) → Alg → Type 0
IsFirstAmong some alg = some alg × ((other : Alg) → some other → place_of alg ≤ place_of other)
