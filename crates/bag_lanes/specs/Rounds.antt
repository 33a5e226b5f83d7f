-- How far the rounds of a block have come in SHA-1 and SHA-256 (FIPS 180-4, 6.1.2 and 6.2.2), where only 16 words of
-- the schedule are kept: its first 16, or from round 16 on the 16 before the round.
use Rattle.std.specs.Prelude.{◌≡◌, ℕ, List, max}
use Rattle.sha1.specs.Sha1 as SHA1
use Rattle.sha2.specs.Sha256 as SHA256

-- after t rounds of block b from the hash value h, w are the words that are kept and v the working variables
pub record IsSha1At (b h w v : List ℕ) (t : ℕ) : Type 0 where
  pub words : SHA1.IsWindow w (SHA1.schedule b 64) (max t 16)
  pub variables : v ≡ SHA1.rounds h (SHA1.schedule b 64) t

-- the same of SHA-256
pub record IsSha256At (b h w v : List ℕ) (t : ℕ) : Type 0 where
  pub words : SHA256.IsWindow w (SHA256.schedule b 48) (max t 16)
  pub variables : v ≡ SHA256.rounds h (SHA256.schedule b 48) t
