-- What is kept of the tag files that were read. Only private functions cite these.
use Rattle.std.specs.Prelude.{◌≡◌, ◌≤◌, ℕ, true, IsErrOf, List, OnOk, Result, Some, length, slice_get}
use Rattle.bag_digest.specs.declared.algorithm.Alg.{Alg}
use Rattle.bag_digest.specs.declared.algorithm.AlgSet.{AlgSet}
use Rattle.bag_digest.specs.declared.sums.Sums.{Sums}
use Rattle.bag_digest.specs.Algorithm.{has}
use Rattle.bag_digest.specs.Reading.{AreSums}
use Rattle.bag_rules.specs.declared.tag_sums.TagSums.{TagSums}
use Rattle.bag_rules.specs.declared.tag_sums.KeptFile.{KeptFile}
use Rattle.bag_rules.specs.declared.limits.TheConstants.{LARGEST_FILE, LARGEST_TAG_FILE}
use Rattle.bag_rules.specs.declared.outcome.CheckFault.{CheckFault}
use Rattle.bag_rules.specs.declared.outcome.CheckFault.TheVariants.{Tree}
use Rattle.bag_rules.specs.Trees.{HasFileAt, Shown, UsesTree}

-- the length of these octets, and their digests by all algorithms of the set and possibly by others
pub record HasSums (found : Sums) (set : AlgSet) (octets : List ℕ) : Type 0 where
  pub taken : AlgSet
  pub sums : AreSums found taken octets
  pub covers : (alg : Alg) → has set alg ≡ true → has taken alg ≡ true

-- the same for a file within the limit
pub record HasSumsWithin (found : Sums) (set : AlgSet) (octets : List ℕ) : Type 0 where
  pub sums : HasSums found set octets
  pub within : length octets ≤ LARGEST_FILE

-- the file at the place has this text, if it is known
abbrev pub IsTextAt : Shown → ℕ → List ℕ → Type 0
IsTextAt shown place text = (path octets : List ℕ) → HasFileAt shown place path octets
    → (text ≡ octets) × (length octets ≤ LARGEST_TAG_FILE)

abbrev pub kept_file : ℕ → Sums → KeptFile
kept_file place sums = record { place = place; sums = sums }

-- what is kept of a file belongs to its octets, if they are known
abbrev pub IsKeptOf : Shown → AlgSet → KeptFile → Type 0
IsKeptOf shown set file = (path octets : List ℕ) → HasFileAt shown file.place path octets
    → AreSums file.sums set octets × (length octets ≤ LARGEST_TAG_FILE)

pub record AreKept (shown : Shown) (kept : TagSums) : Type 0 where
  pub each : (i : ℕ) (file : KeptFile) → slice_get kept.files.items i ≡ Some file
      → IsKeptOf shown kept.set file

-- What a call that reads text does to a tree; and if it succeeds, what is kept is still of the tree's files.
pub record ReadsAndKeeps {T Value : Type 0} (shown : T → Shown) (failures : T → ℕ)
    (sure : T → Type 0) (old new : T) (before after : TagSums) (result : Result Value CheckFault)
    : Type 0 where
  pub tree : UsesTree shown failures sure old new (IsErrOf result Tree)
  pub kept : AreKept (shown old) before → OnOk result (AreKept (shown old) after)
