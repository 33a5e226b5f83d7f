-- Contents that are held until their digests are taken.
use Rattle.std.specs.Prelude.{◌≡◌, ◌++◌, ◌∷◌, ◌||◌, ◌<◌, ◌≤◌, [], ℕ, List, Some, Vec, length, slice_get}
use Rattle.std.specs.declared.alloc.Global.{Global}
use Rattle.bag_digest.specs.Algorithm.{has}
use Rattle.bag_digest.specs.Hash.{Holds}
use Rattle.bag_digest.specs.Reading.{AreSums}
use Rattle.bag_digest.specs.declared.algorithm.Alg.{Alg}
use Rattle.bag_digest.specs.declared.algorithm.AlgSet.{AlgSet}
use Rattle.bag_digest.specs.declared.content.Content.{Content}
use Rattle.bag_digest.specs.declared.content.Content.TheVariants.{Hashed, Whole}
use Rattle.bag_digest.specs.declared.buffers.TheConstants.{PIECE}
use Rattle.bag_digest.specs.declared.short_contents.ShortContents.{ShortContents}
use Rattle.bag_digest.specs.declared.sums.Sums.{Sums}

-- the lengths and the digests of these contents by the algorithms of the set, in their order
pub record AreSumsOfEach (set : AlgSet) (contents : List (Vec ℕ Global)) (each : List Sums)
    : Type 0 where
  pub count : length each ≡ length contents
  pub sums : (i : ℕ) (content : Vec ℕ Global) (sums : Sums) → slice_get contents i ≡ Some content
      → slice_get each i ≡ Some sums → AreSums sums set content.items

-- nothing is held, and these are the algorithms
abbrev pub IsEmpty : {K : Type 0} → AlgSet → ShortContents K → Type 0
IsEmpty set held = (held.known.items ≡ []) × (held.contents.items ≡ []) × (held.set ≡ set)

-- the same contents are held, and the same is known of each
abbrev pub HoldsSame : {K : Type 0} → ShortContents K → ShortContents K → Type 0
HoldsSame old new = (new.known.items ≡ old.known.items) × (new.contents.items ≡ old.contents.items)
    × (new.set ≡ old.set)

-- the algorithms of this set are wanted, too
pub record WantsAlso {K : Type 0} (set : AlgSet) (old new : ShortContents K) : Type 0 where
  pub known : new.known ≡ old.known
  pub contents : new.contents ≡ old.contents
  pub algs : (alg : Alg) → has new.set alg ≡ (has old.set alg || has set alg)

-- this content is held, too
pub record AddsContent {K : Type 0} (known : K) (content : Vec ℕ Global) (old new : ShortContents K)
    : Type 0 where
  pub known_too : new.known.items ≡ old.known.items ++ known ∷ []
  pub held_too : new.contents.items ≡ old.contents.items ++ content ∷ []
  pub same_algs : new.set ≡ old.set

-- ONE CONTENT WHILE IT IS READ

-- these octets were taken, to be hashed by the algorithms of the set
abbrev pub Took : Content → AlgSet → List ℕ → Type 0
Took (Whole whole) set octets = whole.items ≡ octets
Took (Hashed multi) set octets = Holds multi set octets

-- It is held whole exactly if it has at most one piece: then all octets that were taken are held, and otherwise none.
abbrev pub IsHeld : Content → ℕ → ℕ → Type 0
IsHeld (Whole whole) size taken = (size ≤ PIECE) × (length whole.items ≡ taken)
IsHeld (Hashed multi) size taken = PIECE < size

-- nothing more is taken
abbrev pub TakesNothing : Content → Content → Type 0
TakesNothing (Whole old) (Whole new) = new.items ≡ old.items
TakesNothing (Hashed old) (Hashed new) = new ≡ old
TakesNothing old new = ⊥

-- these octets are taken after those that were taken before
abbrev pub TakesAlso : Content → Content → List ℕ → Type 0
TakesAlso old new octets = (set : AlgSet) (before : List ℕ) → Took old set before
    → Took new set (before ++ octets)
