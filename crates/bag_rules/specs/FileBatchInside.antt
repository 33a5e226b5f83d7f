-- What a batch of files holds. Private functions alone cite these.
use Rattle.std.specs.Prelude.{◌≡◌, ◌<◌, ◌≤◌, ◌+◌, ◌++◌, ◌∷◌, ◌||◌, [], ℕ, true, List, Option, Some, None, Vec, length, slice_get}
use Rattle.std.specs.declared.alloc.Global.{Global}
use Rattle.bag_digest.specs.declared.algorithm.Alg.{Alg}
use Rattle.bag_digest.specs.declared.algorithm.AlgSet.{AlgSet}
use Rattle.bag_digest.specs.declared.sums.Sums.{Sums}
use Rattle.bag_digest.specs.Algorithm.{has}
use Rattle.bag_digest.specs.ShortContents.{AreSumsOfEach}
use Rattle.bag_digest.specs.declared.buffers.TheConstants.{FRONT}
use Rattle.bag_rules.specs.declared.file_batch.FileBatch.{FileBatch}
use Rattle.bag_rules.specs.declared.file_batch.FileSums.{FileSums}
use Rattle.bag_rules.specs.declared.file_batch.FileSums.TheVariants.{Streamed, Taken, Unread, Waiting}
use Rattle.bag_rules.specs.declared.file_batch.LookedUp.{LookedUp}
use Rattle.bag_rules.specs.declared.file_batch.LookedUp.TheVariants.{Known, ToRead}
use Rattle.bag_rules.specs.declared.tag_sums.TagSums.{TagSums}
use Rattle.bag_rules.specs.declared.limits.TheConstants.{LARGEST_FILE}
use Rattle.bag_rules.specs.declared.requirements.Requirements.{Requirements}
use Rattle.bag_rules.specs.FilesInside.{IsReadBy}
use Rattle.bag_rules.specs.KeptInside.{AreKept, HasSumsWithin}
use Rattle.bag_rules.specs.Trees.{HasFileAt, Shown, paths_in}
use Rattle.bag_rules.specs.Wants.{CoversListed, lists_by}

-- A file can be read at this place of a tree: it is one of the tree's, the buffer is as long as a first piece, and what
-- was kept is of the tree.
pub record CanRead (shown : Shown) (place : ℕ) (buffer : List ℕ) (kept : TagSums) : Type 0 where
  pub room : length buffer ≡ FRONT
  pub inside : place < length (paths_in shown)
  pub are_kept : AreKept shown kept

-- the file is read, and the algorithms by which it is listed are in the set
abbrev pub IsReadFor : Requirements → List ℕ → AlgSet → Type 0
IsReadFor wants path set = IsReadBy wants.manifests.now path
    × CoversListed wants.manifests.now path set

-- the file is read, and these are the algorithms by which it is listed; or it isn't read
abbrev pub AreAlgsOf : Requirements → List ℕ → Option AlgSet → Type 0
AreAlgsOf wants path None = ¬ IsReadBy wants.manifests.now path
AreAlgsOf wants path (Some set) = IsReadFor wants path set

-- each of these algorithms is one by which the file is listed
abbrev pub AreListedAlgs : Requirements → List ℕ → Option AlgSet → Type 0
AreListedAlgs wants path None = Unit {0}
AreListedAlgs wants path (Some set) = (alg : Alg) → has set alg ≡ true
    → lists_by wants.manifests.now path alg ≡ true

-- the file is read, and these are its length and its digests
pub record AreSumsRead (wants : Requirements) (path octets : List ℕ) (found : Sums) : Type 0 where
  pub read : IsReadBy wants.manifests.now path
  pub set : AlgSet
  pub sums : HasSumsWithin found set octets
  pub covers : CoversListed wants.manifests.now path set

-- the same of a file that is read, and nothing of another
abbrev pub IsSumsOf : Requirements → List ℕ → List ℕ → Option Sums → Type 0
IsSumsOf wants path octets None = ¬ IsReadBy wants.manifests.now path
IsSumsOf wants path octets (Some found) = AreSumsRead wants path octets found

-- what is known of a file before it is opened: that it isn't read, or its sums
abbrev pub IsKnownOf : Requirements → List ℕ → List ℕ → FileSums → Type 0
IsKnownOf wants path octets Unread = ¬ IsReadBy wants.manifests.now path
IsKnownOf wants path octets (Taken sums) = AreSumsRead wants path octets sums
IsKnownOf wants path octets other = ⊥

-- the same, or else that it is to be read
abbrev pub IsFindingOf : Requirements → List ℕ → List ℕ → LookedUp → Type 0
IsFindingOf wants path octets (Known sums) = IsKnownOf wants path octets sums
IsFindingOf wants path octets (ToRead set) = IsReadFor wants path set

-- the file is read, and its octets are held at this place
pub record IsHeldFor (batch : FileBatch) (wants : Requirements) (path octets : List ℕ)
    (place : ℕ) : Type 0 where
  pub read : IsReadBy wants.manifests.now path
  pub content : Vec ℕ Global
  pub there : slice_get batch.held.contents.items place ≡ Some content
  pub octets_are : content.items ≡ octets
  pub within : length octets ≤ LARGEST_FILE
  pub covers : CoversListed wants.manifests.now path batch.held.set

-- what is known of a stream, by its place, as that of a file
abbrev pub StreamFact : Type 1
StreamFact = ℕ → List ℕ → List ℕ → Type 0

-- what was read of a file with these octets
abbrev pub IsReadingOf : FileBatch → StreamFact → Requirements → List ℕ → List ℕ → FileSums → Type 0
IsReadingOf batch is_stream wants path octets Unread = ¬ IsReadBy wants.manifests.now path
IsReadingOf batch is_stream wants path octets (Taken sums) =
    AreSumsRead wants path octets sums
IsReadingOf batch is_stream wants path octets (Waiting place) =
    IsHeldFor batch wants path octets place
IsReadingOf batch is_stream wants path octets (Streamed place) = is_stream place path octets

-- what was read of each file, whose octets are known
abbrev pub AreReadings : Shown → Requirements → FileBatch → StreamFact → Type 0
AreReadings shown wants batch is_stream = (i : ℕ) (reading : FileSums)
    → slice_get batch.read.items i ≡ Some reading
    → (path octets : List ℕ) → HasFileAt shown (batch.first + i) path octets
    → IsReadingOf batch is_stream wants path octets reading

-- these are the length and the digests of the file
abbrev pub HasSumsAt : Requirements → FileBatch → StreamFact
HasSumsAt wants batch place path octets = (found : Sums)
    × (slice_get batch.streamed.items place ≡ Some found) × AreSumsRead wants path octets found

-- the same, with the sums of what is held and of the streams
pub record AreRead (shown : Shown) (wants : Requirements) (batch : FileBatch) : Type 0 where
  pub readings : AreReadings shown wants batch (HasSumsAt wants batch)
  pub sums : AreSumsOfEach batch.held.set batch.held.contents.items batch.waiting.items

-- the file at this place is among those of the batch
abbrev pub Covers : FileBatch → ℕ → Type 0
Covers batch place = (batch.first ≤ place) × (place < batch.first + length batch.read.items)

-- the place of the next file of the batch
abbrev pub next_of : FileBatch → ℕ
next_of batch = batch.first + length batch.read.items

-- one file more
pub record AddsSums (old new : FileBatch) (sums : FileSums) : Type 0 where
  pub first : new.first ≡ old.first
  pub read : new.read.items ≡ old.read.items ++ sums ∷ []
  pub held : new.held ≡ old.held

-- one file more, whose octets are held
pub record AddsHeld (old new : FileBatch) (wanted : AlgSet) (octets : List ℕ) : Type 0 where
  pub first : new.first ≡ old.first
  pub read : new.read.items ≡ old.read.items ++ Waiting (length old.held.contents.items) ∷ []
  pub content : Vec ℕ Global
  pub octets_are : content.items ≡ octets
  pub contents : new.held.contents.items ≡ old.held.contents.items ++ content ∷ []
  pub algs : (alg : Alg) → has new.held.set alg ≡ (has old.held.set alg || has wanted alg)

-- the same files, with the sums of what is held and these of the streams
pub record CompletesBatch (old new : FileBatch) (sums : List Sums) : Type 0 where
  pub first : new.first ≡ old.first
  pub read : new.read ≡ old.read
  pub held : new.held ≡ old.held
  pub waiting : AreSumsOfEach new.held.set new.held.contents.items new.waiting.items
  pub streamed : new.streamed.items ≡ sums
