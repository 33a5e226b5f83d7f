-- What is gathered of the files of a batch, while some of them are out. Private functions alone cite these.
use Rattle.std.specs.Prelude.{◌≡◌, ◌≢◌, ◌<◌, ◌≤◌, ◌+◌, ◌++◌, ◌∷◌, ◌||◌, [], ℕ, List, Option, Some, None, length, slice_get, take}
use Rattle.bag_digest.specs.declared.algorithm.Alg.{Alg}
use Rattle.bag_digest.specs.declared.algorithm.AlgSet.{AlgSet}
use Rattle.bag_digest.specs.declared.sums.Sums.{Sums}
use Rattle.bag_digest.specs.declared.reading.SourceFault.TheVariants.{Read}
use Rattle.bag_digest.specs.declared.streams.Stream.{Stream}
use Rattle.bag_digest.specs.Algorithm.{has}
use Rattle.bag_digest.specs.Streams.{IsFresh}
use Rattle.bag_rules.specs.Bags.{Bag, IsBagOf}
use Rattle.bag_rules.specs.FileBatchInside.{AddsSums, AreReadings, IsReadFor, next_of}
use Rattle.bag_rules.specs.FilesInside.{IsLongRead, IsReadBy}
use Rattle.bag_rules.specs.Limits.{NoneStopsBefore}
use Rattle.bag_rules.specs.Returning.{AreByPlace, IsStopped}
use Rattle.bag_rules.specs.Trees.{HasFileAt, Shown, octets_in, paths_in}
use Rattle.bag_rules.specs.declared.file_batch.FileSums.TheVariants.{Streamed}
use Rattle.bag_rules.specs.declared.batch_reading.FrontFault.{FrontFault}
use Rattle.bag_rules.specs.declared.batch_reading.FrontFault.TheVariants.{Memory, Stopped}
use Rattle.bag_rules.specs.declared.batch_reading.BatchReading.{BatchReading}
use Rattle.bag_rules.specs.declared.limits.TheConstants.{LARGEST_FILE}
use Rattle.bag_rules.specs.declared.requirements.Requirements.{Requirements}

-- THE FRONT OF A FILE

-- the octets of a file: these, and what its source has left
pub record HasRest {F : Type 0} (remaining : F → Option (List ℕ)) (octets front : List ℕ) (file : F)
    : Type 0 where
  pub rest : List ℕ
  pub left : remaining file ≡ Some rest
  pub octets_are : octets ≡ front ++ rest

-- the front of a file with these octets: all of them, or as many as fit, with the rest still to come
pub record IsFront {F : Type 0} (remaining : F → Option (List ℕ)) (octets buffer : List ℕ)
    (n : ℕ) (file : F) : Type 0 where
  pub whole : n < length buffer → (take n buffer ≡ octets) × (length octets ≤ LARGEST_FILE)
  pub more : length buffer ≤ n → HasRest remaining octets buffer file

-- a file that was opened at this place, of which the front was read: it hasn't failed
pub record HasFront {F : Type 0} (place : F → ℕ) (remaining : F → Option (List ℕ))
    (failures : F → ℕ) (ready : F → Type 0) (shown : Shown) (sure : Type 0) (i : ℕ)
    (buffer : List ℕ) (found : ℕ × F) : Type 0 where
  pub placed : place found.1 ≡ i
  pub bound : found.0 ≤ length buffer
  pub unfailed : failures found.1 ≡ 0
  pub is_ready : sure → ready found.1
  pub known : (octets : List ℕ) → octets_in shown i ≡ Some octets
      → IsFront remaining octets buffer found.0 found.1

-- how many files come with a fault
abbrev pub files_with : {F : Type 0} → FrontFault F → ℕ
files_with Memory = 0
files_with (Stopped fault file) = 1

-- why the front of the file at this place wasn't read
abbrev pub IsFrontFault : {F : Type 0} → (F → ℕ) → (F → ℕ) → Shown → Type 0 → ℕ → FrontFault F
    → Type 0
IsFrontFault place failures shown sure i Memory = Unit {0}
IsFrontFault place failures shown sure i (Stopped fault file) = (place file ≡ i)
    × IsStopped place failures shown fault file × (sure → fault ≢ Read)

-- OPEN FILES

-- A stream is a file of the tree that is out: its front was read, and it hasn't failed. Its place is before this one.
pub record IsOut {F : Type 0} (place : F → ℕ) (remaining : F → Option (List ℕ))
    (failures : F → ℕ) (shown : Shown) (next : ℕ) (stream : Stream F) : Type 0 where
  pub before : place stream.source < next
  pub inside : place stream.source < length (paths_in shown)
  pub fresh : IsFresh stream
  pub unfailed : failures stream.source ≡ 0
  pub known : (octets : List ℕ) → octets_in shown (place stream.source) ≡ Some octets
      → HasRest remaining octets stream.piece.items stream.source

-- each stream, in the order of their places
pub record AreOpen {F : Type 0} (place : F → ℕ) (remaining : F → Option (List ℕ))
    (failures : F → ℕ) (shown : Shown) (gathered : BatchReading F) : Type 0 where
  pub each : (k : ℕ) (stream : Stream F) → slice_get gathered.streams.items k ≡ Some stream
      → IsOut place remaining failures shown (next_of gathered.batch) stream
  pub by_place : AreByPlace place gathered.streams.items

-- none of them fails
abbrev pub AreReady : {F : Type 0} → (F → Type 0) → List (Stream F) → Type 0
AreReady {F} ready streams = (k : ℕ) (stream : Stream F)
    → slice_get streams k ≡ Some stream → ready stream.source

-- WHAT WAS READ

-- the stream at this place is that of a file with these octets, which is read
pub record IsStreamOf {F : Type 0} (remaining : F → Option (List ℕ)) (wants : Requirements)
    (set : AlgSet) (streams : List (Stream F)) (k : ℕ) (path octets : List ℕ) : Type 0 where
  pub read : IsReadFor wants path set
  pub stream : Stream F
  pub there : slice_get streams k ≡ Some stream
  pub rest : HasRest remaining octets stream.piece.items stream.source

-- the first n streams have no more octets than a file may have
abbrev pub AreWithin : {F : Type 0} → (F → Option (List ℕ)) → List (Stream F) → ℕ → Type 0
AreWithin {F} remaining streams n = (k : ℕ) (stream : Stream F) (rest : List ℕ) → k < n
    → slice_get streams k ≡ Some stream → remaining stream.source ≡ Some rest
    → length (stream.piece.items ++ rest) ≤ LARGEST_FILE

-- What was read of each file, and which files stop the work: those before the place of a stream don't, if the streams
-- before it don't.
pub record AreGathered {F : Type 0} (place : F → ℕ) (remaining : F → Option (List ℕ))
    (shown : Shown) (wants : Requirements) (gathered : BatchReading F) : Type 0 where
  pub readings : AreReadings shown wants gathered.batch
      (IsStreamOf remaining wants gathered.set gathered.streams.items)
  pub files : (k : ℕ) (stream : Stream F) → slice_get gathered.streams.items k ≡ Some stream
      → (path octets : List ℕ) → HasFileAt shown (place stream.source) path octets
      → IsStreamOf remaining wants gathered.set gathered.streams.items k path octets
  pub none_at : (bag : Bag) → IsBagOf shown bag
      → NoneStopsBefore gathered.batch.first bag (IsLongRead wants.manifests.now)
      → (k : ℕ) (stream : Stream F) → slice_get gathered.streams.items k ≡ Some stream
      → AreWithin remaining gathered.streams.items k
      → NoneStopsBefore (place stream.source) bag (IsLongRead wants.manifests.now)
  pub none : (bag : Bag) → IsBagOf shown bag
      → NoneStopsBefore gathered.batch.first bag (IsLongRead wants.manifests.now)
      → AreWithin remaining gathered.streams.items (length gathered.streams.items)
      → NoneStopsBefore (next_of gathered.batch) bag (IsLongRead wants.manifests.now)

-- one file more, of which this is the front
pub record HoldsFront {F : Type 0} (old new : BatchReading F) (wanted : AlgSet) (front : List ℕ)
    (file : F) : Type 0 where
  pub batch : AddsSums old.batch new.batch (Streamed (length old.streams.items))
  pub stream : Stream F
  pub source : stream.source ≡ file
  pub piece : stream.piece.items ≡ front
  pub sums : stream.sums ≡ None
  pub streams : new.streams.items ≡ old.streams.items ++ stream ∷ []
  pub set : (alg : Alg) → has new.set alg ≡ (has old.set alg || has wanted alg)

-- What was read of the next file was added, and what was gathered of the files is still right.
pub record AddsFile {F : Type 0} (place : F → ℕ) (remaining : F → Option (List ℕ))
    (failures : F → ℕ) (ready : F → Type 0) (shown : Shown) (sure : Type 0) (wants : Requirements)
    (old new : BatchReading F) : Type 0 where
  pub first : new.batch.first ≡ old.batch.first
  pub next : next_of new.batch ≡ next_of old.batch + 1
  pub are_open : AreOpen place remaining failures shown new
  pub are_ready : sure → AreReady ready old.streams.items → AreReady ready new.streams.items
  pub gathered : AreGathered place remaining shown wants old
      → AreGathered place remaining shown wants new

-- nothing was added to the streams; and if the next file has stopped, nothing was changed
abbrev pub AddsNone : {F : Type 0} → BatchReading F → BatchReading F → FrontFault F → Type 0
AddsNone old new Memory = new.streams.items ≡ old.streams.items
AddsNone old new (Stopped fault file) = new ≡ old

-- a fact, if the next file has stopped
abbrev pub IfStopped : {F : Type 0} → FrontFault F → Type 0 → Type 0
IfStopped Memory fact = Unit {0}
IfStopped (Stopped fault file) fact = fact

-- the file at this place is read, if its octets are known
abbrev pub IsReadAt : Shown → Requirements → ℕ → Type 0
IsReadAt shown wants i = (path octets : List ℕ) → HasFileAt shown i path octets
    → IsReadBy wants.manifests.now path

-- STREAMS THAT HAVE ENDED

-- each has its sums; these are the sums
abbrev pub HaveSums : {F : Type 0} → List (Stream F) → Type 0
HaveSums {F} streams = (k : ℕ) (stream : Stream F) → slice_get streams k ≡ Some stream
    → stream.sums ≢ None

pub record AreSumsIn {F : Type 0} (streams : List (Stream F)) (sums : List Sums) : Type 0 where
  pub count : length sums ≡ length streams
  pub each : (k : ℕ) (stream : Stream F) (found : Sums) → slice_get streams k ≡ Some stream
      → stream.sums ≡ Some found → slice_get sums k ≡ Some found
