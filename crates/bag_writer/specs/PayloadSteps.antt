-- How the payload is read and written, file by file. Only private functions cite these.
use Rattle.std.specs.Prelude.{◌≡◌, ◌++◌, ◌∷◌, ◌<◌, ◌≤◌, [], ℕ, Bool, true, false, List, Option, Some, None, Result, Vec, IfErr, IsErrOf, MatchResult, length, take}
use Rattle.std.specs.Io.KnownBytes.{Consumes}
use Rattle.std.specs.Option.{option_map}
use Rattle.std.specs.declared.alloc.Global.{Global}
use Rattle.bag_digest.specs.Reading.{AreSums, GaveAll}
use Rattle.bag_digest.specs.declared.algorithm.AlgSet.{AlgSet}
use Rattle.bag_digest.specs.declared.reading.SourceFault.{SourceFault}
use Rattle.bag_digest.specs.declared.reading.SourceFault.TheVariants as source
use Rattle.bag_digest.specs.declared.reading.SourceRead.{SourceRead}
use Rattle.bag_digest.specs.declared.reading.SourceRead.TheVariants.{Whole, Hashed}
use Rattle.bag_rules.specs.Files.{Files}
use Rattle.bag_rules.specs.Trees.{Shown}
use Rattle.bag_rules.specs.declared.limits.TheConstants.{LARGEST_FILE}
use Rattle.bag_writer.specs.Sinks.{Stored, UsesClosedSink, with_octets}
use Rattle.bag_writer.specs.Steps.{AreItemsOf, ArePart, AreWhole, HasFrontOf, HasNoFile, NamesLong, ReadsPayload, written_payload}
use Rattle.bag_writer.specs.Writing.{HasLongFile, IsMetLater, IsReadFrom}
use Rattle.bag_writer.specs.declared.item.Item.{Item}
use Rattle.bag_writer.specs.declared.sink.Sink.{Ghosts as SinkOf}
use Rattle.bag_writer.specs.declared.spec.Spec.{Spec}
use Rattle.bag_writer.specs.declared.too_large.Large.{Large}
use Rattle.bag_writer.specs.declared.too_large.Large.TheVariants.{File}
use Rattle.bag_writer.specs.declared.write_fault.WriteFault.{WriteFault}
use Rattle.bag_writer.specs.declared.write_fault.WriteFault.TheVariants.{Sink, TooLarge, Tree}
use Rattle.bag_writer.specs.declared.payload.CopyFault.{CopyFault}
use Rattle.bag_writer.specs.declared.payload.CopyFault.TheVariants as copy

-- OCTETS FROM A SOURCE TO A SINK

-- these octets were found: they are at the front of the buffer, or these are their sums
abbrev pub IsFoundOf : AlgSet → List ℕ → SourceRead → List ℕ → Type 0
IsFoundOf set buffer (Whole n) octets = (n ≤ length buffer) × (take n buffer ≡ octets)
IsFoundOf set buffer (Hashed sums) octets = AreSums sums set octets

-- what was found is within the buffer, if it is there
abbrev pub IsInBuffer : List ℕ → SourceRead → Type 0
IsInBuffer buffer (Whole n) = n ≤ length buffer
IsInBuffer buffer (Hashed sums) = Unit {0}

-- the source was read to its end, within the limit of a file, and these octets were found
pub record IsReadWhole (set : AlgSet) (source left : Option (List ℕ)) (buffer : List ℕ)
    (found : SourceRead) (octets : List ℕ) : Type 0 where
  pub gave : GaveAll source left LARGEST_FILE octets
  pub found_is : IsFoundOf set buffer found octets

-- why a file isn't copied to its end whose source has stopped
abbrev pub copy_fault : SourceFault → CopyFault
copy_fault source.Read = copy.Tree
copy_fault source.TooLarge = copy.TooLarge

-- the source gave these octets before the fault; if the fault is `TooLarge`, they are more than a file may have
pub record IsReadUntil (source left : Option (List ℕ)) (fault : CopyFault)
    (octets : List ℕ) : Type 0 where
  pub gave : Consumes source left octets
  pub long : fault ≡ copy.TooLarge → LARGEST_FILE < length octets

-- all of the octets, or some of the first ones, were written to the file that was begun
abbrev pub Writes : List ℕ → Option Stored → Option Stored → Type 0
Writes octets old new = new ≡ option_map (with_octets octets) old

abbrev pub WritesFront : List ℕ → Option Stored → Option Stored → Type 0
WritesFront octets old new = (n : ℕ) × Writes (take n octets) old new

-- ONE FILE

-- a front of the file is there, whatever follows these octets in it
abbrev pub HasFrontFrom : List ℕ → List ℕ → Option Stored → Option Stored → Type 0
HasFrontFrom path octets old new = (rest : List ℕ)
    → HasFrontOf (Some (path, octets ++ rest)) old new

-- the file, unless it is a hole
abbrev pub unless_hole : Bool → List ℕ × List ℕ → Files
unless_hole true file = []
unless_hole false file = file ∷ []

-- these are the octets that are known, if any are
abbrev pub AreOctetsOf : Option (List ℕ) → List ℕ → Type 0
AreOctetsOf None octets = Unit {0}
AreOctetsOf (Some known) octets = octets ≡ known

-- the file is the one that a tree shows
abbrev pub IsReadAs : List ℕ × Option (List ℕ) → List ℕ × List ℕ → Type 0
IsReadAs shown file = (file.0 ≡ shown.0) × AreOctetsOf shown.1 file.1

-- this path and these octets were found of the file, which isn't too large and was written unless it is a hole
pub record IsTaken (set : AlgSet) (is_hole : Bool) (file : List ℕ × List ℕ)
    (old new : Option Stored) (buffer : List ℕ) (found : List ℕ × SourceRead) : Type 0 where
  pub path_is : found.0 ≡ file.0
  pub found_is : IsFoundOf set buffer found.1 file.1
  pub within : length file.1 ≤ LARGEST_FILE
  pub written : AreWhole (unless_hole is_hole file) old new

-- the file is too large and named if that is the fault, and a front of it was written unless it is a hole
pub record IsCutShort (is_hole : Bool) (file : List ℕ × List ℕ)
    (old new : Option Stored) (fault : WriteFault) : Type 0 where
  pub long : (large : Large) → fault ≡ TooLarge large
      → (large ≡ File file.0) × (LARGEST_FILE < length file.1)
  pub written : ArePart (unless_hole is_hole file) old new

-- ALL FILES

-- This was written of some payload, which is that of the tree's bag if that is known: all of it, with these items, or
-- part of it, with a fault.
abbrev pub IsWrittenOf : Shown → Spec → Option Stored → Option Stored
    → Result (Vec Item Global) WriteFault → Type 0
IsWrittenOf shown spec old new result = (payload : Files) × IsReadFrom shown payload
    × MatchResult result (λ items. AreItemsOf spec.algs items.items payload
    × (¬ HasLongFile payload LARGEST_FILE) × AreWhole (written_payload spec payload) old new)
    (λ fault. NamesLong File payload LARGEST_FILE fault
    × ArePart (written_payload spec payload) old new)

-- what writing the payload promises
pub record WritesPayload {T S : Type 0} (shown : T → Shown) (failures : T → ℕ)
    (sure : T → Type 0) (s : SinkOf S) (spec : Spec) (tree_old tree_new : T)
    (sink_old sink_new : S) (result : Result (Vec Item Global) WriteFault) : Type 0 where
  pub written : IsWrittenOf (shown tree_old) spec (s.stored sink_old) (s.stored sink_new) result
  pub err : IfErr result IsMetLater
  pub tree : ReadsPayload shown failures sure tree_old tree_new (IsErrOf result Tree)
  pub sink : UsesClosedSink s.is_open s.failures s.sure sink_old sink_new
      ((s.is_open sink_old ≡ false) × HasNoFile (s.stored sink_old)) result
      (IsErrOf result Sink)
