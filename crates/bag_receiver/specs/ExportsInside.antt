-- How a bag is exported, file by file. (These definitions describe private functions.)
use Rattle.std.specs.Prelude.{◌≡◌, ◌⊎◌, ℕ, List, Option, length}
use Rattle.std.specs.Map.{keys_of}
use Rattle.std.specs.Option.{option_map}
use Rattle.bag_rules.specs.Files.{Files}
use Rattle.bag_rules.specs.Trees.{AreRising}
use Rattle.bag_writer.specs.PayloadSteps.{Writes}
use Rattle.bag_writer.specs.Sinks.{Stored, with_payload_dir}
use Rattle.bag_writer.specs.Steps.{ArePart}
use Rattle.bag_ledger.specs.Ledgers.{Ledger, items_of}
use Rattle.bag_receiver.specs.declared.export.ExportFault.{ExportFault}
use Rattle.bag_receiver.specs.declared.export.ExportFault.TheVariants.{NoTransfer}

-- these are the payload files that the keeper holds in the transfer with this name, by path
abbrev pub HasItems : {K : Type 0} → (K → Ledger → Type 0) → K → List ℕ → Files → Type 0
HasItems holds keeper name files = (ledger : Ledger) × holds keeper ledger
    × (items_of ledger name ≡ files) × AreRising (keys_of files)

-- what the sink holds once it has its payload directory
abbrev pub from_opened : Option Stored → Option Stored
from_opened known = option_map with_payload_dir known

-- nothing was written, or the payload directory and then part of the files
abbrev pub IsPartOf : Files → Option Stored → Option Stored → Type 0
IsPartOf files old new = (new ≡ old) ⊎ ArePart files (from_opened old) new

-- this many octets were written to the file that was begun
abbrev pub WritesAsMany : ℕ → Option Stored → Option Stored → Type 0
WritesAsMany n old new = (octets : List ℕ) × (n ≡ length octets) × Writes octets old new

-- a fault that can occur while files are written
abbrev pub IsMetWriting : ExportFault → Type 0
IsMetWriting NoTransfer = ⊥
IsMetWriting fault = Unit {0}
