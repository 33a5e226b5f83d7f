-- How the fields of a sink in memory show what it holds, and what is always true of them.
use Rattle.std.specs.Prelude.{◌≡◌, ℕ, List, Some}
use Rattle.std.specs.Option.{option_map}
use Rattle.bag_rules.specs.Memory.{bag_in}
use Rattle.bag_writer.specs.Memory.{MemStored, tree_of}
use Rattle.bag_writer.specs.Sinks.{Begun}
use Rattle.bag_writer.specs.declared.mem_sink_file.BegunFile.{BegunFile}
use Rattle.bag_writer.specs.declared.mem_sink_file.MemSinkFile.{MemSinkFile}
use Rattle.bag_writer.specs.declared.mem_sink.MemSink.TheInside.{Inside}

abbrev pub begun_by : BegunFile → Begun
begun_by file = record { path = file.path; octets = file.octets.items }

abbrev pub view_of : Inside → MemStored
view_of sink = record {
  stored = record { bag = bag_in sink.ended; begun = option_map begun_by sink.begun };
  failures = sink.failures;
}

-- no file of the tree was started, and no read has failed
pub record IsSoundSink (sink : Inside) : Type 0 where
  pub tree : sink.ended ≡ tree_of (bag_in sink.ended)

-- the file has this path and these octets
abbrev pub IsInFile : MemSinkFile → List ℕ → List ℕ → Type 0
IsInFile file path octets =
    option_map begun_by file.begun ≡ Some (record { path = path; octets = octets })
