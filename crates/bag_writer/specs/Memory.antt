-- A sink in memory, in terms of what it holds.
use Rattle.std.specs.Prelude.{ℕ, Bool, Option, Some, None, is_some}
use Rattle.bag_digest.specs.Failures.{one_more}
use Rattle.bag_rules.specs.Bags.{Bag}
use Rattle.bag_rules.specs.Memory.{MemFiles}
use Rattle.bag_writer.specs.Sinks.{Stored, nothing_stored}

-- the files that it holds, and how often it has failed
pub record MemStored : Type 0 where
  pub stored : Stored
  pub failures : ℕ

-- nothing was written yet, and the sink hasn't failed
abbrev pub nothing_held : MemStored
nothing_held = record { stored = nothing_stored; failures = 0 }

-- what it holds is always known
abbrev pub known : MemStored → Option Stored
known sink = Some sink.stored

abbrev pub has_begun : MemStored → Bool
has_begun sink = is_some sink.stored.begun

-- any call that allocates memory may fail
abbrev pub IsNeverSure : MemStored → Type 0
IsNeverSure sink = ⊥

-- one more failure, up to the maximum
abbrev pub with_failure : MemStored → MemStored
with_failure sink = record sink { failures = one_more sink.failures }

-- the tree of the files of a bag, in which no file was started and no read has failed
abbrev pub tree_of : Bag → MemFiles
tree_of bag = record {
  files = bag.files;
  has_payload_dir = bag.has_payload_dir;
  started = None;
  failures = 0;
}
