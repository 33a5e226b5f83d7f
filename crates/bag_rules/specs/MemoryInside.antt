-- How the fields of a tree in memory show its files, and what is always true of them.
use Rattle.std.specs.Prelude.{◌≡◌, ◌<◌, ℕ, true, List, Option, All, drop, length, slice_get, nat_le, ◌+◌, if◌then◌else◌}
use Rattle.std.specs.Option.{ForSome, option_map, option_and_then}
use Rattle.std.specs.Map.{values_of}
use Rattle.bag_path.specs.Paths.{is_payload}
use Rattle.bag_rules.specs.declared.file.File.{File}
use Rattle.bag_rules.specs.declared.mem_tree.Reading.{Reading}
use Rattle.bag_rules.specs.declared.mem_tree.MemTree.TheInside.{Inside}
use Rattle.bag_rules.specs.Files.{files_of, paths_of}
use Rattle.bag_rules.specs.Trees.{AreRising}
use Rattle.bag_rules.specs.Memory.{MemFiles}

-- what is left of the file that is being read
abbrev pub rest_of : List File → Option Reading → Option (List ℕ)
rest_of files reading = option_and_then (λ r.
    option_map (drop r.at) (slice_get (values_of (files_of files)) r.place)) reading

abbrev pub view_of : Inside → MemFiles
view_of tree = record {
  files = files_of tree.files.items;
  has_payload_dir = tree.has_payload_dir;
  started = rest_of tree.files.items tree.reading;
  failures = tree.failures;
}

-- the same file after another one was inserted at this place
abbrev pub moved_up : ℕ → Reading → Reading
moved_up place reading = record reading {
  place =
      (if nat_le place reading.place then reading.place + 1 else reading.place);
}

-- the paths are in ascending order, the payload directory is there if a payload file is, and what is read is one of the
-- files
pub record IsSoundTree (tree : Inside) : Type 0 where
  pub rising : AreRising (paths_of tree.files.items)
  pub payload : All (λ path. is_payload path ≡ true → tree.has_payload_dir ≡ true)
      (paths_of tree.files.items)
  pub reading : ForSome tree.reading (λ r. r.place < length tree.files.items)
