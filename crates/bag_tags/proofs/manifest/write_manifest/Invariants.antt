use Rattle.std.proofs.Common.{◌≡◌, take}
use Rattle.std.specs.List.{AllByRecursion}
use Rattle.bag_tags.specs.ManifestWriting.{written_manifest}
use Rattle.bag_tags.specs.ManifestWriting.{CanBeWritten}
use Rattle.bag_tags.proofs.manifest.write_manifest.Given as goal

abbrev pub invariant-loop-pair : goal.invariant-loop-pair
invariant-loop-pair l = record {
  written : l.octets.items ≡ written_manifest (take l.pair-index l.pair-items);
  pairs : AllByRecursion CanBeWritten (take l.pair-index l.pair-items);
}
