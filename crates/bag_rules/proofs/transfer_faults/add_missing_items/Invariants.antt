use Rattle.std.proofs.Common.{take}
use Rattle.bag_rules.specs.FilesInside.{IsPayloadMissing, OfSome}
use Rattle.bag_rules.specs.Plans.{item_paths}
use Rattle.bag_rules.proofs.Words.{Adds, AreRising}
use Rattle.bag_rules.proofs.transfer_faults.add_missing_items.Given as goal

abbrev pub invariant-loop-manifest : goal.invariant-loop-manifest
invariant-loop-manifest l = AreRising (item_paths l.sizes) → Adds l.fn.faults.items l.faults.items (OfSome (take l.manifest-index l.manifests) (IsPayloadMissing (item_paths l.sizes)))
