use Rattle.std.proofs.Common.{◌≡◌, ◌<◌, ◌-◌, length}
use Rattle.bag_rules.specs.FileBatchInside.{next_of}
use Rattle.bag_rules.specs.BatchReading.{AreGathered, AreOpen, AreReady}
use Rattle.bag_rules.specs.OctetsRead.{AreKnown, Extends, KeepsListed, KnownOctets, KnowsFrom}
use Rattle.bag_rules.specs.Returning.{LeavesOut}
use Rattle.bag_rules.proofs.Words.{paths_in}
use Rattle.bag_rules.proofs.file_batch.read_batch.Given as goal

abbrev pub invariant-files : goal.invariant-files
invariant-files g l =
    let shown = g.T.Paths.shown l.fn.tree in
    let file = g.T.File in
    record {
      first : l.gathered.batch.first ≡ l.fn.first;
      next : l.place ≡ next_of l.gathered.batch;
      are_open : AreOpen file.OpenFile.place file.Source.remaining file.Source.failures shown l.gathered;
      ready : g.T.Tree.sure l.fn.tree → AreReady file.Source.ready l.gathered.streams.items;
      gathered : AreGathered file.OpenFile.place file.Source.remaining shown l.fn.wants l.gathered;
      known : (known : KnownOctets) → KnowsFrom l.fn.first shown l.fn.kept known → KeepsListed shown l.fn.wants.manifests.now l.fn.kept
          → (found : KnownOctets) × Extends known found × AreKnown file.OpenFile.place shown l.fn.kept l.fn.wants found l.gathered;
      count : l.count ≡ length (paths_in shown);
      inside : l.place < length (paths_in shown);
      out : LeavesOut g.T.Paths.shown g.T.Source.failures g.T.Tree.sure 0 (length l.gathered.streams.items) l.fn.tree l.tree;
      room : length l.buffer ≡ length l.fn.buffer;
    }

abbrev pub decreases-files : goal.decreases-files
decreases-files g l = length (paths_in (g.T.Paths.shown l.fn.tree)) - l.place
