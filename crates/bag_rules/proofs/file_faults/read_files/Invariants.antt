use Rattle.std.proofs.Common.{◌≡◌, ◌≤◌, ◌*◌, length, take}
use Rattle.bag_rules.specs.FileBatchInside.{AreRead, next_of}
use Rattle.bag_rules.specs.OctetsRead.{Extends, IsBagBy, KeepsListed, KnownOctets, KnowsFrom}
use Rattle.bag_rules.proofs.Words.{Adds, Bag, IsBagOf, IsLongRead, IsSizeOf, NoneStopsBefore, paths_in, shown_of, UsesTree}
use Rattle.bag_rules.proofs.FileReadLemmas.{IsFaultBefore}
use Rattle.bag_rules.proofs.file_faults.read_files.Given as goal

abbrev pub invariant-loop-i : goal.invariant-loop-i
invariant-loop-i g l =
    let shown = g.T.Paths.shown in
    record {
      size : (bag : Bag) → IsBagOf (shown l.fn.tree) bag → IsSizeOf (take l.i bag.files) l.size;
      added : (bag : Bag) → IsBagOf (shown l.fn.tree) bag → Adds l.fn.faults.items l.faults.items (IsFaultBefore l.i bag l.wants);
      none : (bag : Bag) → IsBagOf (shown l.fn.tree) bag → NoneStopsBefore l.i bag (IsLongRead l.wants.manifests.now);
      some : (known : KnownOctets) → KnowsFrom 0 (shown l.fn.tree) l.kept known → KeepsListed (shown l.fn.tree) l.wants.manifests.now l.kept
          → (found : KnownOctets) × Extends known found × KnowsFrom (next_of l.batch) (shown l.fn.tree) l.kept found
          × ((bag : Bag) → IsBagBy (shown l.fn.tree) found bag
          → IsSizeOf (take l.i bag.files) l.size × Adds l.fn.faults.items l.faults.items (IsFaultBefore l.i bag l.wants) × AreRead (shown_of bag) l.wants l.batch);
      first : l.batch.first ≤ l.i;
      used : UsesTree shown g.T.Source.failures g.T.Tree.sure l.fn.tree l.tree ⊥;
      read : AreRead (shown l.fn.tree) l.wants l.batch;
      few : l.size.streams ≤ l.i;
      small : l.size.octets ≤ l.i * 18446744073709551615;
      all : l.i-end ≡ length (paths_in (shown l.fn.tree));
      room : length l.buffer ≡ length l.fn.buffer;
    }
