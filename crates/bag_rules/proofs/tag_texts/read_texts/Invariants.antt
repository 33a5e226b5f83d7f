use Rattle.std.proofs.Common.{◌≡◌, length}
use Rattle.bag_rules.specs.KeptInside.{AreKept}
use Rattle.bag_rules.proofs.Words.{Adds, AreTextsOf, Bag, HasBadLine, IsBagOf, NoneStopsBefore, paths_in, TextStops, UsesTree}
use Rattle.bag_rules.specs.Bags.{declaration_file, version_of}
use Rattle.bag_rules.specs.OctetsRead.{Extends, IsBagBy, KeepsOnly, KnownOctets, KnowsFrom}
use Rattle.bag_rules.proofs.KnownTexts.{AreKeptBefore}
use Rattle.bag_rules.proofs.tag_texts.read_texts.Given as goal

abbrev pub invariant-loop-i : goal.invariant-loop-i
invariant-loop-i g l =
    let shown = g.T.Paths.shown in
    record {
      read : (bag : Bag) → IsBagOf (shown l.fn.tree) bag → version_of bag ≡ l.version → AreTextsOf l.i bag l.texts;
      faulty : (bag : Bag) → IsBagOf (shown l.fn.tree) bag → version_of bag ≡ l.version → Adds l.fn.faults.items l.faults.items (HasBadLine l.i bag);
      limits : (bag : Bag) → IsBagOf (shown l.fn.tree) bag → NoneStopsBefore l.i bag TextStops;
      some : (known : KnownOctets) → KnowsFrom 0 (shown l.fn.tree) l.fn.kept known → KeepsOnly (shown l.fn.tree) l.fn.kept (λ path. path ≡ declaration_file)
          → (found : KnownOctets) × Extends known found × KnowsFrom 0 (shown l.fn.tree) l.kept found × AreKeptBefore l.i (shown l.fn.tree) l.kept × (l.kept.set ≡ l.fn.kept.set)
          × ((bag : Bag) → IsBagBy (shown l.fn.tree) found bag → version_of bag ≡ l.version → AreTextsOf l.i bag l.texts × Adds l.fn.faults.items l.faults.items (HasBadLine l.i bag));
      kept : AreKept (shown l.fn.tree) l.fn.kept → AreKept (shown l.fn.tree) l.kept;
      used : UsesTree shown g.T.Source.failures g.T.Tree.sure l.fn.tree l.tree ⊥;
      all : l.i-end ≡ length (paths_in (shown l.fn.tree));
      room : length l.buffer ≡ length l.fn.buffer;
    }
