use Rattle.std.proofs.Common.{ap, sym, subst}
use Rattle.bag_rules.specs.Trees.{AreRising}
use Rattle.bag_folder.specs.Folders.{FolderShown}
use Rattle.bag_folder.proofs.Listings.{paths_seen}
use Rattle.bag_folder.proofs.folder_tree.FolderTreePaths.count.Goals as goal

pub returns-clause-rising : goal.returns-clause-rising
returns-clause-rising g c =
    let seen = paths_seen _ c.args.self.now c.self.inside.paths.items c.self.inside.has_dir (ap (λ (tree : FolderShown). tree.shown) c.self.view_is) in
    subst AreRising (sym seen) c.self.invariant.rising
