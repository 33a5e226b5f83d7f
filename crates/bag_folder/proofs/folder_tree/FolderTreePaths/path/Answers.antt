use Rattle.std.proofs.Common.{◌≡◌, ◌<◌, ℕ, List, Some, ap, length, refl, sym, subst}
use Rattle.std.specs.List.{slice_get}
use Rattle.std.proofs.lemmas.Option.{slice_get_read}
use Rattle.bag_folder.specs.Folders.{FolderShown}
use Rattle.bag_folder.proofs.Listings.{paths_seen}
use Rattle.bag_folder.proofs.folder_tree.FolderTreePaths.path.Goals as goal

pub returns : goal.returns
returns g c =
    let seen = paths_seen _ c.args.self.now c.self.inside.paths.items c.self.inside.has_dir (ap (λ (tree : FolderShown). tree.shown) c.self.view_is) in
    subst (λ (paths : List (List ℕ)). slice_get paths c.args.i ≡ Some c.index.result.now) (sym seen)
    (slice_get_read c.self.inside.paths.items (length c.self.inside.paths.items) c.args.i c.index.result.now refl (subst (λ (paths : List (List ℕ)). c.args.i < length paths) seen c.requires) c.index.ensures)
