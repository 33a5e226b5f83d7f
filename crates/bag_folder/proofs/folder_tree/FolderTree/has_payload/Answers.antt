use Rattle.std.proofs.Common.{◌∙◌, ap, sym}
use Rattle.std.specs.List.{list_any}
use Rattle.bag_path.specs.Paths.{is_payload}
use Rattle.bag_folder.specs.Folders.{FolderShown}
use Rattle.bag_folder.proofs.Listings.{paths_seen}
use Rattle.bag_folder.proofs.folder_tree.FolderTree.has_payload.Goals as goal

pub returns : goal.returns
returns g c =
    let seen = paths_seen _ c.args.self.now c.self.inside.paths.items c.self.inside.has_dir (ap (λ (tree : FolderShown). tree.shown) c.self.view_is) in
    c.has_payload.ensures ∙ ap (list_any is_payload) (c.deref.ensures.value ∙ sym seen)
