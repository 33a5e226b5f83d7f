use Rattle.std.proofs.Common.{◌≡◌, refl, subst}
use Rattle.bag_folder.specs.Folders.{FolderShown, octets_below, shown_by}
use Rattle.bag_folder.proofs.OpenFileLemmas.{given_out}
use Rattle.bag_folder.proofs.folder_tree.FolderTreeOpenTree.open_file.Goals as goal

pub returns-clause-opened : goal.returns-clause-opened
returns-clause-opened g c =
    let paths = c.self.inside.paths.items in
    let has_dir = c.self.inside.has_dir in
    given_out c.args.self.now paths has_dir c.args.i c.in_ok-file.file
    (subst (λ (tree : FolderShown).
    shown_by (octets_below tree.standing tree.folder tree.root) paths has_dir ≡ tree.shown)
    c.self.view_is refl) c.in_ok-file.ensures
