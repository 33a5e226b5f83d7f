use Rattle.std.proofs.Common.{◌≡◌, ◌<◌, ◌∙◌, ℕ, List, ap, ap₂, length, refl, subst}
use Rattle.std.proofs.lemmas.Option.{slice_get_read}
use Rattle.bag_folder.specs.Directories.{name_below}
use Rattle.bag_folder.specs.Folders.{FolderShown, path_below}
use Rattle.bag_folder.proofs.Listings.{paths_seen}
use Rattle.bag_folder.proofs.OpenFileLemmas.{file_so, opens_file}
use Rattle.bag_folder.proofs.folder_tree.FolderTree.file_at.Goals as goal

pub returns : goal.returns
returns g c =
    let tree = c.args.self.now in
    let paths = c.self.inside.paths.items in
    let path = c.index.result.now in
    let seen = paths_seen _ tree paths c.self.inside.has_dir
    (ap (λ (shown : FolderShown). shown.shown) c.self.view_is) in
    let at = slice_get_read paths (length paths) c.args.i path refl
    (subst (λ (others : List (List ℕ)). c.args.i < length others) seen c.requires)
    c.index.ensures in
    let folder : c.as_str.result.now ≡ tree.folder =
    c.as_str.ensures.value ∙ ap (λ (shown : FolderShown). shown.folder) c.self.view_is in
    let below : c.path_below-below.result.now ≡ path_below tree.root path =
    c.path_below-below.ensures
    ∙ ap₂ path_below (ap (λ (shown : FolderShown). shown.root) c.self.view_is)
    c.as_str-path.ensures.text in
    opens_file tree paths c.args.i path c.open.result seen at
    (file_so _ tree.standing _ (name_below tree.folder (path_below tree.root path)) c.args.i
    c.open.result (ap (λ (shown : FolderShown). shown.standing) c.self.view_is)
    (ap₂ name_below folder below) c.open.ensures)
