use Rattle.std.proofs.Common.{◌≡◌, ℕ, List, Contains, true, ap, subst}
use Rattle.std.proofs.lemmas.List.Elements.{All-contains}
use Rattle.bag_path.specs.Paths.{is_payload}
use Rattle.bag_folder.specs.Folders.{FolderShown}
use Rattle.bag_folder.proofs.Listings.{paths_seen}
use Rattle.bag_folder.proofs.folder_tree.FolderTreePaths.has_payload_dir.Goals as goal

pub returns-clause-payload : goal.returns-clause-payload
returns-clause-payload g c = λ path here.
    let seen = paths_seen _ c.args.self.now c.self.inside.paths.items c.self.inside.has_dir (ap (λ (tree : FolderShown). tree.shown) c.self.view_is) in
    All-contains (λ (p : List ℕ). is_payload p ≡ true → c.self.inside.has_dir ≡ true) c.self.inside.paths.items path c.self.invariant.payload (subst (λ (paths : List (List ℕ)). Contains paths path) seen here)
