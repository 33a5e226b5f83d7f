use Rattle.std.proofs.Common.{◌≡◌, ◌∙◌, ℕ, List, Some, ap, string_bytes, subst}
use Rattle.bag_rules.specs.Trees.{paths_in}
use Rattle.bag_folder.specs.Directories.{IsBelow, Listing}
use Rattle.bag_folder.specs.Folders.{FolderShown, disk_of, octets_below, shown_by}
use Rattle.bag_folder.specs.Unfits.{TroublesShown}
use Rattle.bag_folder.proofs.BagLemmas.{bag_shown}
use Rattle.bag_folder.proofs.FaultLemmas.{refused_on_disk}
use Rattle.bag_folder.proofs.Listings.{below_in_order}
use Rattle.bag_folder.proofs.folder_tree.FolderTree.open_at.Goals as goal

pub returns-in-Err-clause-refused : goal.returns-in-Err-clause-refused
returns-in-Err-clause-refused g c = refused_on_disk (disk_of (g.D.Directories.listing c.args.disk.now) (g.R.Names.standing c.args.rt)) c.args.folder.now c.args.root c.in-Err.fault c.on_disk.result c.in-Err.ensures c.on_disk.ensures

pub returns-clause-opened : goal.returns-clause-opened
returns-clause-opened g c =
    let folder : string_bytes c.in_ok-folder.folder ≡ c.args.folder.now = c.in_ok-folder.ensures.ok in
    let is = c.tree_of.ensures.rest in
    let disk = disk_of (g.D.Directories.listing c.args.disk.now) (g.R.Names.standing c.args.rt) in
    let shown = c.tree_of.result.shown in
    let shows : (listing : Listing) → disk.listing ≡ Some listing
    → IsBelow listing c.args.folder.now (paths_in shown) shown.has_payload_dir = λ listing known.
    below_in_order listing c.args.folder.now c.in-Ok.below.paths.items (paths_in shown)
    c.in-Ok.below.has_dir shown.has_payload_dir (c.in-Ok.ensures listing known)
    c.tree_of.ensures.paths c.tree_of.ensures.payload in
    let gives : shown ≡ shown_by (octets_below disk.standing c.args.folder.now c.args.root)
    (paths_in shown) shown.has_payload_dir =
    subst (λ (name : List ℕ). shown ≡ shown_by (octets_below disk.standing name c.args.root)
    (paths_in shown) shown.has_payload_dir) folder c.tree_of.ensures.gives in
    record {
      named = ap (λ (tree : FolderShown). tree.folder) is ∙ folder;
      placed = ap (λ (tree : FolderShown). tree.root) is;
      stands = ap (λ (tree : FolderShown). tree.standing) is;
      closed = ap (λ (tree : FolderShown). tree.to_read) is;
      not_failed = ap (λ (tree : FolderShown). tree.failures) is ∙ ap (λ (troubles : TroublesShown). troubles.failures) c.in_ok-troubles.ensures;
      no_trouble = ap (λ (tree : FolderShown). tree.trouble) is ∙ ap (λ (troubles : TroublesShown). troubles.last) c.in_ok-troubles.ensures;
      shows = shows;
      gives = gives;
      is_bag = λ bag. bag_shown disk c.args.folder.now c.args.root shown bag shows
          c.tree_of.ensures.in_order gives;
    }
