use Rattle.std.proofs.Common.{◌≡◌, ◌↔◌, ◌||◌, ℕ, List, Contains, arith, string_bytes, subst, sym}
use Rattle.std.proofs.lemmas.Grind.{common_steps}
use Rattle.std.specs.List.{list_any}
use Rattle.bag_path.specs.Paths.{is_payload}
use Rattle.bag_folder.specs.Folders.{IsListing, octets_below}
use Rattle.bag_folder.proofs.Listings.{listing_of, paths_shown, shown_again}
use Rattle.bag_folder.proofs.folder_tree.tree_of.Goals as goal
use Rattle.bag_folder.proofs.folder_tree.tree_of.Goals.{then-below, else-below}

pub invariant_of-result : goal.invariant_of-result
invariant_of-result g c =
    let below = c.args.below in
    let has_dir = c.if-below.has_dir in
    let is : has_dir ≡ (below.has_dir || list_any is_payload below.paths.items) = elim c.if-below.branch [ then-below w ↦ grind (arith, common_steps) | else-below w ↦ grind (arith, common_steps) ] in
    listing_of below.has_dir has_dir below.paths.items c.in_order.result.items is
    c.in_order.ensures.rising c.in_order.ensures.kept

pub returns-clause-paths : goal.returns-clause-paths
returns-clause-paths g c = λ path.
    let octets = octets_below (g.R.Names.standing c.args.rt) (string_bytes c.args.folder) c.args.root in
    subst (λ (paths : List (List ℕ)). Contains paths path ↔ Contains c.args.below.paths.items path) (sym (paths_shown octets c.in_order.result.items c.if-below.has_dir)) (c.in_order.ensures.kept path)

pub returns-clause-gives : goal.returns-clause-gives
returns-clause-gives g c =
    shown_again (octets_below (g.R.Names.standing c.args.rt) (string_bytes c.args.folder) c.args.root) c.in_order.result.items c.if-below.has_dir

pub returns-clause-in_order : goal.returns-clause-in_order
returns-clause-in_order g c =
    let below = c.args.below in
    let once = c.in_order.result.items in
    let has_dir = c.if-below.has_dir in
    let octets = octets_below (g.R.Names.standing c.args.rt) (string_bytes c.args.folder) c.args.root in
    let is : has_dir ≡ (below.has_dir || list_any is_payload below.paths.items) = elim c.if-below.branch [ then-below w ↦ grind (arith, common_steps) | else-below w ↦ grind (arith, common_steps) ] in
    subst (λ (paths : List (List ℕ)). IsListing paths has_dir) (sym (paths_shown octets once has_dir))
    (listing_of below.has_dir has_dir below.paths.items once is c.in_order.ensures.rising c.in_order.ensures.kept)
