use Rattle.std.proofs.Common.{List, ℕ, sym, subst, ◌∙◌, ◌↔◌, IsTrue, rules}
use Rattle.bag_rules.specs.ClashInside.{beside_folder}
use Rattle.bag_rules.specs.Opening.{HasInside}
use Rattle.bag_rules.proofs.Words.{always_returns_same, IsBinarySearchResult}
use Rattle.bag_rules.proofs.FolderLemmas.{found_inside, inside_found}
use Rattle.bag_rules.proofs.clash.has_inside.Goals as goal

searched : (c : goal.After-is_ok) → IsBinarySearchResult (beside_folder c.as_bytes-folder.result.now) c.args.paths.now c.binary_search_by.result
searched c = c.binary_search_by.ensures.position (beside_folder c.as_bytes-folder.result.now) (always_returns_same _ _ _ (λ a r g called. search rules))

pub returns : goal.returns
returns c =
    let paths = c.args.paths.now in
    let folder = c.as_bytes-folder.result.now in
    subst (λ (path : List ℕ). IsTrue c.is_ok.result ↔ HasInside paths path) (c.as_bytes-folder.ensures.value ∙ c.as_str.ensures.text) (
      λ yes. found_inside paths folder c.requires c.binary_search_by.result c.binary_search_by.ensures.bound (searched c) (sym c.is_ok.ensures.value ∙ yes),
      λ inside. c.is_ok.ensures.value ∙ inside_found paths folder c.requires c.binary_search_by.result c.binary_search_by.ensures.bound (searched c) inside,
    )
