use Rattle.std.proofs.Common.{◌↔◌, Bool, Contains, IsTrue, subst, sym, rules}
use Rattle.bag_rules.specs.Plans.{item_paths}
use Rattle.bag_rules.specs.declared.plan.ItemSize.{ItemSize}
use Rattle.bag_rules.proofs.Words.{always_returns_same}
use Rattle.bag_rules.proofs.SearchLemmas.{against, told}
use Rattle.bag_rules.proofs.transfer_faults.is_held.Goals as goal

pub returns : goal.returns
returns c = λ rising.
    let sizes = c.args.sizes.now in
    let path = c.args.path.now in
    let path_of = λ (size : ItemSize). size.path in
    let looked = c.binary_search_by in
    subst (λ (b : Bool). IsTrue b ↔ Contains (item_paths sizes) path) (sym c.is_ok.ensures.value)
    (told path_of sizes path rising looked.result looked.ensures.bound (looked.ensures.position (against path_of sizes path) (always_returns_same _ _ _ (λ a r g called. search rules))))
