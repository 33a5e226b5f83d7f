use Rattle.std.proofs.Common.{◌∙◌, List, ℕ, [], arith, below_more, get_or, subst, sym}
use Rattle.std.proofs.lemmas.List.{get_or_default}
use Rattle.bag_rules.specs.Opening.{HasInside, IsFirstPath, IsFolderAmong}
use Rattle.bag_rules.proofs.ClashLemmas.{AreInOrder, no_folder, first_is}
use Rattle.bag_rules.proofs.clash.first_folder.Goals.{After-deref-path-items}
use Rattle.bag_rules.proofs.clash.first_folder.Goals as goal

in_order : (c : After-deref-path-items) → AreInOrder c.args.paths.items c.deref-path-items.result.now
in_order c = subst (λ (paths : List (List ℕ)). AreInOrder c.args.paths.items paths) (sym c.deref-path-items.ensures.value)
    (record { sorted = c.sort_unstable.ensures.sorted; moved = c.sort_unstable.ensures.permutation })

pub returns-then-has_inside : goal.returns-then-has_inside
returns-then-has_inside c =
    let paths = c.deref-path-items.result.now in
    let same = c.deref.ensures.value ∙ sym c.deref-path-items.ensures.value in
    let inside = subst (λ (ps : List (List ℕ)). HasInside ps c.path-item.result) same (c.has_inside.ensures.0 c.if-has_inside.true) in
    subst (IsFirstPath (IsFolderAmong c.args.paths.items)) (sym c.in_ok-clone.ensures.cases)
    (first_is c.args.paths.items paths (in_order (goal.at.returns-then-has_inside c).After-deref-path-items) c.loop-path.path-index c.path-item.result c.loop-path-test.true c.path-item.is c.loop-path.invariant inside)

pub loop-path-preserved : goal.loop-path-preserved
loop-path-preserved c =
    let paths = c.deref-path-items.result.now in
    let same = c.deref.ensures.value ∙ sym c.deref-path-items.ensures.value in
    let placed = get_or_default paths c.loop-path.path-index [] c.path-item.result c.loop-path-test.true ∙ sym c.path-item.is in
    below_more (λ k. HasInside paths (get_or paths k []) → ⊥) c.loop-path.path-index c.loop-path.invariant
    (λ inside. let yes = c.has_inside.ensures.1 (subst (λ (ps : List (List ℕ)). HasInside ps c.path-item.result) (sym same) (subst (HasInside paths) placed inside)) in absurd (cc (yes, c.if-has_inside.false)))

pub returns : goal.returns
returns c =
    no_folder c.args.paths.items c.deref-path-items.result.now (in_order (goal.at.returns c).After-deref-path-items)
    (λ k within. c.loop-path.invariant k (omega (arith, within)))
