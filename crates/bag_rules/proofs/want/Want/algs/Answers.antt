use Rattle.std.proofs.Common.{◌≡◌, ◌||◌, ◌+◌, ◌++◌, ◌∷◌, [], ◌∙◌, true, false, is_some, sym, ap, subst, take, rules}
use Rattle.bag_rules.proofs.Words.{Alg, has, is_alg, Listing, lists_by, lists_path, take_more}
use Rattle.bag_rules.proofs.FileFaultLemmas.{one_lists, none_lists}
use Rattle.bag_rules.proofs.ListedLemmas.{listed_or_not}
use Rattle.bag_rules.proofs.want.Want.algs.Goals as goal
use Rattle.bag_rules.proofs.want.Want.algs.Goals.{then-is_some, else-is_some}

pub loop-manifest-preserved : goal.loop-manifest-preserved
loop-manifest-preserved c =
    let listings = c.args.self.now.manifests.now in
    let listing = c.manifest-item.result in
    let path = c.args.self.now.path.now in
    let before = take c.loop-manifest.manifest-index listings in
    let more : take (c.loop-manifest.manifest-index + 1) listings ≡ before ++ listing ∷ [] =
    take_more listings c.loop-manifest.manifest-index listing c.loop-manifest-test.true ∙ ap (λ (l : Listing). before ++ l ∷ []) (sym c.manifest-item.is) in
    let listed : lists_path listing.pairs path ≡ is_some c.get.result = listed_or_not listing.pairs path c.get.result (sym c.get.ensures.listed) in
    subst (λ ls. (alg : Alg) → has c.if-is_some.set alg ≡ lists_by ls path alg) (sym more)
    (elim c.if-is_some.branch [
      | then-is_some w ↦
          let some : is_some c.get.result ≡ true = search rules in
          one_lists before listing path c.loop-manifest.set c.if-is_some.set (listed ∙ some) c.loop-manifest.invariant
          (λ alg. ap (λ s. has s alg) w.set-is ∙ w.with-set.ensures alg ∙ ap (λ a. is_alg a alg || has c.loop-manifest.set alg) w.alg.ensures)
      | else-is_some w ↦
          let none : is_some c.get.result ≡ false = search rules in
          none_lists before listing path c.if-is_some.set (listed ∙ none) (subst (λ s. (alg : Alg) → has s alg ≡ lists_by before path alg) (sym w.set-is) c.loop-manifest.invariant)
    ])
