-- What calls that read a tree do to it, one after another.
use Rattle.std.proofs.Common.{◌≡◌, ◌∙◌, ℕ, Result, Ok, Err, IfErr, IsErrOf, ap, refl, subst, sym}
use Rattle.bag_rules.proofs.Words.{CheckFault, CountsIf, Shown, Tree, UsesTree}
use Rattle.bag_rules.specs.declared.outcome.CheckFault.TheVariants.{Memory}

err_again : {X Y : Type 0} {y z : CheckFault} → IsErrOf {T = X} (Err y) z → IsErrOf {T = Y} (Err y) z
err_again {X} {Y} {y} {z} e = let k : y ≡ z = cc in ap Err k

module _ {T : Type 0} {shown : T → Shown} {failures : T → ℕ} {sure : T → Type 0} where
  -- nothing was done
  pub uses_none : {a : T} {F : Type 0} → ¬ F → UsesTree shown failures sure a a F
  uses_none not = record {
    same = refl;
    counted = record { rises = λ f. absurd (not f); stays = λ n. refl };
    stays_sure = λ s. (s, not);
  }

  -- the same for another result
  uses_so : {a b : T} {F G : Type 0} → UsesTree shown failures sure a b F → (F → G) → (G → F) → UsesTree shown failures sure a b G
  uses_so p there back = record {
    same = p.same;
    counted = record { rises = λ g. p.counted.rises (back g); stays = λ n. p.counted.stays (λ f. n (there f)) };
    stays_sure = λ s. ((p.stays_sure s).0, (λ g. (p.stays_sure s).1 (back g)));
  }

  -- if neither result is a failure of the tree, and if an error is passed on
  pub uses_kept : {a b : T} {F G : Type 0} → UsesTree shown failures sure a b F → ¬ F → ¬ G → UsesTree shown failures sure a b G
  uses_kept p not other = uses_so p (λ f. absurd (not f)) (λ g. absurd (other g))

  pub uses_error : {a b : T} {X Y : Type 0} {y : CheckFault} → UsesTree shown failures sure a b (IsErrOf {T = X} (Err y) Tree) → UsesTree shown failures sure a b (IsErrOf {T = Y} (Err y) Tree)
  uses_error {a} {b} {X} {Y} p = uses_so p (λ e. err_again {X = X} {Y = Y} e) (λ e. err_again {X = Y} {Y = X} e)

  -- a call that didn't fail, and then another
  pub uses_on : {a b c : T} {F G : Type 0} → UsesTree shown failures sure a b F → ¬ F → UsesTree shown failures sure b c G → UsesTree shown failures sure a c G
  uses_on {a} {b} {c} {F} {G} p not q = record {
    same = q.same ∙ p.same;
    counted = subst (λ n. CountsIf G n (failures c)) (p.counted.stays not) q.counted;
    stays_sure = λ s. q.stays_sure (p.stays_sure s).0;
  }

-- `Memory` is not a failure of the tree
pub not_tree : {X : Type 0} (r : Result X CheckFault) → IfErr r (λ fault. fault ≡ Memory) → ¬ IsErrOf r Tree
not_tree (Ok x) memory e = cc
not_tree (Err fault) memory e = let k : fault ≡ Tree = cc in let m : Memory ≡ Tree = sym memory ∙ k in cc
