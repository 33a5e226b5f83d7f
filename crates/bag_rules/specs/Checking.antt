-- What a check of a tree returns.
use Rattle.std.specs.Prelude.{ℕ, IfOk, IsErrOf, MatchResult, Result}
use Rattle.bag_rules.specs.Bags.{Bag, IsBagOf, IsSomeBagOf}
use Rattle.bag_rules.specs.Limits.{Stopped, Stops}
use Rattle.bag_rules.specs.Validity.{Means}
use Rattle.bag_rules.specs.Verdicts.{AnswersPaths, IsVerdict}
use Rattle.bag_rules.specs.declared.outcome.Outcome.{Outcome}
use Rattle.bag_rules.specs.declared.outcome.CheckFault.{CheckFault}
use Rattle.bag_rules.specs.declared.outcome.CheckFault.TheVariants.{Tree}
use Rattle.bag_rules.specs.Trees.{Shown, UsesTree, paths_in}

-- The verdict on some bag that has the files of the tree and, where their octets are known, these. What a report says of
-- validity and completeness is said of this bag.
pub record IsVerdictOnSome (shown : Shown) (outcome : Outcome) : Type 0 where
  pub bag : Bag
  pub is_bag : IsSomeBagOf shown bag
  pub verdict : IsVerdict bag outcome
  pub meaning : Means bag outcome

pub record ChecksTree {T : Type 0} (shown : T → Shown) (failures : T → ℕ) (sure : T → Type 0)
    (old new : T) (answer : Result Outcome CheckFault) : Type 0 where
  -- What is returned for a bag is the verdict on it.
  pub verdict : (bag : Bag) → IsBagOf (shown old) bag → IfOk answer (IsVerdict bag)
  -- Whatever octets the tree gives, what is returned is the verdict on one bag. So no answer mixes two readings.
  pub some : IfOk answer (IsVerdictOnSome (shown old))
  -- A report without faults means a valid bag, and one with no faults but wrong digests a complete bag.
  pub meaning : (bag : Bag) → IsBagOf (shown old) bag → IfOk answer (Means bag)
  -- A limit is returned exactly if it is the first one that the check meets.
  pub limits : (bag : Bag) → IsBagOf (shown old) bag → MatchResult answer
      (λ outcome. (fault : CheckFault) → ¬ Stops bag fault) (Stopped (Stops bag))
  -- It is a failure of the tree exactly if the tree counted one, and never for a sure tree.
  pub tree : UsesTree shown failures sure old new (IsErrOf answer Tree)
  -- In two cases the octets need not be known: there are too many files, or there is no declaration.
  pub unread : AnswersPaths (paths_in (shown old)) answer
