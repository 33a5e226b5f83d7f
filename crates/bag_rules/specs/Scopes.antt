-- What the declaration of a bag and the names of its manifests say.
use Rattle.std.specs.Prelude.{◌≡◌, ◌∷◌, []}
use Rattle.bag_rules.specs.declared.scope.Scope.{Scope}
use Rattle.bag_rules.specs.declared.scope.Scope.TheVariants.{Known, Unknown, Broken}
use Rattle.bag_rules.specs.Bags.{Bag, version_of}
use Rattle.bag_rules.specs.Verdicts.{IsInScope, IsJudged, IsOutside}

-- the bag is in scope and its tag files are read by this version; or it can't be judged, for this cause; or this
-- one fault is the verdict on it
abbrev pub HasScope : Bag → Scope → Type 0
HasScope bag (Known version) = IsInScope bag × (version_of bag ≡ version)
HasScope bag (Unknown cause) = IsOutside bag cause × ¬ IsInScope bag
HasScope bag (Broken fault) = IsJudged bag (fault ∷ []) × ¬ IsInScope bag
