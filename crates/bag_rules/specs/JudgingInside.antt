-- How a bag is judged. Only private functions cite these; Verdicts defines the verdict.
use Rattle.std.specs.Prelude.{◌≡◌, ◌<◌, ℕ, false, List, IsSome, None, Some, slice_get}
use Rattle.bag_tags.specs.declared.declaration.Declaration.{Declaration}
use Rattle.bag_tags.specs.Declarations.{version_of}
use Rattle.bag_tags.specs.Names.{IsUnknownManifest}
use Rattle.bag_rules.specs.declared.scope.OutsideCause.{OutsideCause}
use Rattle.bag_rules.specs.declared.scope.OutsideCause.TheVariants.{Version, Encoding, Algorithm}

-- the declaration is of another version or of another encoding
abbrev pub MatchOutside : OutsideCause → Declaration → Type 0
MatchOutside Version declaration = version_of declaration ≡ None
MatchOutside Encoding declaration = IsSome (version_of declaration) × (declaration.utf8 ≡ false)
MatchOutside (Algorithm name) declaration = ⊥

-- none of the first n paths is that of a manifest with an unknown algorithm
abbrev pub NoneUnknown : List (List ℕ) → ℕ → Type 0
NoneUnknown paths n = (i : ℕ) (path word : List ℕ) → i < n → slice_get paths i ≡ Some path
    → ¬ IsUnknownManifest path word

-- the algorithm of the first such manifest
pub record IsFirstUnknownOf (paths : List (List ℕ)) (word : List ℕ) : Type 0 where
  pub place : ℕ
  pub path : List ℕ
  pub there : slice_get paths place ≡ Some path
  pub unknown : IsUnknownManifest path word
  pub before : NoneUnknown paths place
