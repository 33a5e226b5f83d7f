-- Payload files that are read, and tested later, when the digests of several are taken together. Only private functions
-- cite these.
use Rattle.std.specs.Prelude.{◌≡◌, ◌++◌, ◌∷◌, ◌⊎◌, [], ℕ, ℤ, List, Vec}
use Rattle.std.specs.List.{AllByRecursion}
use Rattle.std.specs.declared.alloc.Global.{Global}
use Rattle.bag_rules.specs.Files.{Files}
use Rattle.bag_rules.specs.Wants.{CoversWant, IsWanted}
use Rattle.bag_rules.specs.declared.want.Want.{Want}
use Rattle.sqlite.specs.Effect.{Database}
use Rattle.sqlite.specs.Store.{Ghosts}
use Rattle.bag_sqlite.specs.Adopting.{ItemPasses}
use Rattle.bag_sqlite.specs.Refusing.{ItemFails}
use Rattle.bag_sqlite.specs.declared.short_items.ShortItems.{ShortItems}
use Rattle.bag_sqlite.specs.declared.format.Format.{Format}
use Rattle.bag_ledger.specs.declared.finding.Finding.{Finding}
use Rattle.bag_ledger.specs.declared.finding.Finding.TheVariants.{Valid, Damaged, Untested}

-- it has no file
abbrev pub IsEmpty : ShortItems → Type 0
IsEmpty batch = (batch.held.known.items ≡ []) × (batch.held.contents.items ≡ [])

-- the algorithms by which the paths are listed are in the set
abbrev pub AreCovered : ShortItems → Type 0
AreCovered batch = AllByRecursion (CoversWant batch.held.set) batch.held.known.items

-- one file more
pub record HasOneMore (want : Want) (content : Vec ℕ Global) (old new : ShortItems) : Type 0 where
  pub wants : new.held.known.items ≡ old.held.known.items ++ want ∷ []
  pub contents : new.held.contents.items ≡ old.held.contents.items ++ content ∷ []
  pub covered : AreCovered old → AreCovered new

-- each content is the one that is wanted
abbrev pub AreWanted : List Want → List (Vec ℕ Global) → Type 0
AreWanted [] contents = Unit {0}
AreWanted (want ∷ wants) [] = Unit {0}
AreWanted (want ∷ wants) (content ∷ contents) = IsWanted want content.items
    × AreWanted wants contents

-- the first content that isn't the one that is wanted has this path
abbrev pub HasMisfit : List Want → List (Vec ℕ Global) → List ℕ → Type 0
HasMisfit [] contents path = ⊥
HasMisfit (want ∷ wants) [] path = ⊥
HasMisfit (want ∷ wants) (content ∷ contents) path =
    ((¬ IsWanted want content.items) × (want.path.now ≡ path))
    ⊎ (IsWanted want content.items × HasMisfit wants contents path)

module _ {S : Type 0} (g : Ghosts S) (db : Database) (format : Format) where
  -- the payload file is valid, or it isn't; or it is exactly if this is the content that is wanted
  abbrev pub FindsItem : Files → ℤ → List ℕ → ℤ → Finding → Type 0
  FindsItem tags item path size Valid = ItemPasses g db format tags item path size
  FindsItem tags item path size Damaged = ItemFails g db format tags item path size
  FindsItem tags item path size (Untested want content) = (want.path.now ≡ path)
      × (IsWanted want content.items → ItemPasses g db format tags item path size)
      × ((¬ IsWanted want content.items) → ItemFails g db format tags item path size)
