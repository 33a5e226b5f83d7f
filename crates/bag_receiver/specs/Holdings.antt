-- Held payload files, as the receiver reads them again.
use Rattle.std.specs.Prelude.{◌≡◌, ℕ, List, Some, length}
use Rattle.bag_digest.specs.Failures.{CountsIf}
use Rattle.bag_rules.specs.declared.plan.ItemSize.{ItemSize}
use Rattle.bag_rules.specs.declared.plan.Plan.{Plan}
use Rattle.bag_rules.specs.Files.{Files}
use Rattle.bag_rules.specs.Plans.{IsPlanOf, sizes_of}
use Rattle.bag_rules.specs.Transfers.{AreHeldFor, Passes}
use Rattle.bag_ledger.specs.Keeping.{Reads}
use Rattle.bag_ledger.specs.Ledgers.{Ledger, content_of, items_of}
use Rattle.bag_ledger.specs.declared.keeper_faults.StoreFault.{StoreFault}

-- the keeper holds this content for the path in the transfer with this name
abbrev pub HasItem : {K : Type 0} → (K → Ledger → Type 0) → K → List ℕ → List ℕ → List ℕ → Type 0
HasItem holds keeper name path content = (ledger : Ledger) × holds keeper ledger
    × (content_of ledger name path ≡ Some content)

-- the plan is that of the transfer with this name, and what is held is valid
abbrev pub IsPlanFor : Ledger → List ℕ → Plan → Type 0
IsPlanFor ledger name plan = (tags : Files) × IsPlanOf tags plan
    × AreHeldFor tags (items_of ledger name)

-- some octets of this number are valid at this path
abbrev pub SomePass : Files → List ℕ → ℕ → Type 0
SomePass tags path n = (octets : List ℕ) × (n ≡ length octets) × Passes tags path octets

-- these are the sizes of payload files that are valid
abbrev pub AreValidSizes : Files → List ItemSize → Type 0
AreValidSizes tags sizes = (items : Files) × AreHeldFor tags items × (sizes ≡ sizes_of items)

-- What reading held files does to the keeper: nothing is written, and a failure of the store is counted exactly if one
-- is the answer.
pub record ReadsKeeper {K : Type 0} (holds may_leave : K → Ledger → Type 0) (clean : K → Type 0)
    (failures : K → ℕ) (old new : K) (failed : StoreFault → Type 0) : Type 0 where
  pub reads : Reads holds may_leave clean old new
  pub counted : CountsIf ((fault : StoreFault) × failed fault) (failures old) (failures new)
