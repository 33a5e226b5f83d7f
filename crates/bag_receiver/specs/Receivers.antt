-- A receiver with any keeper.
use Rattle.std.specs.Prelude.{◌≡◌, ◌⊎◌, ℕ, List, map, string_bytes}
use Rattle.std.specs.BTreeMap.{BTreeMap}
use Rattle.std.specs.declared.alloc.Global.{Global}
use Rattle.std.specs.declared.string.String.{String}
use Rattle.bag_rules.specs.declared.plan.Plan.{Plan}
use Rattle.bag_rules.specs.Faults.{Has}
use Rattle.bag_ledger.specs.Ledgers.{Ledger}
use Rattle.bag_receiver.specs.declared.receiver.Receiver.{Receiver}
use Rattle.bag_receiver.specs.LedgerStates.{ArePlansIn, LedgerState}

-- each name with its plan
abbrev pub plans_in : BTreeMap (String Global) Plan → List (List ℕ × Plan)
plans_in plans =
    map (λ (entry : String Global × Plan). (string_bytes entry.0, entry.1)) plans.entries

module _ {K : Type 0} (holds may_leave : K → Ledger → Type 0) where
  -- this keeper holds the ledger, and a crash leaves it or a doubtful one
  pub record IsKept (keeper : K) (state : LedgerState) : Type 0 where
    pub held : holds keeper state.held
    pub left : (crashed : Ledger) → may_leave keeper crashed
        → (crashed ≡ state.held) ⊎ Has state.doubtful crashed

  -- this is what the receiver holds, and its plans are those of the transfers that exist
  pub record IsInState (receiver : Receiver K) (state : LedgerState) : Type 0 where
    pub kept : IsKept receiver.keeper state
    pub plans : ArePlansIn state.held (plans_in receiver.plans)

module _ {K : Type 0} (holds may_leave : K → Ledger → Type 0) (clean : K → Type 0) where
  -- this is so of what the receiver held before the call, if its keeper is clean after it
  abbrev pub SaysOfState : Receiver K → Receiver K → (LedgerState → Type 0) → Type 0
  SaysOfState old new so = clean new.keeper → (now : LedgerState)
      → IsInState holds may_leave old now → so now

  -- If its keeper is clean after the call, the receiver went by such a step from what it held to what it holds.
  pub record Does (old new : Receiver K) (step : LedgerState → LedgerState → Type 0) : Type 0 where
    pub was_clean : clean new.keeper → clean old.keeper
    pub leads : clean new.keeper → (before : LedgerState) → IsInState holds may_leave old before
        → (after : LedgerState) × IsInState holds may_leave new after × step before after
