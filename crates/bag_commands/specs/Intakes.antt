-- What a receiver takes in from several couriers in sequence.
use Rattle.std.specs.Prelude.{◌≡◌, ◌≢◌, ◌≤◌, ◌∷◌, [], ℕ, List, Option, length}
use Rattle.bag_ledger.specs.Ledgers.{Ledger}
use Rattle.bag_rules.specs.Files.{Files}
use Rattle.bag_receiver.specs.declared.receiver.Receiver.{Receiver}
use Rattle.bag_receiver.specs.declared.run.End.{End}
use Rattle.bag_receiver.specs.declared.run.End.TheVariants.{Courier, Done}
use Rattle.bag_receiver.specs.declared.run.TheConstants.{MOST_DELIVERIES}
use Rattle.bag_receiver.specs.Couriers.{AreBrought, AreTold, CallsNext, courier_failures}
use Rattle.bag_receiver.specs.Deliveries.{Delivery}
use Rattle.bag_receiver.specs.Runs.{CountsEach, Runs}
use Rattle.bag_commands.specs.IntakeTexts.{Told}

-- What was reported of a courier's run: these are the answers to its items, as far as they were delivered, for the
-- transfer with this name. A failure of the courier or of the store is reported only if that counted it.
pub record IsRun {K C : Type 0} (holds may_leave : K → Ledger → Type 0) (clean : K → Type 0)
    (store_failures : K → ℕ) (coming : C → Option Files) (failures nexts : C → ℕ)
    (is_steady : C → Type 0) (name : List ℕ) (old new : Receiver K) (before after : C)
    (told : Told) : Type 0 where
  pub runs : (deliveries : List Delivery) × AreTold deliveries told.paths told.answers
      × AreBrought (coming before) deliveries told.ended
      × Runs holds may_leave clean store_failures old new name deliveries
  pub within : length told.answers ≤ MOST_DELIVERIES
  pub failed : CountsEach (courier_failures told.answers told.ended)
      (failures before) (failures after)
  pub called : CallsNext (length told.answers) (nexts before) (nexts after)
  pub steady : is_steady before → told.ended ≢ Courier

-- the first if everything was delivered, otherwise the second
abbrev pub IfDone : End → Type 0 → Type 0 → Type 0
IfDone Done goes_on stops = goes_on
IfDone ended goes_on stops = stops

-- A receiver took in what these couriers delivered, one after another, and this was reported of the runs. The first run
-- that ended before everything was delivered was the last, and the couriers after it weren't called.
abbrev pub TakesIn : {R C : Type 0} → (R → R → C → C → Told → Type 0) → List C → List C
    → List Told → R → R → Type 0
TakesIn runs [] [] [] old new = new ≡ old
TakesIn runs (courier ∷ couriers) (later ∷ laters) (told ∷ more) old new =
    (next : _) × runs old next courier later told
    × IfDone told.ended (TakesIn runs couriers laters more next new)
    ((laters ≡ couriers) × (more ≡ []) × (new ≡ next))
TakesIn runs couriers laters told old new = ⊥
