-- What is found in the files with which a transfer is to be opened.
use Rattle.std.specs.Prelude.{◌≡◌, ◌⊎◌, [], List, ℕ, Contains, Some, length, map, nat_lt, slice_get, if◌then◌else◌}
use Rattle.std.specs.Map.{keys_of}
use Rattle.bag_rules.specs.declared.limits.TheConstants.{LARGEST_TAG_FILE}
use Rattle.bag_rules.specs.declared.plan_fault.PlanFault.{PlanFault}
use Rattle.bag_rules.specs.declared.plan_fault.PlanFault.TheVariants as plan
use Rattle.bag_rules.specs.declared.plan.Plan.{Plan}
use Rattle.bag_rules.specs.Files.{Files, IsTagPath}
use Rattle.bag_rules.specs.Plans.{IsPlanOf}
use Rattle.bag_rules.specs.Transfers.{with_files}
use Rattle.bag_rules.specs.Trees.{Shown, octets_in, paths_in}
use Rattle.bag_ledger.specs.declared.keeper_faults.KeepFault.TheVariants.{Memory}
use Rattle.bag_receiver.specs.declared.begin.BeginFault.{BeginFault}
use Rattle.bag_receiver.specs.declared.begin.BeginFault.TheVariants.{TagTooLarge, Outside, Rules, Clash, Tree, Keeper}
use Rattle.bag_receiver.specs.Beginning.{AreTaken, RefusesFiles}
use Rattle.bag_receiver.specs.BeginningFrom.{MayBeHeavy}

-- the fault of a plan, as a fault of `begin`
abbrev pub begin_fault : PlanFault → BeginFault
begin_fault (plan.TagTooLarge path) = TagTooLarge path
begin_fault (plan.Outside cause) = Outside cause
begin_fault (plan.Rules fault) = Rules fault
begin_fault (plan.Clash path) = Clash path
begin_fault plan.Memory = Keeper Memory

-- nothing in place of too many octets
unfoldable pub emptied : List ℕ → List ℕ
emptied octets = if nat_lt LARGEST_TAG_FILE (length octets) then [] else octets

-- the files, in which each one with too many octets is empty
abbrev pub lightened : Files → Files
lightened given = map (λ (file : List ℕ × List ℕ). (file.0, emptied file.1)) given

-- these files by path
abbrev pub light_tags : Files → Files
light_tags given = with_files [] (lightened given)

-- the files are refused for this reason, or memory ran out
abbrev pub IsRefusal : Files → BeginFault → Type 0
IsRefusal given fault = (fault ≡ Keeper Memory) ⊎ RefusesFiles given fault

-- why the file at this index of a tree was not read to its end, as a tag file
abbrev pub IsMetAt : Shown → ℕ → BeginFault → Type 0
IsMetAt shown i Tree = Unit {0}
IsMetAt shown i (TagTooLarge path) = (slice_get (paths_in shown) i ≡ Some path)
    × MayBeHeavy (octets_in shown i)
IsMetAt shown i (Keeper fault) = fault ≡ Memory
IsMetAt shown i fault = ⊥

-- a transfer can be opened with these tag files, and this is their plan
abbrev pub OpenWith : Files → Plan → Type 0
OpenWith tags plan = AreTaken tags tags × IsPlanOf tags plan

-- a file with this path may be added to the tag files
abbrev pub IsPlaced : Files → List ℕ → Type 0
IsPlaced tags path = IsTagPath path × ¬ Contains (keys_of tags) path
