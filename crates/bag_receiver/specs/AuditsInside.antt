-- What is found of payload files that are read again. Only private functions cite these.
use Rattle.std.specs.Prelude.{◌≡◌, ◌≤◌, ℕ, List, length}
use Rattle.bag_rules.specs.Files.{Files}
use Rattle.bag_rules.specs.Plans.{IsWantOf}
use Rattle.bag_rules.specs.Wants.{IsWanted}
use Rattle.bag_rules.specs.declared.limits.TheConstants.{LARGEST_ITEM as LARGEST}
use Rattle.bag_rules.specs.declared.plan.ItemSize.{ItemSize}
use Rattle.bag_ledger.specs.declared.finding.Finding.{Finding}
use Rattle.bag_ledger.specs.declared.finding.Finding.TheVariants.{Damaged, Untested, Valid}
use Rattle.bag_receiver.specs.Holdings.{SomePass}
use Rattle.bag_receiver.specs.declared.audit.Untested.{Untested as Known}

-- the file is valid, or will be found so
abbrev pub PassesTest : Finding → Type 0
PassesTest Valid = Unit {0}
PassesTest Damaged = ⊥
PassesTest (Untested want content) = IsWanted want content.items

-- this content of a file is to be tested
pub record IsKnownOf (tags : Files) (known : Known) (octets : List ℕ) : Type 0 where
  pub want_of : IsWantOf tags known.size.path known.want
  pub sized : known.size.octets ≡ length octets
  pub within : length octets ≤ LARGEST

-- whatever the store gave: some octets of the file's number are valid, or are to be tested
abbrev pub TellsSome : Files → ItemSize → Finding → Type 0
TellsSome tags size Valid = SomePass tags size.path size.octets
TellsSome tags size Damaged = Unit {0}
TellsSome tags size (Untested want content) =
    IsKnownOf tags (record { size = size; want = want }) content.items
