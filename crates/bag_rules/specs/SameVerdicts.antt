-- Verdicts that say the same.
use Rattle.std.specs.Prelude.{◌≡◌, string_bytes}
use Rattle.bag_rules.specs.declared.outcome.Outcome.{Outcome}
use Rattle.bag_rules.specs.declared.outcome.Outcome.TheVariants.{Judged, Outside}
use Rattle.bag_rules.specs.declared.scope.OutsideCause.{OutsideCause}
use Rattle.bag_rules.specs.declared.scope.OutsideCause.TheVariants.{Version, Encoding, Algorithm}

-- the same cause, and for an algorithm the same octets of its name
abbrev pub SameCause : OutsideCause → OutsideCause → Type 0
SameCause Version Version = Unit {0}
SameCause Encoding Encoding = Unit {0}
SameCause (Algorithm name) (Algorithm other) = string_bytes name ≡ string_bytes other
SameCause _ _ = ⊥

-- the same faults, or the same cause
abbrev pub SameVerdict : Outcome → Outcome → Type 0
SameVerdict (Judged faults) (Judged others) = faults ≡ others
SameVerdict (Outside cause) (Outside other) = SameCause cause other
SameVerdict _ _ = ⊥
