-- What is found of a payload file that was read again.
use Rattle.std.specs.Prelude.{◌≡◌, ◌≤◌, ℕ, List, length}
use Rattle.bag_digest.specs.declared.buffers.TheConstants.{PIECE}
use Rattle.bag_rules.specs.Wants.{IsWanted}
use Rattle.bag_rules.specs.declared.want.Want.{Want}
use Rattle.bag_ledger.specs.declared.finding.Finding.{Finding}
use Rattle.bag_ledger.specs.declared.finding.Finding.TheVariants.{Damaged, Untested, Valid}

-- this is found of a file with these octets: whether they are wanted, or the octets
abbrev pub FindsContent : Want → List ℕ → Finding → Type 0
FindsContent want octets Valid = IsWanted want octets
FindsContent want octets Damaged = ¬ IsWanted want octets
FindsContent want octets (Untested same content) = (same ≡ want) × (content.items ≡ octets)

-- the content that is still to be tested has at most one piece
abbrev pub HoldsLittle : Finding → Type 0
HoldsLittle Valid = Unit {0}
HoldsLittle Damaged = Unit {0}
HoldsLittle (Untested want content) = length content.items ≤ PIECE
