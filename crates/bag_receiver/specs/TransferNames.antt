-- Names of transfers.
use Rattle.std.specs.Prelude.{◌≡◌, ◌≤◌, ◌<◌, ◌||◌, ◌==◌, ℕ, Bool, true, List, Option, None, length}
use Rattle.std.specs.Char.{is_ascii_lowercase, is_ascii_digit}
use Rattle.std.specs.List.{list_all}
use Rattle.bag_ledger.specs.Ledgers.{Ledger, Transfer, transfer_of}
use Rattle.bag_receiver.specs.declared.transfer_name.TheConstants.{LONGEST_NAME}

-- a lowercase letter, a digit or `-`
abbrev pub is_of_names : ℕ → Bool
is_of_names octet = is_ascii_lowercase octet || is_ascii_digit octet || octet == 45

-- the text is a valid name: 1 to 64 such octets
pub record IsTransferName (text : List ℕ) : Type 0 where
  pub some : 0 < length text
  pub within : length text ≤ LONGEST_NAME
  pub octets : list_all is_of_names text ≡ true

-- This is the transfer with this name, if there is one. An invalid name names none, whatever the ledger holds: another
-- program may have written it.
pub record IsNamed (ledger : Ledger) (name : List ℕ) (transfer : Option Transfer) : Type 0 where
  pub named : IsTransferName name → transfer ≡ transfer_of ledger name
  pub unnamed : ¬ IsTransferName name → transfer ≡ None
