-- What a transaction that stores a payload file did.
use Rattle.std.specs.Prelude.{◌≡◌, ◌≢◌, ℕ, ℤ, List, Option, Some, Ok, Err, Result}
use Rattle.std.specs.List.{concat}
use Rattle.bag_digest.specs.Reading.{GaveAll, read_fault}
use Rattle.bag_digest.specs.declared.sums.Sums.{Sums}
use Rattle.bag_ledger.specs.PutFaults.{misfit_fault, put_fault}
use Rattle.bag_ledger.specs.declared.keeper_faults.KeepFault.{KeepFault}
use Rattle.bag_ledger.specs.declared.keeper_faults.PutFault.{PutFault}
use Rattle.bag_ledger.specs.declared.keeper_faults.PutFault.TheVariants.{Keep}
use Rattle.bag_rules.specs.Wants.{AreSumsFor}
use Rattle.bag_rules.specs.declared.limits.TheConstants.{LARGEST_ITEM}
use Rattle.bag_rules.specs.declared.want.Want.{Want}
use Rattle.sqlite.specs.Tree.{Trees}
use Rattle.sqlite.specs.declared.error.Error.{Error}
use Rattle.sqlite.specs.declared.error.Error.TheVariants.{SqliteFailure}
use Rattle.sqlite.specs.declared.error.ErrorCode.TheVariants.{OutOfMemory}
use Rattle.bag_sqlite.specs.LedgersInTables.{AreCut, NumberedItem}
use Rattle.bag_sqlite.specs.Putting.{HasOneItemMore}
use Rattle.bag_sqlite.specs.Tables.{Origin}
use Rattle.bag_sqlite.specs.declared.putting.NotPut.{NotPut}
use Rattle.bag_sqlite.specs.declared.putting.NotPut.TheVariants.{Source, Misfit, Store}

-- a source was read to its end: the pieces that it gave, their total length and their digests
pub record HasRead (old new : Option (List ℕ)) (want : Want) (found : Sums)
    (pieces : List (List ℕ)) : Type 0 where
  pub gave : GaveAll old new LARGEST_ITEM (concat pieces)
  pub cut : AreCut pieces
  pub sums : AreSumsFor want (concat pieces) found

-- a payload file by its parts
abbrev pub in_pieces : ℤ → List ℕ → List (List ℕ) → NumberedItem
in_pieces number path pieces = record { number = number; path = path; pieces = pieces }

-- a payload file with this path and this content is added
pub record HasContentMore (origin : Origin) (old new : Trees) (transfer : ℤ) (path content : List ℕ)
    : Type 0 where
  pub number : ℤ
  pub pieces : List (List ℕ)
  pub cut : AreCut pieces
  pub joined : concat pieces ≡ content
  pub more : HasOneItemMore origin old new transfer (in_pieces number path pieces)

-- what a keeper answers, if it reports a failure of its store as this fault
abbrev pub put_fault_of : KeepFault → NotPut → PutFault
put_fault_of told (Source fault) = put_fault (read_fault fault)
put_fault_of told (Misfit fault) = misfit_fault fault
put_fault_of told (Store error) = Keep told

abbrev pub answer_of : KeepFault → Result Unit NotPut → Result Unit PutFault
answer_of told (Ok done) = Ok done
answer_of told (Err refusal) = Err (put_fault_of told refusal)

-- The error that a keeper remembers of its store, before and after this came of a payload file: that of the store, if
-- it had one and memory was not wanting.
abbrev pub IsRemembered : Option Error → Option Error → NotPut → Type 0
IsRemembered old new (Source fault) = new ≡ old
IsRemembered old new (Misfit fault) = new ≡ old
IsRemembered old new (Store error) = (error ≡ SqliteFailure OutOfMemory → new ≡ old)
    × (error ≢ SqliteFailure OutOfMemory → new ≡ Some error)
