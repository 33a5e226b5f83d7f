-- What a call does to a keeper.
use Rattle.std.specs.Prelude.{◌≡◌, ◌⊎◌, ◌↔◌, ◌<◌, ◌≤◌, ℕ, List, Option, Some, None, Result, MatchResult, drop, length, take}
use Rattle.bag_digest.specs.Failures.{CountsIf}
use Rattle.bag_digest.specs.Reading.{GaveAll, GaveMoreThan, GaveWithin}
use Rattle.bag_rules.specs.declared.limits.TheConstants.{LARGEST_ITEM}
use Rattle.bag_rules.specs.declared.want.Want.{Want}
use Rattle.bag_rules.specs.declared.want.WantFault.TheVariants.{Length as OtherLength, Digest as OtherDigest}
use Rattle.bag_rules.specs.Wants.{IsWanted, IsFirstMisfitOf}
use Rattle.bag_ledger.specs.declared.keeper_faults.PutFault.{PutFault}
use Rattle.bag_ledger.specs.declared.keeper_faults.PutFault.TheVariants.{Reader, TooLarge, Length, Digest, Keep}
use Rattle.bag_ledger.specs.declared.keeper_faults.StoreFault.{StoreFault}
use Rattle.bag_ledger.specs.declared.keeper_faults.StoreFault.TheVariants.{Spent}
use Rattle.bag_rules.specs.Plans.{IsWantOf}
use Rattle.bag_ledger.specs.Ledgers.{Ledger, Transfer, content_of, transfer_of, with_item}

-- A keeper whose store is clean answers for the ledger that it holds, and for the ledgers that a crash may leave.
module _ {K : Type 0} (holds may_leave : K → Ledger → Type 0) (clean : K → Type 0) where
  -- The call made the change in every such ledger. A crash leaves the changed ledger.
  pub record Writes (such : Ledger → Type 0) (old new : K) (change : Ledger → Ledger) : Type 0 where
    pub was_clean : clean new → clean old
    pub held : clean new → (ledger : Ledger) → holds old ledger → such ledger
        → holds new (change ledger)
    pub left : clean new → (ledger crashed : Ledger) → holds old ledger → such ledger
        → may_leave new crashed → crashed ≡ change ledger

  -- The call left every such ledger unchanged. A crash leaves what it could leave before, or what
  -- the call was about to write.
  pub record Leaves (such : Ledger → Type 0) (old new : K) (about_to : Ledger → Ledger)
      : Type 0 where
    pub was_clean : clean new → clean old
    pub held : clean new → (ledger : Ledger) → holds old ledger → such ledger → holds new ledger
    pub left : clean new → (ledger crashed : Ledger) → holds old ledger → such ledger
        → may_leave new crashed → may_leave old crashed ⊎ (crashed ≡ about_to ledger)

  -- The call wrote nothing. A crash leaves what it could leave before.
  pub record Reads (old new : K) : Type 0 where
    pub was_clean : clean new → clean old
    pub held : clean new → (ledger : Ledger) → holds old ledger → holds new ledger
    pub left : clean new → (crashed : Ledger) → may_leave new crashed → may_leave old crashed

-- What a call does to the count of store failures. After the first failure, and never before, the only answer is
-- `Spent`.
pub record UsesStore {K : Type 0} (failures : K → ℕ) (spent : K → Type 0) (old new : K)
    (failed : StoreFault → Type 0) : Type 0 where
  pub counted : CountsIf ((fault : StoreFault) × failed fault) (failures old) (failures new)
  pub spent_before : spent old → failed Spent
  pub spent_first : failed Spent → spent old
  pub spent_now : spent new ↔ ((fault : StoreFault) × failed fault)

-- OPENING TRANSFERS

-- no transfer has this name
abbrev pub IsUnused : List ℕ → Ledger → Type 0
IsUnused name ledger = transfer_of ledger name ≡ None

-- STORING CONTENTS

-- The content to be stored: given whole and within the limit; or longer than the limit; or cut short by a failed read.
-- If the keeper has no answer, the part given so far is within the limit.
pub record Given : Type 1 where
  pub whole : List ℕ → Type 0
  pub too_large : Type 0
  pub failed : Type 0
  pub within : Type 0

-- a content in memory
abbrev pub known : List ℕ → Given
known octets = record {
  whole = λ content. (content ≡ octets) × (length octets ≤ LARGEST_ITEM);
  too_large = LARGEST_ITEM < length octets;
  failed = ⊥;
  within = Unit {0};
}

-- what a source gave
abbrev pub given_by : Option (List ℕ) → Option (List ℕ) → Given
given_by old new = record {
  whole = GaveAll old new LARGEST_ITEM;
  too_large = GaveMoreThan old new LARGEST_ITEM;
  failed = GaveWithin old new LARGEST_ITEM;
  within = GaveWithin old new LARGEST_ITEM;
}

-- the whole content is the wanted one
abbrev pub IsGiven : Given → Want → List ℕ → Type 0
IsGiven given want content = given.whole content × IsWanted want content

-- the first reason why the content isn't stored; a fault of the keeper says nothing about the content
abbrev pub RefusesGiven : Given → Want → PutFault → Type 0
RefusesGiven given want Reader = given.failed
RefusesGiven given want TooLarge = given.too_large
RefusesGiven given want Length = (content : List ℕ) × given.whole content
    × IsFirstMisfitOf want content OtherLength
RefusesGiven given want (Digest alg) = (content : List ℕ) × given.whole content
    × IsFirstMisfitOf want content (OtherDigest alg)
RefusesGiven given want (Keep fault) = given.within

-- the transfer exists, wants this payload file and doesn't hold it yet
pub record Awaits (name : List ℕ) (want : Want) (ledger : Ledger) : Type 0 where
  pub transfer : Transfer
  pub there : transfer_of ledger name ≡ Some transfer
  pub wanted : IsWantOf transfer.tags want.path.now want
  pub not_held : content_of ledger name want.path.now ≡ None

-- the store failed, or memory ran out
abbrev pub IsKeep : PutFault → Type 0
IsKeep (Keep fault) = Unit {0}
IsKeep fault = ⊥

-- the content would be stored, or it is refused
abbrev pub Tests : Given → Want → Result Unit PutFault → Type 0
Tests given want result = MatchResult result
    (λ done. (content : List ℕ) × IsGiven given want content) (RefusesGiven given want)

module _ {K : Type 0} (holds may_leave : K → Ledger → Type 0) (clean : K → Type 0) (old new : K)
    (given : Given) (name : List ℕ) (want : Want) where
  -- this content was stored
  pub record HasPut (content : List ℕ) : Type 0 where
    pub is_given : IsGiven given want content
    pub writes : Writes holds may_leave clean (Awaits name want) old new
        (λ ledger. with_item ledger name want.path.now content)

  -- the keeper failed while storing this content
  pub record MayPut (fault : PutFault) (content : List ℕ) : Type 0 where
    pub keep : IsKeep fault
    pub is_given : IsGiven given want content
    pub leaves : Leaves holds may_leave clean (Awaits name want) old new
        (λ ledger. with_item ledger name want.path.now content)

  -- The content is stored, or it is refused. If refused, nothing was written, or the keeper failed
  -- while storing it.
  abbrev pub Puts : Result Unit PutFault → Type 0
  Puts result = MatchResult result (λ done. (content : List ℕ) × HasPut content)
      (λ fault. RefusesGiven given want fault
      × (Reads holds may_leave clean old new ⊎ ((content : List ℕ) × MayPut fault content)))

-- PIECES

-- the first n octets of the buffer are those of the content from the offset on; zero means the end
pub record IsPieceAt (content : List ℕ) (offset n : ℕ) (buffer : List ℕ) : Type 0 where
  pub bound : n ≤ length buffer
  pub octets : take n buffer ≡ take n (drop offset content)
  pub some : offset < length content → 0 < length buffer → 0 < n
