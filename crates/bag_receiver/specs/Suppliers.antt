-- Suppliers, and what is fetched from them (RFC 8493 section 2.2.3).
use Rattle.std.specs.Prelude.{◌≡◌, ◌⊎◌, ◌+◌, ◌++◌, ◌∷◌, [], ℕ, Bool, true, false, List, Option, Some, None}
use Rattle.std.specs.Map.{keys_of}
use Rattle.bag_tags.specs.declared.fetch.FetchLine.{FetchLine}
use Rattle.bag_rules.specs.Faults.{Has}
use Rattle.bag_rules.specs.Plans.{AreFetchLines}
use Rattle.bag_ledger.specs.Ledgers.{Ledger, Transfer}
use Rattle.bag_receiver.specs.declared.answer.Answer.{Answer}
use Rattle.bag_receiver.specs.declared.answer.Answer.TheVariants as answer
use Rattle.bag_receiver.specs.declared.answer.DeliverFault.TheVariants.{Reader}
use Rattle.bag_receiver.specs.declared.fetch.FetchAnswer.{FetchAnswer}
use Rattle.bag_receiver.specs.declared.fetch.FetchAnswer.TheVariants.{Taken, NotSupplied, SupplierFailed, Refused}
use Rattle.bag_receiver.specs.declared.fetch.FetchOutcome.{FetchOutcome}
use Rattle.bag_receiver.specs.Couriers.{IsOf}
use Rattle.bag_receiver.specs.Deliveries.{Content, Delivery, delivery_of}
use Rattle.bag_receiver.specs.TransferNames.{IsNamed}

-- WHAT A SUPPLIER HAS, if it is known

-- the content for a url and a path, if there is one
abbrev pub Supply : Type 0
Supply = List ℕ → List ℕ → Option (List ℕ)

-- it said whether it has what it was asked for; if so, this is the content
abbrev pub IsSupplied : Option Supply → List ℕ → List ℕ → Bool → Option (List ℕ) → Type 0
IsSupplied None url path has content = Unit {0}
IsSupplied (Some supply) url path true content = (octets : List ℕ)
    × (supply url path ≡ Some octets) × (content ≡ Some octets)
IsSupplied (Some supply) url path false content = supply url path ≡ None

-- ONE ENTRY

-- the result of asking
pub data Reply : Type 0 where
  -- the supplier doesn't have it
  Without : Reply
  -- it failed
  Failing : Reply
  -- what it supplied was delivered, and had this answer
  Delivered : Content → Answer → Reply

-- an entry of `fetch.txt` that was asked for
pub record Round : Type 0 where
  pub line : ℕ
  pub url : List ℕ
  pub path : List ℕ
  pub reply : Reply

abbrev pub told : Reply → FetchAnswer
told Without = NotSupplied
told Failing = SupplierFailed
told (Delivered content (answer.Refused fault)) = Refused fault
told (Delivered content accepted) = Taken

abbrev pub outcome_of : Round → FetchOutcome
outcome_of round = record { line = round.line; path = round.path; answer = told round.reply }

-- what was delivered is what the supplier has, and what it has is delivered
abbrev pub IsReply : Option Supply → List ℕ → List ℕ → Reply → Type 0
IsReply None url path reply = Unit {0}
IsReply (Some supply) url path Without = supply url path ≡ None
IsReply (Some supply) url path Failing = Unit {0}
IsReply (Some supply) url path (Delivered content answer) = (octets : List ℕ)
    × (supply url path ≡ Some octets) × IsOf octets content

abbrev pub IsGotFrom : Option Supply → Round → Type 0
IsGotFrom supply round = IsReply supply round.url round.path round.reply

-- the delivery that was made, if there was one
abbrev pub delivery_by : List ℕ → Reply → List Delivery
delivery_by path (Delivered content answer) = delivery_of path content answer ∷ []
delivery_by path reply = []

abbrev pub deliveries_by : List Round → List Delivery
deliveries_by [] = []
deliveries_by (round ∷ rounds) = delivery_by round.path round.reply ++ deliveries_by rounds

-- ALL ENTRIES

-- the round is for this line
pub record IsFor (line : FetchLine) (round : Round) : Type 0 where
  pub line_is : round.line ≡ line.line
  pub url_is : round.url ≡ line.entry.url
  pub path_is : round.path ≡ line.entry.path

-- the paths that are held after this outcome for a path
abbrev pub held_after : FetchAnswer → List ℕ → List (List ℕ) → List (List ℕ)
held_after Taken path held = path ∷ held
held_after answer path held = held

-- Exactly the lines whose path isn't held when they are reached have a round, in order.
abbrev pub Reaches : List (List ℕ) → List FetchLine → List Round → Type 0
Reaches held [] rounds = rounds ≡ []
Reaches held (line ∷ lines) rounds = (Has held line.entry.path × Reaches held lines rounds)
    ⊎ ((¬ Has held line.entry.path) × ((round : Round) × (rest : List Round)
    × (rounds ≡ round ∷ rest) × IsFor line round
    × Reaches (held_after (told round.reply) round.path held) lines rest))

-- the lines are those of the `fetch.txt` of the transfer with this name, and what is held at first is what it holds
abbrev pub AreReached : Ledger → List ℕ → List Round → Type 0
AreReached ledger name rounds = (transfer : Transfer) × IsNamed ledger name (Some transfer)
    × ((lines : List FetchLine) × AreFetchLines transfer.tags lines
    × Reaches (keys_of transfer.items) lines rounds)

-- the number of outcomes that report a failure of the supplier
abbrev pub supplier_failure : FetchAnswer → ℕ
supplier_failure SupplierFailed = 1
supplier_failure (Refused Reader) = 1
supplier_failure answer = 0

abbrev pub supplier_failures : List FetchOutcome → ℕ
supplier_failures [] = 0
supplier_failures (outcome ∷ outcomes) =
    supplier_failure outcome.answer + supplier_failures outcomes
