-- Deliveries to a transfer, their answers, and the payload files that are held afterwards.
use Rattle.std.specs.Prelude.{◌≡◌, ◌⊎◌, ◌<◌, ◌≤◌, ◌↔◌, ◌∷◌, ◌++◌, ℕ, List, Option, Some, None, Contains, length}
use Rattle.std.specs.Map.{keys_of}
use Rattle.bag_path.specs.Paths.{IsPath, path_fault}
use Rattle.bag_rules.specs.declared.limits.TheConstants.{LARGEST_ITEM}
use Rattle.bag_rules.specs.declared.want.WantFault.{WantFault}
use Rattle.bag_rules.specs.declared.want.WantFault.TheVariants.{Length as OtherLength, Digest as OtherDigest}
use Rattle.bag_rules.specs.Faults.{Has}
use Rattle.bag_rules.specs.Files.{Files}
use Rattle.bag_rules.specs.Transfers.{IsExpected, IsMisfit, Passes}
use Rattle.bag_rules.specs.Trees.{AreRising}
use Rattle.bag_ledger.specs.Ledgers.{Transfer}
use Rattle.bag_receiver.specs.declared.answer.Answer.{Answer}
use Rattle.bag_receiver.specs.declared.answer.Answer.TheVariants.{Taken, Repeated, Refused}
use Rattle.bag_receiver.specs.declared.answer.DeliverFault.TheVariants.{NoTransfer, BadPath, NotListed, TooLarge, Length, Digest}

-- What a delivery brought: this content; more than the limit; or a part, because its end wasn't reached.
pub data Content : Type 0 where
  Whole : List ℕ → Content
  TooLong : Content
  Unread : Content

-- what was delivered for the path with this text, and the answer
pub record Delivery : Type 0 where
  pub text : List ℕ
  pub content : Content
  pub answer : Answer

abbrev pub delivery_of : List ℕ → Content → Answer → Delivery
delivery_of text content answer = record { text = text; content = content; answer = answer }

-- WHAT WAS OFFERED AND WHAT WAS ACCEPTED

-- the delivery brought this content for the path
abbrev pub Brings : Delivery → List ℕ → List ℕ → Type 0
Brings delivery path content = (delivery.text ≡ path) × (delivery.content ≡ Whole content)

abbrev pub IsAcceptance : Answer → Type 0
IsAcceptance Taken = Unit {0}
IsAcceptance Repeated = Unit {0}
IsAcceptance (Refused fault) = ⊥

-- this content was accepted for the path
pub record IsAccepted (delivery : Delivery) (path content : List ℕ) : Type 0 where
  pub brings : Brings delivery path content
  pub acceptance : IsAcceptance delivery.answer

-- some delivery brought this content for the path
abbrev pub Offers : List Delivery → List ℕ → List ℕ → Type 0
Offers deliveries path content = (delivery : Delivery) × Has deliveries delivery
    × Brings delivery path content

-- some such delivery was accepted
abbrev pub Accepts : List Delivery → List ℕ → List ℕ → Type 0
Accepts deliveries path content = (delivery : Delivery) × Has deliveries delivery
    × IsAccepted delivery path content

-- everything that was accepted is valid
abbrev pub AcceptsPassing : Files → List Delivery → Type 0
AcceptsPassing tags deliveries = (path content : List ℕ) → Accepts deliveries path content
    → Passes tags path content

-- no two different contents offered for one path are both valid
abbrev pub HasOneContent : Files → (List ℕ → List ℕ → Type 0) → Type 0
HasOneContent tags offered = (path content other : List ℕ) → offered path content
    → offered path other → Passes tags path content → Passes tags path other → content ≡ other

abbrev pub OneContent : Files → List Delivery → Type 0
OneContent tags deliveries = HasOneContent tags (Offers deliveries)

-- WHAT IS HELD

-- the first delivery that was accepted for the path brought this content
pub record IsFirstAccepted (deliveries : List Delivery) (path content : List ℕ) : Type 0 where
  pub before : List Delivery
  pub delivery : Delivery
  pub after : List Delivery
  pub split : deliveries ≡ before ++ delivery ∷ after
  pub accepted : IsAccepted delivery path content
  pub first : (other : List ℕ) → ¬ Accepts before path other

-- These are the files that were held, and for each other path the content of the first accepted delivery.
pub record IsFirstHeld (old : Files) (deliveries : List Delivery) (new : Files) : Type 0 where
  pub rising : AreRising (keys_of new)
  pub exact : (path content : List ℕ) → Has new (path, content)
      ↔ (Has old (path, content)
      ⊎ ((¬ Contains (keys_of old) path) × IsFirstAccepted deliveries path content))

-- these are the distinct files that were accepted, each once
pub record AreAccepted (deliveries : List Delivery) (held : Files) : Type 0 where
  pub rising : AreRising (keys_of held)
  pub exact : (path content : List ℕ) → Has held (path, content)
      ↔ Accepts deliveries path content

-- THE ANSWER THAT IS DUE

-- more octets than the limit
abbrev pub IsTooLong : Content → Type 0
IsTooLong (Whole content) = LARGEST_ITEM < length content
IsTooLong TooLong = Unit {0}
IsTooLong Unread = ⊥

-- the content is within the limit, and this is the first reason why it isn't the listed one
abbrev pub IsMisfitIn : Files → List ℕ → Content → WantFault → Type 0
IsMisfitIn tags path (Whole content) fault = (length content ≤ LARGEST_ITEM)
    × IsMisfit tags path content fault
IsMisfitIn tags path content fault = ⊥

-- the content is valid
abbrev pub PassesIn : Files → List ℕ → Content → Type 0
PassesIn tags path (Whole content) = Passes tags path content
PassesIn tags path content = ⊥

-- the path is that of a payload file that the transfer is to have
abbrev pub IsListedPath : Files → List ℕ → Type 0
IsListedPath tags text = IsPath text × IsExpected tags text

-- The answer that is due in a transfer that exists. The cases exclude each other, and are in the order in which
-- refusals are checked.
abbrev pub IsDueIn : Transfer → List ℕ → Content → Answer → Type 0
IsDueIn transfer text content (Refused (BadPath fault)) = path_fault text ≡ Some fault
IsDueIn transfer text content (Refused NotListed) = IsPath text × ¬ IsExpected transfer.tags text
IsDueIn transfer text content (Refused TooLarge) = IsListedPath transfer.tags text
    × IsTooLong content
IsDueIn transfer text content (Refused Length) = IsListedPath transfer.tags text
    × IsMisfitIn transfer.tags text content OtherLength
IsDueIn transfer text content (Refused (Digest alg)) = IsListedPath transfer.tags text
    × IsMisfitIn transfer.tags text content (OtherDigest alg)
IsDueIn transfer text content Repeated = IsListedPath transfer.tags text
    × PassesIn transfer.tags text content × Contains (keys_of transfer.items) text
IsDueIn transfer text content Taken = IsListedPath transfer.tags text
    × PassesIn transfer.tags text content × ¬ Contains (keys_of transfer.items) text
IsDueIn transfer text content (Refused fault) = ⊥

-- The answer that is due: that there is no transfer, or the one that is due in the transfer. If the end of the content
-- wasn't reached, only a refusal that doesn't depend on the content is due.
abbrev pub IsDue : Option Transfer → List ℕ → Content → Answer → Type 0
IsDue None text content answer = answer ≡ Refused NoTransfer
IsDue (Some transfer) text content answer = IsDueIn transfer text content answer
