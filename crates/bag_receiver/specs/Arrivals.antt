-- How the payload of a bag arrives: each of its files, in any order and any number of times.
use Rattle.std.specs.Prelude.{◌≡◌, ◌≤◌, ℕ, List, length}
use Rattle.bag_rules.specs.Faults.{Has}
use Rattle.bag_rules.specs.Files.{Files}
use Rattle.bag_rules.specs.declared.limits.TheConstants.{LARGEST_ITEM}
use Rattle.bag_receiver.specs.Deliveries.{Accepts, Delivery, IsAcceptance, Offers}
use Rattle.bag_receiver.specs.Stops.{Answered, Event, OffersIn}

-- each file is within the limit of a transfer
abbrev pub AreWithin : Files → Type 0
AreWithin payload = (path content : List ℕ) → Has payload (path, content)
    → length content ≤ LARGEST_ITEM

-- each file was offered, and some content was accepted for each path
pub record AreDelivered (payload : Files) (deliveries : List Delivery) : Type 0 where
  pub offered : (path content : List ℕ) → Has payload (path, content)
      → Offers deliveries path content
  pub accepted : (path content : List ℕ) → Has payload (path, content)
      → (other : List ℕ) × Accepts deliveries path other

-- some delivery for the path was accepted
abbrev pub IsAcceptedIn : List Event → List ℕ → Type 0
IsAcceptedIn events path = (delivery : Delivery) × Has events (Answered delivery)
    × (delivery.text ≡ path) × IsAcceptance delivery.answer

-- the same for all events, including stops: a content may have been offered when a stop came before its answer
pub record AreDeliveredIn (payload : Files) (events : List Event) : Type 0 where
  pub offered : (path content : List ℕ) → Has payload (path, content)
      → OffersIn events path content
  pub accepted : (path content : List ℕ) → Has payload (path, content)
      → IsAcceptedIn events path
