-- Couriers, and runs of their deliveries.
use Rattle.std.specs.Prelude.{◌≡◌, ◌≢◌, ◌<◌, ◌+◌, ◌∷◌, [], ℕ, Bool, true, false, List, Option, Some, None, Result, Ok, is_some, length, map, min}
use Rattle.bag_digest.specs.Failures.{greatest_count}
use Rattle.bag_rules.specs.declared.limits.TheConstants.{LARGEST_ITEM}
use Rattle.bag_rules.specs.Files.{Files}
use Rattle.bag_receiver.specs.declared.answer.Answer.{Answer}
use Rattle.bag_receiver.specs.declared.answer.Answer.TheVariants.{Refused}
use Rattle.bag_receiver.specs.declared.answer.DeliverFault.TheVariants.{Reader}
use Rattle.bag_receiver.specs.declared.run.End.{End}
use Rattle.bag_receiver.specs.declared.run.End.TheVariants.{Done, TooMany, Courier, Memory}
use Rattle.bag_receiver.specs.declared.run.TheConstants.{MOST_DELIVERIES}
use Rattle.bag_receiver.specs.Deliveries.{Content, Delivery, TooLong, Unread, Whole}

-- WHAT IS STILL TO COME, if it is known

-- It said whether there is another item. If so, this is its path and its content.
abbrev pub ComesNext : Option Files → Bool → Option (List ℕ) → Option (List ℕ) → Option Files
    → Type 0
ComesNext None more path content after = after ≡ None
ComesNext (Some items) true path content after = (item : List ℕ × List ℕ) × ((rest : Files)
    × (items ≡ item ∷ rest) × (path ≡ Some item.0) × (content ≡ Some item.1)
    × (after ≡ Some rest))
ComesNext (Some items) false path content after = (items ≡ []) × (after ≡ Some [])

-- There is a path exactly if there is another item, and nothing else can be read.
pub record HasPath {E : Type 0} (more : Result Bool E) (path : Option (List ℕ)) (is_open : Bool)
    : Type 0 where
  pub there : more ≡ Ok true → is_some path ≡ true
  pub none : more ≢ Ok true → path ≡ None
  pub readable : is_open ≡ true → more ≡ Ok true

-- this is what a delivery of these octets brings
abbrev pub IsOf : List ℕ → Content → Type 0
IsOf octets (Whole content) = content ≡ octets
IsOf octets TooLong = LARGEST_ITEM < length octets
IsOf octets Unread = Unit {0}

-- the first items were delivered, and these are left
abbrev pub AreOf : Option Files → List Delivery → Option Files → Type 0
AreOf None deliveries left = left ≡ None
AreOf (Some items) [] left = left ≡ Some items
AreOf (Some []) (delivery ∷ deliveries) left = ⊥
AreOf (Some ((text, octets) ∷ items)) (delivery ∷ deliveries) left = (delivery.text ≡ text)
    × IsOf octets delivery.content × AreOf (Some items) deliveries left

-- no item is left, as far as that is known
abbrev pub NoneLeft : Option Files → Type 0
NoneLeft None = Unit {0}
NoneLeft (Some items) = items ≡ []

-- this many were delivered, and these were left, when the run ended in this way
abbrev pub IsEndWith : End → ℕ → Option Files → Type 0
IsEndWith Done n left = NoneLeft left
IsEndWith TooMany n left = (n ≡ MOST_DELIVERIES) × (left ≢ Some [])
IsEndWith Courier n left = Unit {0}
IsEndWith Memory n left = (n ≢ MOST_DELIVERIES) × (left ≢ Some [])

-- A RUN

-- the deliveries have these texts and answers, in order
pub record AreTold (deliveries : List Delivery) (texts : List (List ℕ)) (answers : List Answer)
    : Type 0 where
  pub same_texts : map (λ (delivery : Delivery). delivery.text) deliveries ≡ texts
  pub same_answers : map (λ (delivery : Delivery). delivery.answer) deliveries ≡ answers

-- the deliveries are of the items to come, from the first on, when the run ended in this way
abbrev pub AreBrought : Option Files → List Delivery → End → Type 0
AreBrought coming deliveries ended = (left : Option Files) × AreOf coming deliveries left
    × IsEndWith ended (length deliveries) left

-- HOW MANY TIMES THE COURIER FAILED AND WAS CALLED

-- the number of answers that report a failed read
abbrev pub read_failure : Answer → ℕ
read_failure (Refused Reader) = 1
read_failure answer = 0

abbrev pub read_failures : List Answer → ℕ
read_failures [] = 0
read_failures (answer ∷ answers) = read_failure answer + read_failures answers

-- the reported failures of the courier: failed reads, and a failure of its last `next`
abbrev pub courier_failures : List Answer → End → ℕ
courier_failures answers Courier = read_failures answers + 1
courier_failures answers ended = read_failures answers

-- `next` was called once for each delivery and once more
abbrev pub CallsNext : ℕ → ℕ → ℕ → Type 0
CallsNext n old new = new ≡ min (old + n + 1) greatest_count
