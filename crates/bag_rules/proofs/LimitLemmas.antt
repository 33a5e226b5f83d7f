-- Which limit is met first.
use Rattle.std.proofs.Common.{◌≡◌, ◌≤◌, ◌+◌, ◌∙◌, ℕ, List, Some, Result, Ok, Err, MatchResult, length, slice_get, sym, ap, subst, inl, inr, arith}
use Rattle.bag_rules.proofs.Words.{Bag, cases_lt, CheckFault, FirstStops, NoneStops, NoneStopsBefore, Outcome, slice_get_within, Stopped, Stops, Tree, WorkStops}
use Rattle.bag_rules.specs.declared.outcome.CheckFault.TheVariants.{Memory}
use Rattle.bag_rules.proofs.PlaceLemmas.{same_file}

-- what stops the work for another reason
pub stopped_so : (P Q : CheckFault → Type 0) (fault : CheckFault) → (P fault → Q fault) → Stopped P fault → Stopped Q fault
stopped_so P Q Tree there h = tt
stopped_so P Q Memory there h = tt
stopped_so P Q _ there h = there h

pub stopped_memory : (P : CheckFault → Type 0) (fault : CheckFault) → fault ≡ Memory → Stopped P fault
stopped_memory P fault e = rw e tt

-- if no file stops the work, none is the first to do so
pub none_first : (bag : Bag) (stops : List ℕ → List ℕ → CheckFault → Type 0) (fault : CheckFault) → NoneStops bag stops → FirstStops bag stops fault → ⊥
none_first bag stops fault none first = none first.place first.path first.octets fault (slice_get_within bag.files first.place (first.path, first.octets) first.there) first.there first.reason

-- if there are not too many files, the rest of the work decides
pub within_count : (bag : Bag) (r : Result Outcome CheckFault) → length bag.files ≤ 200000 → MatchResult r (λ outcome. (fault : CheckFault) → ¬ WorkStops bag fault) (Stopped (WorkStops bag))
    → MatchResult r (λ outcome. (fault : CheckFault) → ¬ Stops bag fault) (Stopped (Stops bag))
within_count bag (Ok outcome) few rest = λ fault stops. elim stops [ inl many ↦ absurd (omega (arith, few, many.0)) | inr later ↦ rest fault later.1 ]
within_count bag (Err fault) few rest = stopped_so (WorkStops bag) (Stops bag) fault (λ stops. inr (few, stops)) rest

-- one more file that doesn't stop the work, and one that does
pub none_more : (bag : Bag) (stops : List ℕ → List ℕ → CheckFault → Type 0) (n : ℕ) (path octets : List ℕ) → slice_get bag.files n ≡ Some (path, octets) → ((fault : CheckFault) → ¬ stops path octets fault) → NoneStopsBefore n bag stops → NoneStopsBefore (n + 1) bag stops
none_more bag stops n path octets here none before i p o fault h at = elim (cases_lt i n) [
  | inl below ↦ before i p o fault below at
  | inr above ↦
      let e : i ≡ n = omega (arith, h) in
      let same = same_file (slice_get bag.files n) p o path octets (ap (slice_get bag.files) (sym e) ∙ at) here in
      λ s. none fault (subst (λ q. stops q octets fault) same.0 (subst (λ q. stops p q fault) same.1 s))
]

pub first_stops : (bag : Bag) (stops : List ℕ → List ℕ → CheckFault → Type 0) (n : ℕ) (path octets : List ℕ) (fault : CheckFault) → slice_get bag.files n ≡ Some (path, octets) → NoneStopsBefore n bag stops → Stopped (stops path octets) fault → Stopped (FirstStops bag stops) fault
first_stops bag stops n path octets fault here before = stopped_so (stops path octets) (FirstStops bag stops) fault (λ reason. record { place = n; path = path; octets = octets; there = here; reason = reason; first = before })
