-- What stops the reading of a tag file.
use Rattle.std.proofs.Common.{◌≡◌, ◌<◌, ◌≤◌, ◌^◌, ℕ, List, length, Result, Ok, Err, IfErr, MatchResult, inl, inr, subst, arith}
use Rattle.bag_rules.proofs.Words.{CheckFault, HasCountedLines, IsLongTag, LineFile, lines_of, one_file, Stopped, text_file, TextStops}
use Rattle.bag_rules.specs.declared.outcome.CheckFault.TheVariants.{Memory}
use Rattle.bag_rules.proofs.LimitLemmas.{stopped_memory}

-- done, or memory ran out
pub done_or_memory : {V X : Type 0} (r : Result V CheckFault) (stops : CheckFault → Type 0) → IfErr r (λ fault. fault ≡ Memory) → X → MatchResult r (λ done. X) (Stopped stops)
done_or_memory (Ok v) stops e x = x
done_or_memory (Err f) stops e x = stopped_memory stops f e

-- a tag file that is too large stops the work
pub long_stops : (file : LineFile) (path octets : List ℕ) → path ≡ text_file file → (fault : CheckFault) → IsLongTag path octets fault → TextStops path octets fault
long_stops file path octets is fault long = (file, is, inl long)

-- one that is neither too large nor has too many lines doesn't
pub none_stops : (file : LineFile) (path octets : List ℕ) → path ≡ text_file file → length octets ≤ 2 ^ 24 → (HasCountedLines file → 100000 < length (lines_of octets) → ⊥) → (fault : CheckFault) → TextStops path octets fault → ⊥
none_stops file path octets is short few fault stops = elim stops.2 [
  | inl long ↦ omega (arith, long.0)
  | inr many ↦ few (subst HasCountedLines (one_file path stops.0 file stops.1 is) many.1.0) many.1.1
]
