-- What a call does to its device: how failures are counted, and what is left unchanged.
use Rattle.std.specs.Prelude.{◌≡◌, ◌+◌, ◌^◌, ◌-◌, ◌≤◌, ℕ, MatchResult, Result, min}

-- the maximum of a count of failures, at which it stops
abbrev pub greatest_count : ℕ
greatest_count = 2 ^ 64 - 1

-- a count after one more
abbrev pub one_more : ℕ → ℕ
one_more count = min (count + 1) greatest_count

-- the count rose by one, or is at its maximum
abbrev pub Rises : ℕ → ℕ → Type 0
Rises old new = new ≡ one_more old

-- the count rose by this number, or is at its maximum
abbrev pub RisesBy : ℕ → ℕ → ℕ → Type 0
RisesBy n old new = min new greatest_count ≡ min (old + n) greatest_count

-- the count rose by one, and can be lowered again
abbrev pub IsRaised : ℕ → ℕ → Type 0
IsRaised old new = (new ≡ old + 1) × (new ≤ greatest_count)

-- the count is unchanged if the result is `Ok`, and rises by one if it is `Err`
abbrev pub CountsFailure : {A E : Type 0} → Result A E → ℕ → ℕ → Type 0
CountsFailure result old new = MatchResult result (λ _. new ≡ old) (λ _. Rises old new)

-- the same for a call that may be refused for other reasons too: the count rises exactly if the device failed
pub record CountsIf (failed : Type 0) (old new : ℕ) : Type 0 where
  pub rises : failed → Rises old new
  pub stays : ¬ failed → new ≡ old

-- What reading does to a source. What reads keep is kept, a failure is counted exactly if the source failed, and a
-- ready source doesn't fail and stays ready.
pub record UsesSource {S : Type 0} (failures : S → ℕ) (ready : S → Type 0) (keeps : S → S → Type 0)
    (old new : S) (failed : Type 0) : Type 0 where
  pub kept : keeps old new
  pub counted : CountsIf failed (failures old) (failures new)
  pub stays_ready : ready old → ready new × ¬ failed
