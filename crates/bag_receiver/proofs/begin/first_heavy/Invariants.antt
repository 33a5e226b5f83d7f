use Rattle.std.proofs.Common.{ℕ, List, take, MatchOption}
use Rattle.bag_receiver.proofs.Words.{given_in, IsFirstPath, IsHeavyAt}
use Rattle.bag_receiver.proofs.begin.first_heavy.Given as goal

abbrev pub invariant-loop-file : goal.invariant-loop-file
invariant-loop-file l = MatchOption l.least ((path : List ℕ) → ¬ IsHeavyAt (given_in (take l.file-index l.files)) path)
    (λ path. IsFirstPath (IsHeavyAt (given_in (take l.file-index l.files))) path.now)
