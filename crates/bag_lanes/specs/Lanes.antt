-- Words side by side in the lanes of vectors.
use Rattle.std.specs.Prelude.{ℕ, List, map, slice_index}

-- lane i of each vector
abbrev pub lane : ℕ → List (List ℕ) → List ℕ
lane i vectors = map (λ v. slice_index v i) vectors
