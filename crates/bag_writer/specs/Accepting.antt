-- How holes are marked, one after another. Only private functions cite these.
use Rattle.std.specs.Prelude.{◌≡◌, ◌⊎◌, ◌++◌, ◌∷◌, [], ℕ, Bool, List, Contains, false, map, string_bytes, true}
use Rattle.bag_tags.specs.FetchEntries.{IsUrl}
use Rattle.bag_writer.specs.Steps.{is_hole}
use Rattle.bag_writer.specs.Writing.{IsFirstBadHole}
use Rattle.bag_writer.specs.declared.write_fault.WriteFault.{WriteFault}
use Rattle.bag_writer.specs.declared.write_fault.WriteFault.TheVariants.{BadHole, Memory}
use Rattle.bag_writer.specs.declared.spec.Hole.{Hole}

-- a hole that may follow these: it is a payload file, has a URL and is none of them
pub record IsFurtherHole (payload : List (List ℕ)) (before : List Hole) (hole : Hole) : Type 0 where
  pub there : Contains payload hole.path
  pub is_url : IsUrl (string_bytes hole.url)
  pub new : is_hole before hole.path ≡ false

-- a hole that may not follow these
abbrev pub IsBadAfter : List (List ℕ) → List Hole → Hole → Type 0
IsBadAfter payload before hole = (¬ Contains payload hole.path)
    ⊎ (¬ IsUrl (string_bytes hole.url)) ⊎ (is_hole before hole.path ≡ true)

-- the mark at each place says whether the path there is that of one of these holes
abbrev pub AreMarks : List (List ℕ) → List Hole → List Bool → Type 0
AreMarks paths holes marks = marks ≡ map (is_hole holes) paths

-- the hole was marked in addition to those before it, or it may not follow them
abbrev pub Marks : List (List ℕ) → List (List ℕ) → List Hole → Hole → List Bool → Bool → Type 0
Marks paths payload before hole new true = IsFurtherHole payload before hole
    × AreMarks paths (before ++ hole ∷ []) new
Marks paths payload before hole new false = IsBadAfter payload before hole

-- the first bad hole; `Memory` says nothing
abbrev pub RefusesHoles : List (List ℕ) → List Hole → WriteFault → Type 0
RefusesHoles payload holes (BadHole i) = IsFirstBadHole payload holes i
RefusesHoles payload holes Memory = Unit {0}
RefusesHoles payload holes fault = ⊥
