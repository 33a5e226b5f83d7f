-- A courier of the payload files of a tree.
use Rattle.std.specs.Prelude.{◌≡◌, ◌+◌, ◌-◌, ◌<◌, ◌^◌, ◌∷◌, [], ℕ, Bool, List, MatchOption, Option, None, Some, drop, false, filter, if◌then◌else◌, is_some, length, map, refl, slice_get, true, unwrap_or}
use Rattle.std.specs.List.{list_all}
use Rattle.std.proofs.Common.{◌∙◌, ap₂}
use Rattle.bag_path.specs.Paths.{is_payload}
use Rattle.bag_digest.specs.Failures.{one_more}
use Rattle.bag_rules.specs.Files.{Files}
use Rattle.bag_rules.specs.Trees.{Shown, octets_in, paths_in}

-- the tree, where the search for the next file begins, the index of the current file, and whether it was started; how
-- many times the courier failed, and how many times `next` was called
pub record Bringing (T : Type 0) : Type 0 where
  pub tree : T
  pub place : ℕ
  pub came : Option ℕ
  pub is_started : Bool
  pub failures : ℕ
  pub nexts : ℕ

-- a courier of a tree's payload files, before any call
abbrev pub courier_of : {T : Type 0} → T → Bringing T
courier_of tree = record {
  tree = tree;
  place = 0;
  came = None;
  is_started = false;
  failures = 0;
  nexts = 0;
}

abbrev pub IsPlaceIn : Shown → Option ℕ → Type 0
IsPlaceIn shown came = (i : ℕ) → came ≡ Some i → i < length (paths_in shown)

-- a file of a tree, with its octets if they are known
abbrev pub TreeFile : Type 0
TreeFile = List ℕ × Option (List ℕ)

-- the payload files from an index on
abbrev pub payload_from : Shown → ℕ → List TreeFile
payload_from shown place = filter (λ file. is_payload file.0) (drop place shown.files)

-- the first payload file from an index on is the one at this index
pub record IsFoundAt (shown : Shown) (place i : ℕ) : Type 0 where
  pub file : TreeFile
  pub here : slice_get shown.files i ≡ Some file
  pub first : payload_from shown place ≡ file ∷ payload_from shown (i + 1)
  pub room : i < 2 ^ 64 - 1

-- where the search for the file after the one found begins
abbrev pub place_after : ℕ → Option ℕ → ℕ
place_after place None = place
place_after place (Some i) = i + 1

-- the octets of each file of the tree are known
abbrev pub all_known : Shown → Bool
all_known shown = list_all (λ (file : TreeFile). is_some file.1) shown.files

abbrev pub known_file : TreeFile → List ℕ × List ℕ
known_file file = (file.0, unwrap_or file.1 [])

-- the payload files from an index on with their octets, if those of the tree are known
abbrev pub to_come : Shown → ℕ → Option Files
to_come shown place =
    if all_known shown then Some (map known_file (payload_from shown place)) else None

-- the path of the current file, if there is one
abbrev pub current_path : Shown → Option ℕ → Option (List ℕ)
current_path shown None = None
current_path shown (Some i) = slice_get (paths_in shown) i

-- what is left of the current file: all of it until it is started, and then what is left in the tree
abbrev pub left_to_read : Shown → Option (List ℕ) → Option ℕ → Bool → Option (List ℕ)
left_to_read shown in_tree None is_started = None
left_to_read shown in_tree (Some i) false = octets_in shown i
left_to_read shown in_tree (Some i) true = in_tree

abbrev pub left_of : {T : Type 0} → (T → Shown) → (T → Option (List ℕ)) → Bringing T
    → Option (List ℕ)
left_of shown remaining courier =
    left_to_read (shown courier.tree) (remaining courier.tree) courier.came courier.is_started

-- What `next` does: the first payload file from the index on becomes the current file, if there is one. Nothing is
-- started or read.
pub record BringsNext {T : Type 0} (shown : T → Shown) (old new : Bringing T) : Type 0 where
  pub found : MatchOption new.came (payload_from (shown old.tree) old.place ≡ [])
      (IsFoundAt (shown old.tree) old.place)
  pub changes : new ≡ record old {
    place = place_after old.place new.came;
    came = new.came;
    is_started = false;
    nexts = one_more old.nexts;
  }

-- there is a current file, and its tree fails neither at a start nor at a read after it
pub record IsReady {T : Type 0} (Sure Ready : T → Type 0) (courier : Bringing T) : Type 0 where
  pub came : is_some courier.came ≡ true
  pub sure : Sure courier.tree
  pub started : courier.is_started ≡ true → Ready courier.tree

-- the same files, and the same current file
pub record SameItem {T : Type 0} (shown : T → Shown) (old new : Bringing T) : Type 0 where
  pub files : shown new.tree ≡ shown old.tree
  pub place : new.place ≡ old.place
  pub came : new.came ≡ old.came
  pub nexts : new.nexts ≡ old.nexts

pub same_itself : {T : Type 0} (shown : T → Shown) (a : Bringing T) → SameItem shown a a
same_itself shown a = record { files = refl; place = refl; came = refl; nexts = refl }

pub same_on : {T : Type 0} (shown : T → Shown) (a b c : Bringing T) → SameItem shown a b
    → SameItem shown b c → SameItem shown a c
same_on shown a b c p q = record {
  files = q.files ∙ p.files;
  place = q.place ∙ p.place;
  came = q.came ∙ p.came;
  nexts = q.nexts ∙ p.nexts;
}

pub keeps_item : {T : Type 0} (shown : T → Shown) (old new : Bringing T) → SameItem shown old new
    → (to_come (shown new.tree) new.place ≡ to_come (shown old.tree) old.place)
    × (current_path (shown new.tree) new.came ≡ current_path (shown old.tree) old.came)
    × (new.nexts ≡ old.nexts) × (Unit {0} → Unit {0})
keeps_item shown old new same = (
  ap₂ to_come same.files same.place,
  ap₂ current_path same.files same.came,
  same.nexts,
  λ steady. steady,
)
