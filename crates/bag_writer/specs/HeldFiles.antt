-- Files that are held until their digests are taken together. Only private functions cite these.
use Rattle.std.specs.Prelude.{◌≡◌, ◌++◌, ◌∷◌, [], ℕ, List, Vec, map}
use Rattle.std.specs.Map.{keys_of}
use Rattle.std.specs.declared.alloc.Global.{Global}
use Rattle.bag_digest.specs.declared.algorithm.AlgSet.{AlgSet}
use Rattle.bag_rules.specs.Files.{Files}
use Rattle.bag_writer.specs.Steps.{AreItemsOf}
use Rattle.bag_writer.specs.declared.items.Items.{Items}

-- the files have these paths and these contents
pub record AreHeld (paths : List (List ℕ)) (contents : List (Vec ℕ Global)) (files : Files)
    : Type 0 where
  pub paths_are : paths ≡ keys_of files
  pub octets_are : map (λ (content : Vec ℕ Global). content.items) contents
      ≡ map (λ (file : List ℕ × List ℕ). file.1) files

-- the first of these files have their items by the algorithms of the set, and the others are held, in their order
pub record AreItemsSoFar (set : AlgSet) (items : Items) (files : Files) : Type 0 where
  pub set_is : items.set ≡ set
  pub first : Files
  pub held : Files
  pub all : files ≡ first ++ held
  pub ready_are : AreItemsOf set items.ready.items first
  pub held_set : items.held.set ≡ set
  pub held_are : AreHeld items.held.known.items items.held.contents.items held

-- the file comes after those before it
abbrev pub AddsFile : AlgSet → List ℕ × List ℕ → Items → Items → Type 0
AddsFile set file old new = (files : Files) → AreItemsSoFar set old files
    → AreItemsSoFar set new (files ++ file ∷ [])
