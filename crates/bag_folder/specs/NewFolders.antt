-- What is known of a folder that was made for a new bag.
use Rattle.std.specs.Prelude.{◌≡◌, ℕ, Bool, List, None, Option, false}
use Rattle.bag_writer.specs.Sinks.{IsEmptySink, Stored}
use Rattle.bag_folder.specs.Unfits.{UnfitShown}

-- the folder was made under this name: nothing is in it, no file is begun, and nothing has failed
pub record IsNewFolder {S : Type 0} (stored : S → Option Stored) (is_open : S → Bool)
    (failures : S → ℕ) (name : S → List ℕ) (trouble : S → Option UnfitShown) (folder : List ℕ)
    (made : S) : Type 0 where
  pub named : name made ≡ folder
  pub empty : IsEmptySink (stored made)
  pub closed : is_open made ≡ false
  pub not_failed : failures made ≡ 0
  pub no_trouble : trouble made ≡ None
