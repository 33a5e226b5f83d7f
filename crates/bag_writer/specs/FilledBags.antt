-- The payloads of which a bag can be written, and the bag with its holes filled, which is what is there once each file
-- was fetched (RFC 8493 section 2.2.3).
use Rattle.std.specs.Prelude.{◌≡◌, ◌⊎◌, ◌↔◌, ℕ, List, true}
use Rattle.std.specs.List.{AllByRecursion}
use Rattle.std.specs.Map.{keys_of}
use Rattle.bag_path.specs.Paths.{IsPath, is_payload}
use Rattle.bag_tags.specs.Infos.{IsElement}
use Rattle.bag_rules.specs.Bags.{Bag, HoldsFile, paths_of}
use Rattle.bag_rules.specs.Faults.{Has}
use Rattle.bag_rules.specs.Files.{Files}
use Rattle.bag_rules.specs.Trees.{AreRising}
use Rattle.bag_writer.specs.WrittenBags.{tag_files}
use Rattle.bag_writer.specs.Writing.{IsAccepted, IsTooLarge}
use Rattle.bag_writer.specs.declared.spec.Spec.{Spec}

abbrev pub IsPayloadPath : List ℕ → Type 0
IsPayloadPath path = IsPath path × (is_payload path ≡ true)

-- A bag can be written of this payload as specified. (The paths of a tree and the elements of an `Info` are valid by
-- their types.)
pub record IsPayloadFor (spec : Spec) (payload : Files) : Type 0 where
  pub rising : AreRising (keys_of payload)
  pub paths : AllByRecursion IsPayloadPath (keys_of payload)
  pub elements : AllByRecursion IsElement spec.info
  pub accepted : IsAccepted (keys_of payload) spec
  pub not_too_large : ¬ IsTooLarge spec payload

-- the bag that is written of this payload, with each of its holes filled
pub record IsFilled (spec : Spec) (payload : Files) (bag : Bag) : Type 0 where
  pub rising : AreRising (paths_of bag)
  pub has_payload_dir : bag.has_payload_dir ≡ true
  pub exact : (path octets : List ℕ) → HoldsFile bag path octets
      ↔ (Has payload (path, octets) ⊎ Has (tag_files spec payload) (path, octets))
