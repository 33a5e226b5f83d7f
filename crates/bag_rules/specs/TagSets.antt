-- Why a tag file is refused.
use Rattle.std.specs.Prelude.{◌≡◌, ◌<◌, ℕ, List, Some, Contains, length, true}
use Rattle.std.specs.Map.{keys_of}
use Rattle.bag_path.specs.Paths.{IsPath, is_payload, path_fault}
use Rattle.bag_rules.specs.declared.limits.TheConstants.{LARGEST_TAG_FILE}
use Rattle.bag_rules.specs.declared.tag_set.TagSetFault.{TagSetFault}
use Rattle.bag_rules.specs.declared.tag_set.TagSetFault.TheVariants.{BadPath, Payload, Twice, TooLarge, Memory}
use Rattle.bag_rules.specs.Files.{Files, IsTagPath}

-- The first reason in this order why the file is refused beside these; `Memory` says nothing.
abbrev pub RefusesFile : Files → List ℕ → List ℕ → TagSetFault → Type 0
RefusesFile files path octets (BadPath fault) = path_fault path ≡ Some fault
RefusesFile files path octets Payload = IsPath path × (is_payload path ≡ true)
RefusesFile files path octets Twice = IsTagPath path × Contains (keys_of files) path
RefusesFile files path octets TooLarge = IsTagPath path × (¬ Contains (keys_of files) path)
    × (LARGEST_TAG_FILE < length octets)
RefusesFile files path octets Memory = Unit {0}
