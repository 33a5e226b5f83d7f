-- What the files of a bag are, by their paths: names in the base directory, matched exactly (RFC 8493 section 2).
use Rattle.std.specs.Prelude.{◌≡◌, ◌≢◌, ◌⊎◌, ℕ, List, [], ◌++◌, Option, Some, None, codes}
use Rattle.bag_tags.specs.Octets.{underscore}
use Rattle.std.specs.Char.{IsAsciiAlphanumeric}
use Rattle.std.specs.List.{AllByRecursion}
use Rattle.bag_digest.specs.declared.algorithm.Alg.{Alg}
use Rattle.bag_digest.specs.Algorithm.{name_of}
use Rattle.bag_tags.specs.declared.listing.Kind.{Kind}
use Rattle.bag_tags.specs.declared.listing.Kind.TheVariants.{Payload, Tag}
use Rattle.bag_tags.specs.declared.name.LineFile.{LineFile}
use Rattle.bag_tags.specs.declared.name.LineFile.TheVariants as file
use Rattle.bag_tags.specs.declared.name.ManifestName.{ManifestName}
use Rattle.bag_tags.specs.declared.name.TagName.{TagName}
use Rattle.bag_tags.specs.declared.name.TagName.TheVariants.{Declaration, PayloadManifest, TagManifest, UnknownManifest, Info, FetchList, Other}

-- an ASCII letter, a digit or `_`
abbrev pub IsWordOctet : ℕ → Type 0
IsWordOctet octet = IsAsciiAlphanumeric octet ⊎ (octet ≡ underscore)

-- what may be the algorithm in the name of a manifest: one or more of these (section 2.4; the underscore is this
-- project's own)
abbrev pub IsWord : List ℕ → Type 0
IsWord word = (word ≢ []) × AllByRecursion IsWordOctet word

-- the names of manifests (sections 2.1.3 and 2.2.1)
abbrev pub payload_manifest : List ℕ → List ℕ
payload_manifest word = codes "manifest-" ++ word ++ codes ".txt"

abbrev pub tag_manifest : List ℕ → List ℕ
tag_manifest word = codes "tagmanifest-" ++ word ++ codes ".txt"

-- the name of a tag manifest, whether its algorithm is known or not
abbrev pub NamesTagManifest : List ℕ → Type 0
NamesTagManifest path = (word : List ℕ) × IsWord word × (path ≡ tag_manifest word)

-- the name of a manifest whose word isn't the name of a known algorithm
pub record IsUnknownManifest (path word : List ℕ) : Type 0 where
  pub form : (path ≡ payload_manifest word) ⊎ (path ≡ tag_manifest word)
  pub is_word : IsWord word
  pub unknown : (alg : Alg) → word ≢ name_of alg

-- the paths that have a meaning of their own
abbrev pub IsReserved : List ℕ → TagName → Type 0
IsReserved path Declaration = path ≡ codes "bagit.txt"  -- section 2.1.1
IsReserved path (PayloadManifest alg) = path ≡ payload_manifest (name_of alg)  -- section 2.1.3
IsReserved path (TagManifest alg) = path ≡ tag_manifest (name_of alg)  -- section 2.2.1
IsReserved path UnknownManifest = (word : List ℕ) × IsUnknownManifest path word  -- 2.1.3 and 2.2.1
IsReserved path Info = path ≡ codes "bag-info.txt"  -- section 2.2.2
IsReserved path FetchList = path ≡ codes "fetch.txt"  -- section 2.2.3
IsReserved path Other = ⊥

-- what the path names
abbrev pub Names : List ℕ → TagName → Type 0
Names path Other = (name : TagName) → IsReserved path name → ⊥
Names path name = IsReserved path name

-- `manifest-ALG.txt` (section 2.1.3), `tagmanifest-ALG.txt` (section 2.2.1)
abbrev pub manifest_file : Kind → Alg → List ℕ
manifest_file Payload alg = payload_manifest (name_of alg)
manifest_file Tag alg = tag_manifest (name_of alg)

abbrev pub manifest_name : Kind → Alg → ManifestName
manifest_name kind alg = record { kind = kind; alg = alg }

-- the manifest with this name, if its algorithm is known
abbrev pub known_manifest : TagName → Option ManifestName
known_manifest (PayloadManifest alg) = Some (manifest_name Payload alg)
known_manifest (TagManifest alg) = Some (manifest_name Tag alg)
known_manifest _ = None

-- the file name of a manifest
abbrev pub file_of : ManifestName → List ℕ
file_of name = manifest_file name.kind name.alg

-- the tag files that are read line by line (sections 2.2.2, 2.2.3, 2.1.3 and 2.2.1)
abbrev pub text_file : LineFile → List ℕ
text_file file.Info = codes "bag-info.txt"
text_file file.FetchList = codes "fetch.txt"
text_file (file.Manifest name) = file_of name
