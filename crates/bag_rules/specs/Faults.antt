-- Lists of faults.
use Rattle.std.specs.Prelude.{◌≡◌, ◌⊎◌, ◌<◌, ℕ, List, [], ◌∷◌}
use Rattle.std.specs.List.{AllByRecursion}
use Rattle.std.specs.List.Sorted.{IsStrictlySortedBy}
use Rattle.bag_rules.specs.declared.fault.Fault.{Fault}
use Rattle.bag_rules.specs.declared.fault.Fault.TheVariants.{NoDeclaration, BadDeclaration, NoPayloadDir, NoManifest, BadLine, ManifestNotListed, OxumForm, OxumTwice, Missing, Unlisted, FetchNotListed, FetchLength, OxumWrong, WrongDigest}
use Rattle.bag_tags.specs.declared.listing.Kind.TheVariants.{Payload, Tag}
use Rattle.bag_tags.specs.Names.{file_of, manifest_file, text_file}
use Rattle.bag_rules.specs.contracts.fault.FaultOrd.TheImpl as order

-- the number of a kind of fault
abbrev pub number_of : Fault → ℕ
number_of NoDeclaration = 1
number_of (BadDeclaration cause) = 2
number_of NoPayloadDir = 3
number_of NoManifest = 4
number_of (BadLine file line cause) = 5
number_of (ManifestNotListed tag_manifest manifest) = 6
number_of OxumForm = 7
number_of OxumTwice = 8
number_of (Missing manifest path) = 9
number_of (Unlisted manifest path) = 10
number_of (FetchNotListed manifest path) = 11
number_of (FetchLength line path) = 12
number_of OxumWrong = 13
number_of (WrongDigest manifest path) = 14

-- KINDS OF FAULTS, by their numbers

-- those of the form, and those of the files
abbrev pub kinds_of_form : List ℕ
kinds_of_form = 3 ∷ 4 ∷ 5 ∷ 6 ∷ 7 ∷ 8 ∷ []

abbrev pub kinds_of_files : List ℕ
kinds_of_files = 9 ∷ 10 ∷ 11 ∷ 12 ∷ 13 ∷ 14 ∷ []

-- the last kind of fault of the declaration, of the form, and of a bag that is not complete
abbrev pub last_of_declaration : ℕ
last_of_declaration = 2

abbrev pub last_of_form : ℕ
last_of_form = 8

abbrev pub last_of_completeness : ℕ
last_of_completeness = 13

-- the kinds of fault of the form that concern a line, and the others
abbrev pub kind_of_lines : List ℕ
kind_of_lines = 5 ∷ []

abbrev pub kinds_beside_lines : List ℕ
kinds_beside_lines = 3 ∷ 4 ∷ 6 ∷ 7 ∷ 8 ∷ []

abbrev pub kinds_of_oxum_form : List ℕ
kinds_of_oxum_form = 7 ∷ 8 ∷ []

abbrev pub kind_of_unlisted_entries : List ℕ
kind_of_unlisted_entries = 11 ∷ []

abbrev pub kind_of_lengths : List ℕ
kind_of_lengths = 12 ∷ []

abbrev pub kind_of_oxum : List ℕ
kind_of_oxum = 13 ∷ []

-- The key by which a report is sorted: the kind, then the file name, the line, and the path or second file name, as far
-- as the fault has them. Each is compared by its octets. For kind 11 the file name is that of the manifest.
abbrev pub key_of : Fault → List (List ℕ)
key_of (BadLine file line cause) = (5 ∷ []) ∷ text_file file ∷ (line ∷ []) ∷ []
key_of (ManifestNotListed tag_manifest manifest) =
    (6 ∷ []) ∷ manifest_file Tag tag_manifest ∷ manifest_file Payload manifest ∷ []
key_of (Missing manifest path) = (9 ∷ []) ∷ file_of manifest ∷ path ∷ []
key_of (Unlisted manifest path) = (10 ∷ []) ∷ manifest_file Payload manifest ∷ path ∷ []
key_of (FetchNotListed manifest path) = (11 ∷ []) ∷ manifest_file Payload manifest ∷ path ∷ []
key_of (FetchLength line path) = (12 ∷ []) ∷ (line ∷ []) ∷ path ∷ []
key_of (WrongDigest manifest path) = (14 ∷ []) ∷ file_of manifest ∷ path ∷ []
key_of fault = (number_of fault ∷ []) ∷ []

-- the list contains it
abbrev pub Has : {X : Type 0} → List X → X → Type 0
Has [] x = ⊥
Has (first ∷ xs) x = (first ≡ x) ⊎ Has xs x

-- by number, then by file, line and path; none twice
abbrev pub AreInOrder : List Fault → Type 0
AreInOrder faults = IsStrictlySortedBy order.ghosts.cmp faults

-- no fault of a kind with a number up to n
abbrev pub NoneUpTo : ℕ → List Fault → Type 0
NoneUpTo n faults = AllByRecursion (λ fault. n < number_of fault) faults
