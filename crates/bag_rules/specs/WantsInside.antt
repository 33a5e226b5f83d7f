-- How what the tag files say about files is kept. Only private functions and the definition of a plan cite these.
use Rattle.std.specs.Prelude.{◌≡◌, ◌≢◌, ◌↔◌, ◌++◌, ◌∷◌, [], ℕ, false, List, Option, Some, None, Vec}
use Rattle.std.specs.BTreeMap.{BTreeMap, get}
use Rattle.std.specs.Ordering.{nat_cmp}
use Rattle.std.specs.Cmp.Lexicographic.{slice_cmp}
use Rattle.std.specs.declared.alloc.Global.{Global}
use Rattle.bag_path.specs.declared.version.Version.{Version}
use Rattle.bag_path.specs.Paths.{is_payload}
use Rattle.bag_tags.specs.Listings.{Listing}
use Rattle.bag_tags.specs.declared.fetch.FetchLine.{FetchLine}
use Rattle.bag_rules.specs.declared.want.GivenLength.{GivenLength}
use Rattle.bag_rules.specs.declared.want.Want.{Want}
use Rattle.bag_rules.specs.declared.requirements.Requirements.{Requirements}
use Rattle.bag_rules.specs.Faults.{Has}

abbrev pub Lengths : Type 0
Lengths = BTreeMap (List ℕ) (Vec GivenLength Global)

abbrev pub items_of : Option (Vec GivenLength Global) → List GivenLength
items_of None = []
items_of (Some lengths) = lengths.items

-- the lengths that are kept for a path
abbrev pub given_at : Lengths → List ℕ → List GivenLength
given_at lengths path = items_of (get (slice_cmp nat_cmp) lengths path)

-- one more length for this path, and the same ones for others
pub record AddsLength (old new : Lengths) (path : List ℕ) (given : GivenLength) : Type 0 where
  pub added : given_at new path ≡ given_at old path ++ given ∷ []
  pub others : (other : List ℕ) → other ≢ path → given_at new other ≡ given_at old other

-- the line gives this length for the path
abbrev pub GivesLength : FetchLine → List ℕ → GivenLength → Type 0
GivesLength line path given = (line.entry.path ≡ path) × (line.entry.octets ≡ Some given.length)
    × (line.line ≡ given.line)

-- these are the lengths that the lines give for the path
abbrev pub AreGivenIn : List FetchLine → List ℕ → List GivenLength → Type 0
AreGivenIn lines path lengths = (given : GivenLength) → Has lengths given
    ↔ ((line : FetchLine) × Has lines line × GivesLength line path given)

-- these are the lengths that the lines give, by path; they are only for payload files
pub record AreByPath (lines : List FetchLine) (lengths : Lengths) : Type 0 where
  pub given : (path : List ℕ) → AreGivenIn lines path (given_at lengths path)
  pub payload : (path : List ℕ) → is_payload path ≡ false → given_at lengths path ≡ []

pub record AreRequirementsOf (version : Version) (listings : List Listing) (lines : List FetchLine)
    (wants : Requirements) : Type 0 where
  pub version_is : wants.version ≡ version
  pub manifests : wants.manifests.now ≡ listings
  pub lengths : AreByPath lines wants.lengths

-- lengths are given only for payload files
abbrev pub GivesPayload : Requirements → Type 0
GivesPayload wants = (path : List ℕ) → is_payload path ≡ false → given_at wants.lengths path ≡ []

-- the want of a path is what these manifests and lengths say about it
pub record IsWantBy (listings : List Listing) (lengths : Lengths) (path : List ℕ) (want : Want)
    : Type 0 where
  pub path_is : want.path.now ≡ path
  pub manifests : want.manifests.now ≡ listings
  pub given : want.lengths.now ≡ given_at lengths path
