-- Plans of transfers, and what they say about each payload file.
use Rattle.std.specs.Prelude.{◌≡◌, ◌⊎◌, ◌↔◌, [], ℕ, List, length, map}
use Rattle.bag_tags.specs.declared.fetch.FetchLine.{FetchLine}
use Rattle.bag_tags.specs.Listings.{Listing}
use Rattle.bag_tags.specs.Names.{text_file}
use Rattle.bag_tags.specs.declared.name.LineFile.TheVariants.{FetchList}
use Rattle.bag_rules.specs.declared.plan.ItemSize.{ItemSize}
use Rattle.bag_rules.specs.declared.plan.Plan.{Plan}
use Rattle.bag_rules.specs.declared.want.GivenLength.{GivenLength}
use Rattle.bag_rules.specs.declared.want.Want.{Want}
use Rattle.bag_rules.specs.Bags.{IsThere, Lists, ListsFetch}
use Rattle.bag_rules.specs.Faults.{Has}
use Rattle.bag_rules.specs.Files.{AreTagFiles, Files}
use Rattle.bag_rules.specs.HasFault.{HasEntry}
use Rattle.bag_rules.specs.Opening.{Opens}
use Rattle.bag_rules.specs.ReadingInside.{AreTextsOf, name_in}
use Rattle.bag_rules.specs.Transfers.{AreExpected, IsExpected, tag_bag}
use Rattle.bag_rules.specs.WantsInside.{GivesLength, given_at}

-- a line of `fetch.txt` gives this length for the path (RFC 8493 section 2.2.3)
abbrev pub IsLengthFor : Files → List ℕ → GivenLength → Type 0
IsLengthFor tags path given = (line : FetchLine) × HasEntry (tag_bag tags) line
    × GivesLength line path given

-- the path is listed, and this is what the tag files say about it
pub record IsWantOf (tags : Files) (path : List ℕ) (want : Want) : Type 0 where
  pub expected : IsExpected tags path
  pub path_is : want.path.now ≡ path
  pub manifests : (listing : Listing) → Has want.manifests.now listing
      ↔ Lists (tag_bag tags) (name_in listing) listing.pairs
  pub lengths : (given : GivenLength) → Has want.lengths.now given ↔ IsLengthFor tags path given

-- the plan of a transfer that can be opened with these tag files
pub record IsPlanOf (tags : Files) (plan : Plan) : Type 0 where
  pub tag_files : AreTagFiles tags
  pub opens : Opens tags
  pub texts : AreTextsOf (length tags) (tag_bag tags) plan.texts
  pub paths : AreExpected tags plan.paths.items
  pub lengths : (path : List ℕ) (given : GivenLength) → Has (given_at plan.lengths path) given
      ↔ IsLengthFor tags path given

-- these are the lines of `fetch.txt`; there are none if it isn't there
abbrev pub AreFetchLines : Files → List FetchLine → Type 0
AreFetchLines tags lines = ListsFetch (tag_bag tags) lines
    ⊎ ((¬ IsThere (tag_bag tags) (text_file FetchList)) × (lines ≡ []))

-- the lengths of these files, by path
abbrev pub sizes_of : Files → List ItemSize
sizes_of items =
    map (λ (item : List ℕ × List ℕ). record { path = item.0; octets = length item.1 }) items

-- their paths
abbrev pub item_paths : List ItemSize → List (List ℕ)
item_paths sizes = map (λ (size : ItemSize). size.path) sizes
