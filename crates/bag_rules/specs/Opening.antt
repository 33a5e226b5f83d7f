-- How transfers are opened: which tag files are refused before any payload file comes.
use Rattle.std.specs.Prelude.{◌≡◌, ◌≢◌, ◌⊎◌, ◌<◌, ◌++◌, ◌∷◌, ℕ, List, Contains, length}
use Rattle.std.specs.Ordering.{nat_cmp}
use Rattle.std.specs.Cmp.Lexicographic.{slice_cmp}
use Rattle.std.specs.declared.cmp.Ordering.{Ordering}
use Rattle.std.specs.declared.cmp.Ordering.TheVariants.{Greater}
use Rattle.bag_path.specs.Lines.{lines_of}
use Rattle.bag_path.specs.Octets.{slash}
use Rattle.bag_tags.specs.declared.listing.Kind.TheVariants.{Payload}
use Rattle.bag_tags.specs.declared.name.LineFile.{LineFile}
use Rattle.bag_tags.specs.Names.{text_file}
use Rattle.bag_rules.specs.declared.fault.Fault.{Fault}
use Rattle.bag_rules.specs.declared.fault.Fault.TheVariants.{Missing, Unlisted, OxumWrong}
use Rattle.bag_rules.specs.contracts.fault.FaultOrd.TheImpl as order
use Rattle.bag_rules.specs.declared.limits.TheConstants.{MOST_LINES}
use Rattle.bag_rules.specs.declared.scope.OutsideCause.{OutsideCause}
use Rattle.bag_rules.specs.declared.plan_fault.PlanFault.{PlanFault}
use Rattle.bag_rules.specs.declared.plan_fault.PlanFault.TheVariants.{TagTooLarge, Outside, Rules, Clash, Memory}
use Rattle.bag_rules.specs.Bags.{HoldsFile, IsThere, version_of}
use Rattle.bag_rules.specs.Files.{Files}
use Rattle.bag_rules.specs.HasFault.{HasFault}
use Rattle.bag_rules.specs.Limits.{HasCountedLines}
use Rattle.bag_rules.specs.Listed.{IsUnlisted}
use Rattle.bag_rules.specs.Transfers.{IsExpected, tag_bag}
use Rattle.bag_rules.specs.Verdicts.{IsInScope, IsOutside}

-- it is such, and nothing before it in the order is
pub record IsFirst {X : Type 0} (compare : X → X → Ordering) (some : X → Type 0) (x : X)
    : Type 0 where
  pub has : some x
  pub first : (other : X) → some other → compare x other ≢ Greater

-- the same for paths, in the order of their octets
abbrev pub IsFirstPath : (List ℕ → Type 0) → List ℕ → Type 0
IsFirstPath some path = IsFirst (slice_cmp nat_cmp) some path

-- TAG FILES THAT ARE TOO LARGE

-- a manifest or `fetch.txt` with more than 100,000 lines
abbrev pub HasManyLinesAt : Files → List ℕ → Type 0
HasManyLinesAt tags path = (file : LineFile) × ((octets : List ℕ) × (path ≡ text_file file)
    × HoldsFile (tag_bag tags) path octets × HasCountedLines file
    × (MOST_LINES < length (lines_of octets)))

-- FAULTS THAT NO PAYLOAD FILE CAN MEND

-- the faults that payload files which are still expected may mend
abbrev pub MayBeMended : Fault → Type 0
MayBeMended (Missing manifest path) = manifest.kind ≡ Payload
MayBeMended OxumWrong = Unit {0}
MayBeMended fault = ⊥

-- What keeps the bag from being valid, whichever payload files come: a fault of the bag without payload files that they
-- can't mend, or a payload path that a manifest lists and that isn't listed as required.
abbrev pub HasOpeningFault : Files → Fault → Type 0
HasOpeningFault tags (Unlisted manifest path) = IsExpected tags path
    × IsUnlisted (version_of (tag_bag tags)) (tag_bag tags) manifest path
HasOpeningFault tags fault = HasFault (tag_bag tags) fault × ¬ MayBeMended fault

-- the first of them in the order of a report
abbrev pub IsFirstOpeningFault : Files → Fault → Type 0
IsFirstOpeningFault tags fault = IsFirst order.ghosts.cmp (HasOpeningFault tags) fault

-- PATHS THAT CLASH

-- the path of a tag file or of an expected payload file
abbrev pub IsPathOf : Files → List ℕ → Type 0
IsPathOf tags path = IsThere (tag_bag tags) path ⊎ IsExpected tags path

-- one path is that of a folder in which the other is
abbrev pub IsFolderOf : List ℕ → List ℕ → Type 0
IsFolderOf path other = (rest : List ℕ) × (other ≡ path ++ slash ∷ rest)

-- one of them is in the folder with this path
abbrev pub HasInside : List (List ℕ) → List ℕ → Type 0
HasInside paths folder = (path : List ℕ) × Contains paths path × IsFolderOf folder path

-- it is one of them, and is that of a folder in which another one is
abbrev pub IsFolderAmong : List (List ℕ) → List ℕ → Type 0
IsFolderAmong paths path = Contains paths path × HasInside paths path

abbrev pub IsClash : Files → List ℕ → Type 0
IsClash tags path = IsPathOf tags path
    × ((other : List ℕ) × IsPathOf tags other × IsFolderOf path other)

-- THE OPENING

abbrev pub FewLines : Files → Type 0
FewLines tags = (path : List ℕ) → ¬ HasManyLinesAt tags path

-- the bag can be judged by more than its declaration, or has a fault of the declaration
abbrev pub NotOutside : Files → Type 0
NotOutside tags = (cause : OutsideCause) → ¬ IsOutside (tag_bag tags) cause

abbrev pub NoOpeningFault : Files → Type 0
NoOpeningFault tags = (fault : Fault) → ¬ HasOpeningFault tags fault

-- a transfer can be opened with these tag files
pub record Opens (tags : Files) : Type 0 where
  pub few_lines : FewLines tags
  pub in_scope : IsInScope (tag_bag tags)
  pub no_fault : NoOpeningFault tags
  pub no_clash : (path : List ℕ) → ¬ IsClash tags path

-- the first reason in this order why it can't; `Memory` says nothing
abbrev pub RefusesTags : Files → PlanFault → Type 0
RefusesTags tags (TagTooLarge path) = IsFirstPath (HasManyLinesAt tags) path
RefusesTags tags (Outside cause) = FewLines tags × IsOutside (tag_bag tags) cause
RefusesTags tags (Rules fault) = FewLines tags × NotOutside tags × IsFirstOpeningFault tags fault
RefusesTags tags (Clash path) = FewLines tags × NotOutside tags × NoOpeningFault tags
    × IsFirstPath (IsClash tags) path
RefusesTags tags Memory = Unit {0}
