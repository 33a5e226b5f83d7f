-- The verdict on a bag: its faults in order, or why it can't be judged.
use Rattle.std.specs.Prelude.{◌≡◌, ◌≢◌, ◌↔◌, ◌<◌, ◌≤◌, ◌∷◌, [], ℕ, Contains, false, IsErrOf, List, IsSome, MatchResult, None, Result, length, nat_le, string_bytes, if◌then◌else◌}
use Rattle.std.specs.Ordering.{nat_cmp}
use Rattle.std.specs.Cmp.Lexicographic.{slice_cmp}
use Rattle.std.specs.declared.cmp.Ordering.TheVariants.{Greater}
use Rattle.bag_tags.specs.declared.declaration.Declaration.{Declaration}
use Rattle.bag_tags.specs.Declarations.{version_of}
use Rattle.bag_tags.specs.Names.{IsUnknownManifest}
use Rattle.bag_rules.specs.declared.fault.Fault.{Fault}
use Rattle.bag_rules.specs.declared.fault.Fault.TheVariants.{NoDeclaration}
use Rattle.bag_rules.specs.declared.limits.TheConstants.{MOST_FILES}
use Rattle.bag_rules.specs.declared.outcome.CheckFault.{CheckFault}
use Rattle.bag_rules.specs.declared.outcome.CheckFault.TheVariants.{Memory, TooMany}
use Rattle.bag_rules.specs.declared.outcome.Outcome.{Outcome}
use Rattle.bag_rules.specs.declared.outcome.Outcome.TheVariants.{Judged, Outside}
use Rattle.bag_rules.specs.declared.scope.OutsideCause.{OutsideCause}
use Rattle.bag_rules.specs.declared.scope.OutsideCause.TheVariants.{Version, Encoding, Algorithm}
use Rattle.bag_rules.specs.Bags.{Bag, IsThere, Declares, IsDeclared, declaration_file}
use Rattle.bag_rules.specs.HasFault.{HasFault}
use Rattle.bag_rules.specs.Faults.{Has, AreInOrder, last_of_declaration, last_of_form, number_of}

-- Faults come in three tiers: those of the declaration (kinds 1 and 2), of the form (3 to 8), and of the files (9 to
-- 14). A report has the faults of the first tier in which there are any.
abbrev pub tier_of : Fault → ℕ
tier_of fault =
    if nat_le (number_of fault) last_of_declaration then 1
    else if nat_le (number_of fault) last_of_form then 2 else 3

-- the bag has no fault of a lower tier
abbrev pub NoneBelow : ℕ → Bag → Type 0
NoneBelow tier bag = (fault : Fault) → tier_of fault < tier → ¬ HasFault bag fault

-- the bag declares UTF-8 and a known version, and the algorithm of each manifest is known
pub record IsInScope (bag : Bag) : Type 0 where
  pub declared : IsDeclared bag
  pub known : (path word : List ℕ) → IsThere bag path → ¬ IsUnknownManifest path word

-- The faults are those of the first tier in which the bag has any, in order and each once. Only a bag in scope is
-- judged by more than its declaration.
pub record IsJudged (bag : Bag) (faults : List Fault) : Type 0 where
  pub in_order : AreInOrder faults
  pub exact : (fault : Fault) → Has faults fault
      ↔ (HasFault bag fault × NoneBelow (tier_of fault) bag)
  pub in_scope : NoneBelow 2 bag → IsInScope bag

-- the algorithm of the first manifest by file name whose algorithm isn't known
pub record IsFirstUnknown (bag : Bag) (word : List ℕ) : Type 0 where
  pub path : List ℕ
  pub there : IsThere bag path
  pub unknown : IsUnknownManifest path word
  pub first : (other other_word : List ℕ) → IsThere bag other → IsUnknownManifest other other_word
      → slice_cmp nat_cmp path other ≢ Greater

-- the bag has a declaration that can be read, and this is the first cause for which it can't be judged
abbrev pub IsOutside : Bag → OutsideCause → Type 0
IsOutside bag Version = (declaration : Declaration) × Declares bag declaration
    × (version_of declaration ≡ None)
IsOutside bag Encoding = (declaration : Declaration) × Declares bag declaration
    × IsSome (version_of declaration) × (declaration.utf8 ≡ false)
IsOutside bag (Algorithm name) = IsDeclared bag × IsFirstUnknown bag (string_bytes name)

abbrev pub IsVerdict : Bag → Outcome → Type 0
IsVerdict bag (Judged faults) = IsJudged bag faults
IsVerdict bag (Outside cause) = IsOutside bag cause

-- What is answered whatever octets the files have: that there are too many of them, or that there is no declaration.
abbrev pub AnswersPaths : List (List ℕ) → Result Outcome CheckFault → Type 0
AnswersPaths paths answer = (MOST_FILES < length paths → IsErrOf answer TooMany)
    × (length paths ≤ MOST_FILES → ¬ Contains paths declaration_file → MatchResult answer
    (λ outcome. outcome ≡ Judged (NoDeclaration ∷ [])) (λ fault. fault ≡ Memory))
