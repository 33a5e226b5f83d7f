-- The state while the files of a transfer are fetched.
use Rattle.std.specs.Prelude.{◌≡◌, ◌↔◌, ◌++◌, ◌∷◌, [], ℕ, Bool, true, List, Some, length, slice_get, string_bytes}
use Rattle.std.specs.Map.{keys_of}
use Rattle.bag_tags.specs.declared.fetch.FetchLine.{FetchLine}
use Rattle.bag_rules.specs.Faults.{Has}
use Rattle.bag_rules.specs.Plans.{AreFetchLines}
use Rattle.bag_rules.specs.Trees.{AreRising}
use Rattle.bag_ledger.specs.Ledgers.{Ledger, Transfer}
use Rattle.bag_receiver.specs.declared.fetch.FetchRequest.{FetchRequest}
use Rattle.bag_receiver.specs.TransferNames.{IsNamed}
use Rattle.bag_receiver.specs.Suppliers.{Reaches, Round}

-- the marks say which of the paths are held
pub record AreMarks (paths : List (List ℕ)) (marks : List Bool) (held : List (List ℕ))
    : Type 0 where
  pub one_each : length marks ≡ length paths
  pub exact : (i : ℕ) (path : List ℕ) → slice_get paths i ≡ Some path
      → (slice_get marks i ≡ Some true) ↔ Has held path

-- the request is for this line, and gives the index of its path among the paths
pub record IsRequest (paths : List (List ℕ)) (line : FetchLine) (request : FetchRequest)
    : Type 0 where
  pub line_is : request.line ≡ line.line
  pub url_is : string_bytes request.url ≡ line.entry.url
  pub path_is : request.path ≡ line.entry.path
  pub place_is : slice_get paths request.place ≡ Some line.entry.path

abbrev pub AreRequests : List (List ℕ) → List FetchLine → List FetchRequest → Type 0
AreRequests paths [] requests = requests ≡ []
AreRequests paths (line ∷ lines) [] = ⊥
AreRequests paths (line ∷ lines) (request ∷ requests) = IsRequest paths line request
    × AreRequests paths lines requests

-- these rounds are done, and these requests are left
pub record IsUnderWay (ledger : Ledger) (name : List ℕ) (marks : List Bool)
    (left : List FetchRequest) (rounds : List Round) : Type 0 where
  pub transfer : Transfer
  pub named : IsNamed ledger name (Some transfer)
  pub paths : List (List ℕ)
  pub rising : AreRising paths
  pub lines : List FetchLine
  pub are_lines : AreFetchLines transfer.tags lines
  pub lines_left : List FetchLine
  pub requests : AreRequests paths lines_left left
  pub held : List (List ℕ)
  pub are_marks : AreMarks paths marks held
  pub goes_on : (more : List Round) → Reaches held lines_left more
      → Reaches (keys_of transfer.items) lines (rounds ++ more)
