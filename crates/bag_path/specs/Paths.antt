-- Paths of files below a bag's base directory, as octets (RFC 8493 section 2.1.3). The rules for segments and the
-- greatest length are this project's own.
use Rattle.std.specs.Prelude.{◌≡◌, ◌≢◌, ◌≤◌, ◌==◌, ◌||◌, ℕ, Bool, List, [], Option, Some, None, All, length, nat_lt, nat_eq, if◌then◌else◌, codes}
use Rattle.std.specs.List.{list_any, slice_split, starts_with}
use Rattle.std.specs.Str.{IsUtf8, bytes_eq}
use Rattle.bag_path.specs.declared.path.TheConstants.{LONGEST_PATH}
use Rattle.bag_path.specs.declared.path.PathFault.{PathFault}
use Rattle.bag_path.specs.declared.path.PathFault.TheVariants.{Empty, TooLong, EmptySegment, DotSegment, Nul, PayloadRoot, Memory}
use Rattle.bag_path.specs.Octets.{nul, slash}

-- the parts of a path between its slashes, before the first and after the last
abbrev pub segments : List ℕ → List (List ℕ)
segments path = slice_split (λ octet. octet == slash) path

-- neither `.` nor `..`
abbrev pub IsNoDotSegment : List ℕ → Type 0
IsNoDotSegment segment = (segment ≢ codes ".") × (segment ≢ codes "..")

-- these octets are a path
pub record IsPath (path : List ℕ) : Type 0 where
  pub utf8 : IsUtf8 path
  pub some_octet : path ≢ []
  pub not_too_long : length path ≤ LONGEST_PATH
  pub no_empty_segment : All (λ segment. segment ≢ []) (segments path)
  pub no_dot_segment : All IsNoDotSegment (segments path)
  pub no_nul : All (λ octet. octet ≢ nul) path
  pub not_payload_root : path ≢ codes "data"

abbrev pub is_empty_segment : List ℕ → Bool
is_empty_segment segment = length segment == 0

abbrev pub is_dot_segment : List ℕ → Bool
is_dot_segment segment = bytes_eq segment (codes ".") || bytes_eq segment (codes "..")

-- whether some segment passes the test
abbrev pub has_segment : (List ℕ → Bool) → List ℕ → Bool
has_segment test path = list_any test (segments path)

-- the first fault of these octets, if they have one
unfoldable pub path_fault : List ℕ → Option PathFault
path_fault path =
    if length path == 0 then Some Empty
    else if nat_lt LONGEST_PATH (length path) then Some TooLong
    else if has_segment is_empty_segment path then Some EmptySegment
    else if has_segment is_dot_segment path then Some DotSegment
    else if list_any (λ octet. octet == nul) path then Some Nul
    else if bytes_eq path (codes "data") then Some PayloadRoot
    else None

-- whether it is the path of a payload file
abbrev pub is_payload : List ℕ → Bool
is_payload path = starts_with nat_eq path (codes "data/")

-- a fault that is returned for these octets: their first one, or `Memory`
abbrev pub RefusesPath : PathFault → List ℕ → Type 0
RefusesPath Memory path = Unit {0}
RefusesPath fault path = path_fault path ≡ Some fault
