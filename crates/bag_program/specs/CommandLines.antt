-- The command lines that the program knows.
use Rattle.std.specs.Prelude.{◌≡◌, ◌≢◌, ◌&&◌, ◌||◌, ⊤, ℕ, Bool, IsTrue, List, None, Option, Some, [], ◌∷◌, codes, false, if◌then◌else◌, length, map, nat_eq, nat_lt, option_map, string_bytes, true}
use Rattle.std.specs.List.{starts_with}
use Rattle.std.specs.Str.{bytes_eq}
use Rattle.bag_program.specs.declared.command_line.Request.{Request}
use Rattle.bag_program.specs.declared.command_line.Request.TheVariants.{Check, Make, Ledger}
use Rattle.bag_program.specs.declared.usage.Usage.{Usage}
use Rattle.bag_program.specs.declared.usage.Usage.TheVariants.{Help, Refused}
use Rattle.bag_program.specs.declared.command_line.Work.{Work}
use Rattle.bag_program.specs.declared.command_line.Work.TheVariants.{Begin, Intake, Report, Audit, Fetch, Export, List as Listing}

-- a hyphen followed by anything else
abbrev pub is_option : List ℕ → Bool
is_option word = nat_lt 1 (length word) && starts_with nat_eq word (codes "-")

-- The operands among the arguments after a command's name: those before the first `--`, none of which may be an option,
-- and all after it.
abbrev pub operands_of : List (List ℕ) → Option (List (List ℕ))
operands_of [] = Some []
operands_of (word ∷ words) =
    if bytes_eq word (codes "--") then Some words
    else if is_option word then None
    else option_map (λ operands. word ∷ operands) (operands_of words)

-- HELP

-- `--help`, `--version`, or one hyphen before letters of which the first is that of one of these
abbrev pub is_help_option : List ℕ → Bool
is_help_option word = bytes_eq word (codes "--help") || bytes_eq word (codes "--version")
    || starts_with nat_eq word (codes "-h") || starts_with nat_eq word (codes "-V")

-- one of the arguments before the first `--` is such an option
abbrev pub has_help_option : List (List ℕ) → Bool
has_help_option [] = false
has_help_option (word ∷ words) = if bytes_eq word (codes "--") then false
    else if is_help_option word then true
    else has_help_option words

-- the arguments ask for help, or for the version: by such an option, or by `help` in place of a command
abbrev pub asks_for_help : List (List ℕ) → Bool
asks_for_help [] = false
asks_for_help (word ∷ words) =
    if bytes_eq word (codes "help") then true else has_help_option (word ∷ words)

-- help is the answer to arguments that ask for it
abbrev pub IsAnswerTo : List (List ℕ) → Usage → Type 0
IsAnswerTo words (Help text) = IsTrue (asks_for_help words)
IsAnswerTo words (Refused text) = ⊤

-- COMMANDS AND THEIR OPERANDS

-- the arguments are this command's name, followed by arguments with these operands
abbrev pub Names : List ℕ → List (List ℕ) → List (List ℕ) → Type 0
Names command words operands = (rest : List (List ℕ)) × (words ≡ command ∷ rest)
    × (operands_of rest ≡ Some operands)

-- WORK ON A LEDGER

abbrev pub work_name : Work → List ℕ
work_name (Begin name folder) = codes "begin"
work_name (Intake name folders) = codes "intake"
work_name (Report name) = codes "report"
work_name (Audit name) = codes "audit"
work_name (Fetch name folder) = codes "fetch"
work_name (Export name folder) = codes "export"
work_name Listing = codes "list"

-- its operands after the ledger
abbrev pub work_operands : Work → List (List ℕ)
work_operands (Begin name folder) = name.now ∷ folder.now ∷ []
work_operands (Intake name folders) = name.now ∷ map string_bytes folders.now
work_operands (Report name) = name.now ∷ []
work_operands (Audit name) = name.now ∷ []
work_operands (Fetch name folder) = name.now ∷ folder.now ∷ []
work_operands (Export name folder) = name.now ∷ folder.now ∷ []
work_operands Listing = []

-- at least one folder
abbrev pub IsWholeWork : Work → Type 0
IsWholeWork (Intake name folders) = folders.now ≢ []
IsWholeWork work = ⊤

abbrev pub AsksForWork : List ℕ → List (List ℕ) → Work → Type 0
AsksForWork command operands work =
    (command ≡ work_name work) × (operands ≡ work_operands work) × IsWholeWork work

-- COMMANDS

abbrev pub request_name : Request → List ℕ
request_name (Check folder) = codes "check"
request_name (Make source destination algorithms) = codes "make"
request_name (Ledger ledger work) = work_name work

abbrev pub operands_in : Request → List (List ℕ)
operands_in (Check folder) = folder.now ∷ []
operands_in (Make source destination algorithms) =
    source.now ∷ destination.now ∷ map string_bytes algorithms.now
operands_in (Ledger ledger work) = ledger.now ∷ work_operands work

-- at least one algorithm
abbrev pub IsWhole : Request → Type 0
IsWhole (Check folder) = ⊤
IsWhole (Make source destination algorithms) = algorithms.now ≢ []
IsWhole (Ledger ledger work) = IsWholeWork work

-- this is the request of a command with these operands
abbrev pub IsRequest : List ℕ → List (List ℕ) → Request → Type 0
IsRequest command operands request =
    (command ≡ request_name request) × (operands ≡ operands_in request) × IsWhole request

-- the arguments ask for this request
abbrev pub AsksFor : List (List ℕ) → Request → Type 0
AsksFor words request = Names (request_name request) words (operands_in request) × IsWhole request

-- the arguments are a known command with its operands
abbrev pub NamesCommand : List (List ℕ) → Type 0
NamesCommand words = (request : Request) × AsksFor words request
