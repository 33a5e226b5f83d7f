-- How a command has ended, and what is told of it besides its lines.
use Rattle.std.specs.Prelude.{◌≡◌, ℕ, Bool, List, [], ◌∷◌, None, Option, Some, if◌then◌else◌, codes, find, length, nat_eq, nat_lt, not}
use Rattle.std.specs.List.{list_any}
use Rattle.std.specs.Str.{chars}
use Rattle.std.specs.Option.{option_map, option_or}
use Rattle.bag_commands.specs.declared.status.TheConstants.{USAGE}
use Rattle.bag_folder.specs.declared.fault.OpenFault.{OpenFault}
use Rattle.bag_folder.specs.declared.fault.OpenFault.TheVariants as open_fault
use Rattle.bag_folder.specs.Folders.{FolderShown, path_below}
use Rattle.bag_folder.specs.declared.root.Root.TheVariants.{Payload}
use Rattle.bag_folder.specs.Unfits.{UnfitShown}
use Rattle.bag_rules.specs.declared.limits.TheConstants.{MOST_FILES}
use Rattle.bag_rules.specs.declared.outcome.CheckFault.{CheckFault}
use Rattle.bag_rules.specs.declared.outcome.CheckFault.TheVariants as check_fault
use Rattle.bag_path.specs.Paths.{is_payload}
use Rattle.bag_rules.specs.Trees.{paths_in}
use Rattle.bag_receiver.specs.declared.begin.BeginFault.{BeginFault}
use Rattle.bag_receiver.specs.declared.begin.BeginFault.TheVariants as begin_fault
use Rattle.bag_receiver.specs.declared.run.TheConstants.{MOST_DELIVERIES}
use Rattle.bag_receiver.specs.TransferNames.{is_of_names}
use Rattle.bag_writer.specs.Writing.{payload_paths}
use Rattle.bag_writer.specs.declared.too_large.Large.{Large}
use Rattle.bag_writer.specs.declared.too_large.Large.TheVariants as large
use Rattle.bag_program.specs.declared.explanation.Ended.{Ended}
use Rattle.bag_program.specs.declared.told_limit.Limit.{Limit}
use Rattle.bag_program.specs.declared.told_limit.Limit.TheVariants as limit
use Rattle.bag_program.specs.declared.told_refusal.Refusal.{Refusal}
use Rattle.bag_program.specs.declared.told_refusal.Refusal.TheVariants as refusal
use Rattle.bag_program.specs.declared.explanation.Why.{Why}
use Rattle.bag_program.specs.declared.explanation.Why.TheVariants.{Empty, Exceeds, Ledger, Refused, Unfit, UnknownAlgorithm}
use Rattle.bag_program.specs.declared.ledgers.ledger_cause.LedgerCause.{LedgerCause}

-- a command with this status, of which nothing is told
abbrev pub plain : ℕ → Ended
plain status = record { status = status; why = None }

-- the first reason, if there is one, and otherwise the second; a refusal, or that a folder is empty, comes last
abbrev pub first_why : Option Why → Option Why → Option Why
first_why None why = why
first_why (Some (Empty folder)) why = option_or why (Some (Empty folder))
first_why (Some (Refused named)) why = option_or why (Some (Refused named))
first_why (Some (Unfit unfit)) why = Some (Unfit unfit)
first_why (Some (Exceeds limit)) why = Some (Exceeds limit)
first_why (Some (Ledger cause)) why = Some (Ledger cause)
first_why (Some UnknownAlgorithm) why = Some UnknownAlgorithm

-- the same status, with the reason that comes first
abbrev pub or_why : Ended → Option Why → Ended
or_why ended why = record { status = ended.status; why = first_why ended.why why }

-- why a folder wasn't opened or made: what can't be used, unless memory ran out
abbrev pub why_unopened : OpenFault → Option Why
why_unopened (open_fault.Files unfit) = Some (Unfit unfit)
why_unopened open_fault.Memory = None

-- what is told of a folder, by how many times it has failed and what couldn't be used the last time: nothing if it
-- hasn't failed
abbrev pub why_failed : ℕ → Option UnfitShown → Option Why
why_failed failures trouble = if nat_eq failures 0 then None else option_map Unfit trouble

-- a name, if it is to be told
abbrev pub name_if : Bool → List ℕ → Option (List ℕ)
name_if is_told name = if is_told then Some name else None

-- the name of a folder without payload files
abbrev pub name_if_empty : FolderShown → Option (List ℕ)
name_if_empty tree = name_if (not (list_any is_payload (paths_in tree.shown))) tree.folder

-- the name of a folder with more payload files than one run delivers
abbrev pub name_if_crowded : FolderShown → Option (List ℕ)
name_if_crowded tree =
    name_if (nat_lt MOST_DELIVERIES (length (payload_paths tree.shown))) tree.folder

-- the first name that is given so of one of several folders
abbrev pub first_name : (FolderShown → Option (List ℕ)) → List FolderShown → Option (List ℕ)
first_name named [] = None
first_name named (tree ∷ trees) = option_or (named tree) (first_name named trees)

-- what is told if a limit is exceeded by something with this name
abbrev pub why_exceeds : List ℕ → Limit → Option Why
why_exceeds name exceeded = Some (Exceeds (record { name = name; what = exceeded }))

-- what is told of folders whose payload files are delivered: the first of them that has too many, and otherwise the
-- first without any
abbrev pub why_undelivered : Option (List ℕ) → Option (List ℕ) → Option Why
why_undelivered (Some crowded) empty = why_exceeds crowded limit.Deliveries
why_undelivered None empty = option_map Empty empty

abbrev pub why_undelivered_of : List FolderShown → Option Why
why_undelivered_of trees =
    why_undelivered (first_name name_if_crowded trees) (first_name name_if_empty trees)

-- There are too many files in the folder, or too many lines in a tag file: the one that was looked up last.
abbrev pub why_too_many : FolderShown → Option Why
why_too_many tree = if nat_lt MOST_FILES (length (paths_in tree.shown))
    then why_exceeds tree.folder limit.Files else why_exceeds tree.name limit.Lines

-- what is told of a folder whose check ended with this fault, if with one: what couldn't be used the last time, or
-- what exceeds a limit
abbrev pub why_unchecked : FolderShown → Option CheckFault → Option Why
why_unchecked tree (Some check_fault.Tree) = option_map Unfit tree.trouble
why_unchecked tree (Some (check_fault.TagTooLarge path)) =
    why_exceeds tree.folder (limit.TagFile path)
why_unchecked tree (Some (check_fault.TooLarge path)) = why_exceeds tree.folder (limit.File path)
why_unchecked tree (Some check_fault.TooMany) = why_too_many tree
why_unchecked tree fault = None

-- what is said of a name, of a tag file or of a transfer that was refused
abbrev pub refusal_text : Refusal → List ℕ
refusal_text (refusal.Name odd) = codes "a name has 1 to 64 of the characters a to z, 0 to 9 and -"
refusal_text (refusal.TagFile path) =
    codes "it has more than 16,777,216 octets, or more than 100,000 lines"
refusal_text refusal.Differs = codes
    "it is open with other tag files, which are never replaced; use another name"

-- the first character of a text that no name of a transfer has
abbrev pub first_odd : List ℕ → Option ℕ
first_odd text = find (λ c. not (is_of_names c)) (chars text)

-- the refusal of the transfer with this name is told, unless memory ran out
abbrev pub IsToldOf : List ℕ → Refusal → Option Why → Type 0
IsToldOf name what None = Unit {0}
IsToldOf name what (Some why) = why ≡ Refused (record { name = name; what = what })

-- what is told of a folder and the name of a transfer, by the fault for which it was not opened, if it was not: what
-- couldn't be used the last time, which tag file is too large, which character no name has, or what may be done
abbrev pub IsWhyUnbegun : FolderShown → List ℕ → Option BeginFault → Option Why → Type 0
IsWhyUnbegun tree name (Some begin_fault.Tree) why = why ≡ option_map Unfit tree.trouble
IsWhyUnbegun tree name (Some (begin_fault.TagTooLarge path)) why =
    why ≡ Some (Refused (record { name = tree.folder; what = refusal.TagFile path }))
IsWhyUnbegun tree name (Some begin_fault.BadName) why =
    IsToldOf name (refusal.Name (first_odd name)) why
IsWhyUnbegun tree name (Some begin_fault.Differs) why = IsToldOf name refusal.Differs why
IsWhyUnbegun tree name fault why = why ≡ None

-- the path of the file that exceeds a limit, below the folder that is named
abbrev pub told_path : Limit → Option (List ℕ)
told_path (limit.TagFile path) = Some path
told_path (limit.File path) = Some path
told_path (limit.NewFile path) = Some (path_below Payload path)
told_path limit.Files = None
told_path limit.Lines = None
told_path limit.NewPayload = None
told_path (limit.NewTagFile path) = None
told_path limit.Deliveries = None

-- the path of the tag file that would exceed it, in the bag that isn't made
abbrev pub unmade_path : Limit → Option (List ℕ)
unmade_path (limit.NewTagFile path) = Some path
unmade_path (limit.TagFile path) = None
unmade_path (limit.File path) = None
unmade_path limit.Files = None
unmade_path limit.Lines = None
unmade_path limit.NewPayload = None
unmade_path (limit.NewFile path) = None
unmade_path limit.Deliveries = None

-- what is said of the thing that exceeds a limit
abbrev pub limit_text : Limit → List ℕ
limit_text (limit.TagFile path) = codes "it has more than 16,777,216 octets"
limit_text (limit.File path) = codes "it has more than 1,099,511,627,776 octets"
limit_text (limit.NewFile path) = codes "it has more than 1,099,511,627,776 octets"
limit_text limit.Files = codes "it has more than 200,000 files"
limit_text limit.Lines = codes "it has more than 100,000 lines"
limit_text limit.NewPayload = codes "it has more than 100,000 files"
limit_text (limit.NewTagFile path) = codes "would have more than 16,777,216 octets"
limit_text limit.Deliveries = codes "it has more than 1,000,000 payload files below data/"

-- the limit that is exceeded by what is too large to be written
abbrev pub limit_of : Large → Limit
limit_of large.Payload = limit.NewPayload
limit_of (large.File path) = limit.NewFile path
limit_of (large.TagFile path) = limit.NewTagFile path

-- what is told of a payload of which a bag was to be made, by the status: what is too large, or which algorithms are
-- known, or if its folder failed what couldn't be used the last time
abbrev pub why_unmade : FolderShown → ℕ → Option Large → Option Why
why_unmade tree status (Some what) = why_exceeds tree.folder (limit_of what)
why_unmade tree status None = if nat_eq status USAGE then Some UnknownAlgorithm
    else why_failed tree.failures tree.trouble

-- what is told of a ledger with this name for a cause: nothing if there is none, or memory ran out
abbrev pub IsWhyOf : List ℕ → Option LedgerCause → Option Why → Type 0
IsWhyOf name cause None = Unit {0}
IsWhyOf name cause (Some why) = (known : LedgerCause) × (cause ≡ Some known)
    × (why ≡ Ledger (record { name = name; what = known }))
