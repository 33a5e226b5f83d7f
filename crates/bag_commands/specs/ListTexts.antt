-- The names of transfers as printed, and the status.
use Rattle.std.specs.Prelude.{ℕ, List, [], ◌∷◌, Result, Ok, Err, map, string_bytes}
use Rattle.std.specs.declared.alloc.Global.{Global}
use Rattle.std.specs.declared.string.String.{String}
use Rattle.std.specs.declared.vec.Vec.{Vec}
use Rattle.bag_path.specs.Spellings.{written_spelling}
use Rattle.bag_ledger.specs.declared.keeper_faults.KeepFault.{KeepFault}
use Rattle.bag_commands.specs.declared.status.TheConstants.{DONE, FAILED}
use Rattle.bag_commands.specs.NoResultTexts.{no_result_of_keep, no_result_text}

-- a name is spelled as a path is in a manifest, so that any text stays on its line
abbrev pub name_text : String Global → List ℕ
name_text name = written_spelling (string_bytes name)

-- each on its own line; or why they can't be read
abbrev pub list_lines : Result (Vec (String Global) Global) KeepFault → List (List ℕ)
list_lines (Ok names) = map name_text names.items
list_lines (Err fault) = no_result_text (no_result_of_keep fault) ∷ []

abbrev pub list_status : Result (Vec (String Global) Global) KeepFault → ℕ
list_status (Ok names) = DONE
list_status (Err fault) = FAILED
