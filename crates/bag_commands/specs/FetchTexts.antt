-- The outcomes of a fetch as printed, and the status.
use Rattle.std.specs.Prelude.{ℕ, List, [], ◌∷◌, ◌++◌, Result, Ok, Err, codes, map}
use Rattle.std.specs.declared.alloc.Global.{Global}
use Rattle.std.specs.declared.vec.Vec.{Vec}
use Rattle.bag_path.specs.Spellings.{written_spelling}
use Rattle.bag_receiver.specs.declared.answer.Answer.TheVariants as answer
use Rattle.bag_receiver.specs.declared.fetch.FetchAnswer.{FetchAnswer}
use Rattle.bag_receiver.specs.declared.fetch.FetchAnswer.TheVariants as fetched
use Rattle.bag_receiver.specs.declared.fetch.FetchOutcome.{FetchOutcome}
use Rattle.bag_receiver.specs.declared.report.ViewFault.{ViewFault}
use Rattle.bag_commands.specs.declared.status.TheConstants.{DONE, FAILED, REFUSED}
use Rattle.bag_commands.specs.AnswerTexts.{answer_status, refusal_text}
use Rattle.bag_commands.specs.IntakeTexts.{greatest}
use Rattle.bag_commands.specs.ViewTexts.{view_fault_line, view_fault_status}

-- the line for what was asked for at this path; the path is spelled as in a manifest
abbrev pub fetched_text : List ℕ → FetchAnswer → List ℕ
fetched_text path fetched.Taken = codes "taken " ++ written_spelling path
fetched_text path fetched.NotSupplied = codes "refused " ++ written_spelling path
    ++ codes ": not supplied"
fetched_text path fetched.SupplierFailed = codes "refused " ++ written_spelling path
    ++ codes ": supplier"
fetched_text path (fetched.Refused why) = codes "refused " ++ written_spelling path ++ codes ": "
    ++ refusal_text why

abbrev pub outcome_text : FetchOutcome → List ℕ
outcome_text outcome = fetched_text outcome.path outcome.answer

-- a file that isn't supplied counts as refused; a failure of the supplier counts like a failed read
abbrev pub fetched_status : FetchAnswer → ℕ
fetched_status fetched.Taken = DONE
fetched_status fetched.NotSupplied = REFUSED
fetched_status fetched.SupplierFailed = FAILED
fetched_status (fetched.Refused why) = answer_status (answer.Refused why)

abbrev pub outcome_status : FetchOutcome → ℕ
outcome_status outcome = fetched_status outcome.answer

-- a line for each entry that was asked for, in order; or why none was
abbrev pub fetch_lines : Result (Vec FetchOutcome Global) ViewFault → List (List ℕ)
fetch_lines (Ok outcomes) = map outcome_text outcomes.items
fetch_lines (Err fault) = view_fault_line fault ∷ []

-- 3 if one status is 3, otherwise 1 if one is 1, otherwise 0
abbrev pub fetch_status : Result (Vec FetchOutcome Global) ViewFault → ℕ
fetch_status (Ok outcomes) = greatest (map outcome_status outcomes.items)
fetch_status (Err fault) = view_fault_status fault
