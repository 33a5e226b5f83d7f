-- The lines printed for runs of deliveries, and the status.
use Rattle.std.specs.Prelude.{ℕ, List, [], ◌∷◌, ◌++◌, Option, Some, None, fold, map, max}
use Rattle.std.specs.List.{flat_map, zip}
use Rattle.bag_receiver.specs.declared.answer.Answer.{Answer}
use Rattle.bag_receiver.specs.declared.run.End.{End}
use Rattle.bag_receiver.specs.declared.run.End.TheVariants as end
use Rattle.bag_commands.specs.declared.status.TheConstants.{DONE, FAILED}
use Rattle.bag_commands.specs.declared.no_result.NoResult.{NoResult}
use Rattle.bag_commands.specs.declared.no_result.NoResult.TheVariants as no_result
use Rattle.bag_commands.specs.AnswerTexts.{answer_status, answer_text}
use Rattle.bag_commands.specs.NoResultTexts.{no_result_text}

-- a run: the paths delivered for, the answers, and how it ended
pub record Told : Type 0 where
  pub paths : List (List ℕ)
  pub answers : List Answer
  pub ended : End

-- why a run ended before everything was delivered
abbrev pub no_result_of_end : End → Option NoResult
no_result_of_end end.Done = None
no_result_of_end end.TooMany = Some no_result.TooMany
no_result_of_end end.Courier = Some no_result.Files
no_result_of_end end.Memory = Some no_result.Memory

abbrev pub no_result_lines : Option NoResult → List (List ℕ)
no_result_lines None = []
no_result_lines (Some why) = no_result_text why ∷ []

-- a line for each delivery, in order
abbrev pub answer_lines : List (List ℕ) → List Answer → List (List ℕ)
answer_lines paths answers =
    map (λ (told : List ℕ × Answer). answer_text told.0 told.1) (zip paths answers)

-- followed by the reason why there were no more
abbrev pub run_lines : Told → List (List ℕ)
run_lines told =
    answer_lines told.paths told.answers ++ no_result_lines (no_result_of_end told.ended)

-- run by run
abbrev pub intake_lines : List Told → List (List ℕ)
intake_lines runs = flat_map run_lines runs

-- 3 if one status is 3, otherwise 1 if one is 1, otherwise 0
abbrev pub greatest : List ℕ → ℕ
greatest statuses = fold max DONE statuses

-- a run that didn't deliver everything has failed
abbrev pub end_status : End → ℕ
end_status end.Done = DONE
end_status ended = FAILED

abbrev pub run_status : Told → ℕ
run_status told = greatest (map answer_status told.answers ++ end_status told.ended ∷ [])

abbrev pub intake_status : List Told → ℕ
intake_status runs = greatest (map run_status runs)
