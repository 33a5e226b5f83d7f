-- What is reported of a run, given the receiver's answer.
use Rattle.std.specs.Prelude.{ℕ, List}
use Rattle.bag_receiver.specs.declared.run.Run.{Run}
use Rattle.bag_commands.specs.IntakeTexts.{Told}

abbrev pub told_of : Run → List (List ℕ) → Told
told_of run paths = record { paths = paths; answers = run.answers.items; ended = run.ended }
