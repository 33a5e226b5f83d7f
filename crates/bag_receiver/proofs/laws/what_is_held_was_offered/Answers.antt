use Rattle.bag_receiver.proofs.StepLemmas.{run_offered, run_passes}
use Rattle.bag_receiver.proofs.laws.what_is_held_was_offered.Goals as goal

pub returns-clause-offered : goal.returns-clause-offered
returns-clause-offered c tags events held run = run_offered tags events (record { held = held; doubtful = run.0 }) run.1

pub returns-clause-passes : goal.returns-clause-passes
returns-clause-passes c tags events held run = run_passes tags events (record { held = held; doubtful = run.0 }) run.1
