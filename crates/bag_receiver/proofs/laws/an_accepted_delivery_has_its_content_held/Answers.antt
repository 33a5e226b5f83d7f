use Rattle.bag_receiver.proofs.StepLemmas.{run_content}
use Rattle.bag_receiver.proofs.laws.an_accepted_delivery_has_its_content_held.Goals as goal

pub returns : goal.returns
returns c tags events held delivery path content one run there accepted =
    run_content tags events (record { held = held; doubtful = run.0 }) run.1 delivery path content one there accepted
