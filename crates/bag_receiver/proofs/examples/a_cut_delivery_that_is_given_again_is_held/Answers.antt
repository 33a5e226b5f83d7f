use Rattle.std.proofs.Common.{[], ◌∷◌, ap, ◌∙◌}
use Rattle.bag_receiver.proofs.StepLemmas.{steps_parted}
use Rattle.bag_receiver.proofs.TwoDelivered.{after_again, after_cut, cut_events}
use Rattle.bag_receiver.proofs.Words.{abc, Answered, delivered, file_a, file_e, nothing_held, Repeated, tags_of_two, transfer_state, TransferState}
use Rattle.bag_receiver.proofs.examples.a_cut_delivery_that_is_given_again_is_held.Goals as goal

pub returns : goal.returns
returns c again held was run =
    let parts = steps_parted tags_of_two cut_events (Answered (delivered file_e [] Repeated) ∷ Answered (delivered file_a abc again) ∷ []) nothing_held (transfer_state held run.0) run.1 in
    let rest = parts.2 in
    ap (λ (s : TransferState). s.held) rest.2.2 ∙ after_again again was parts.0 rest.0 rest.2.0 (after_cut parts.0 parts.1) rest.1.2 rest.2.1
