use Rattle.std.proofs.Common.{◌≡◌, [], ◌∷◌, refl, ap, subst, ◌∙◌, inl, inr}
use Rattle.bag_receiver.proofs.TwoDelivered.{after_stop_alone, after_taken, passes_a}
use Rattle.bag_receiver.proofs.Words.{abc, file_a, file_e, nothing_held, only_e, StopStep, tags_of_two, transfer_state, TransferState, with_file}
use Rattle.bag_receiver.proofs.examples.a_stop_settles_what_had_no_answer.Goals as goal
use Rattle.bag_receiver.proofs.HeldLemmas.{none_held}

pub returns : goal.returns
returns c = (
  ([], (transfer_state [] ((file_a, abc) ∷ []), refl, (nothing_held, record { settled = refl; held = inl refl }, refl))),
  (
    [],
    (
      transfer_state [] ((file_a, abc) ∷ []),
      refl,
      (
        transfer_state ((file_a, abc) ∷ []) [],
        record { settled = refl; held = inr (file_a, abc, inl refl, record { passes = passes_a; not_held = none_held file_a; becomes = refl }) },
        refl,
      ),
    ),
  ),
  λ held run.
      let steps = run.1 in
      let second : steps.2.0 ≡ transfer_state only_e [] = after_taken file_e [] steps.0 steps.2.0 steps.2.1 ∙ ap (λ (s : TransferState). transfer_state (with_file s.held file_e []) []) steps.1 in
      let stop = subst (λ s. StopStep tags_of_two s steps.2.2.0) second steps.2.2.1 in
      ap (λ (s : TransferState). s.held) steps.2.2.2 ∙ after_stop_alone only_e steps.2.2.0 stop,
)
