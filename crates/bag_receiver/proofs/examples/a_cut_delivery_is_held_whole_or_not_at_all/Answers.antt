use Rattle.std.proofs.Common.{[], ◌∷◌, refl, ap, inl, inr}
use Rattle.bag_receiver.proofs.TwoDelivered.{a_not_held, after_cut, passes_a, passes_e, taken}
use Rattle.bag_receiver.proofs.Words.{abc, both, file_a, file_e, only_e, transfer_state, TransferState}
use Rattle.bag_receiver.proofs.examples.a_cut_delivery_is_held_whole_or_not_at_all.Goals as goal
use Rattle.bag_receiver.proofs.HeldLemmas.{none_held}

pub returns : goal.returns
returns c = (
  ([], (transfer_state only_e [], taken file_e [] [] [] passes_e (none_held file_e), (transfer_state only_e ((file_a, abc) ∷ []), refl, (transfer_state only_e [], record { settled = refl; held = inl refl }, refl)))),
  (
    [],
    (
      transfer_state only_e [],
      taken file_e [] [] [] passes_e (none_held file_e),
      (
        transfer_state only_e ((file_a, abc) ∷ []),
        refl,
        (
          transfer_state both [],
          record { settled = refl; held = inr (file_a, abc, inl refl, record { passes = passes_a; not_held = a_not_held; becomes = refl }) },
          refl,
        ),
      ),
    ),
  ),
  λ held run. elim (after_cut (transfer_state held run.0) run.1) [ inl e ↦ inl (ap (λ (s : TransferState). s.held) e) | inr e ↦ inr (ap (λ (s : TransferState). s.held) e) ],
)
