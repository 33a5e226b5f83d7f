use Rattle.std.proofs.Common.{[], ap, subst, ◌∙◌, inl, inr}
use Rattle.bag_rules.proofs.TwoListed.{abd_does_not_pass}
use Rattle.bag_receiver.proofs.TwoDelivered.{after_stop}
use Rattle.bag_receiver.proofs.Words.{abd, file_a, StopStep, tags_of_two, TransferState, two}
use Rattle.bag_receiver.proofs.examples.no_stop_lets_another_content_be_held.Goals as goal

pub returns : goal.returns
returns c held run =
    let steps = run.1 in
    let stop = subst (λ s. StopStep tags_of_two s steps.2.0) steps.1 steps.2.1 in
    elim (after_stop [] file_a abd steps.2.0 stop) [
      | inl same ↦ ap (λ (s : TransferState). s.held) (steps.2.2 ∙ same)
      | inr more ↦ absurd (abd_does_not_pass tags_of_two two more.0)
    ]
