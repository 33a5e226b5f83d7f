use Rattle.bag_receiver.proofs.HeldLemmas.{accepted_same, held_accepted, one_left, one_right}
use Rattle.bag_receiver.proofs.laws.lists_of_which_the_same_was_accepted_leave_the_same_files.Goals as goal
use Rattle.bag_rules.proofs.HasLemmas.{has_left, has_right}

pub returns : goal.returns
returns c tags deliveries others held other one passing same h k = accepted_same deliveries others held other same
    (held_accepted tags deliveries held (one_left tags deliveries others one) (λ path content a. passing path content (a.0, has_left deliveries others a.0 a.1, a.2)) h)
    (held_accepted tags others other (one_right tags deliveries others one) (λ path content a. passing path content (a.0, has_right deliveries others a.0 a.1, a.2)) k)
