use Rattle.std.proofs.Common.{[], ◌∷◌, refl, inl}
use Rattle.bag_receiver.proofs.FileLemmas.{path_held}
use Rattle.bag_receiver.proofs.HeldLemmas.{held_joined, held_more, held_still, none_held}
use Rattle.std.specs.List.Sorted.{IsStrictlySortedBy}
use Rattle.bag_receiver.proofs.Words.{delivered, Repeated, Taken}
use Rattle.bag_receiver.proofs.examples.the_first_accepted_content_is_held.Goals as goal

pub returns : goal.returns
unfolding IsStrictlySortedBy
returns c path content other =
    let first = held_more [] (delivered path content Taken) path content tt record { brings = (refl, refl); acceptance = tt } (none_held path) in
    held_joined [] ((path, content) ∷ []) ((path, content) ∷ []) (delivered path content Taken ∷ []) (delivered path other Repeated ∷ []) first
    (held_still ((path, content) ∷ []) (delivered path other Repeated) (tt, tt) (λ p o accepted. path_held ((path, content) ∷ []) p content (inl (λ t. (accepted.brings.0 t, content)))))
