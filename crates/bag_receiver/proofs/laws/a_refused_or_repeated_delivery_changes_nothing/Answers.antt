use Rattle.std.proofs.Common.{List, ℕ, Contains, subst}
use Rattle.bag_receiver.proofs.HeldLemmas.{held_still}
use Rattle.bag_receiver.proofs.Words.{keys_of}
use Rattle.bag_receiver.proofs.laws.a_refused_or_repeated_delivery_changes_nothing.Goals as goal

pub returns-clause-refused : goal.returns-clause-refused
returns-clause-refused c old delivery rising refused = held_still old delivery rising (λ path content accepted. absurd (refused accepted.acceptance))

pub returns-clause-repeated : goal.returns-clause-repeated
returns-clause-repeated c old delivery rising held = held_still old delivery rising (λ path content accepted. subst (λ (p : List ℕ). Contains (keys_of old) p) accepted.brings.0 held)
