use Rattle.std.proofs.Common.{◌≡◌, ◌∷◌, ◌++◌, [], List, subst}
use Rattle.bag_ledger.specs.declared.keeper_faults.KeepFault.{KeepFault}
use Rattle.bag_rules.specs.Files.{Files}
use Rattle.bag_receiver.specs.declared.answer.Answer.{Answer}
use Rattle.bag_receiver.specs.declared.answer.Answer.TheVariants.{Refused}
use Rattle.bag_receiver.specs.declared.answer.DeliverFault.TheVariants.{Keeper}
use Rattle.bag_receiver.specs.Deliveries.{Delivery}
use Rattle.bag_receiver.specs.Stops.{AnswerStep, Answered, Cut, Event, Steps, TransferState}
use Rattle.bag_receiver.proofs.laws.a_delivery_without_an_answer_is_cut_by_a_stop.Goals as goal

module _ (tags : Files) (delivery : Delivery) (fault : KeepFault) (is : delivery.answer ≡ Refused (Keeper fault)) where
  cut : (events : List Event) (old new : TransferState) → Steps tags (events ++ Answered delivery ∷ []) old new → Steps tags (events ++ Cut delivery.text delivery.content ∷ []) old new
  cut [] old new steps = (steps.0, subst (λ (answer : Answer). AnswerStep tags delivery.text delivery.content answer old steps.0) is steps.1, steps.2)
  cut (event ∷ events) old new steps = (steps.0, steps.1, cut events steps.0 new steps.2)

pub returns : goal.returns
returns c now name tags events delivery fault is happened = (happened.0, cut tags delivery fault is events _ happened.0 happened.1, happened.2)
