-- Runs of deliveries from a courier.
use Rattle.std.proofs.Common.{◌≡◌, ◌+◌, ℕ, List, [], ◌∷◌, ◌++◌, Option, Some, None, length, true, Ok, Err, Result, get_or, refl, sym, ap, subst, ◌∙◌, arith}
use Rattle.std.proofs.Math.Seq.{get_or-append_seam}
use Rattle.bag_digest.proofs.Progress.{all_known, more_known}
use Rattle.bag_receiver.specs.declared.run.End.{End}
use Rattle.bag_receiver.specs.declared.run.End.TheVariants as end
use Rattle.bag_receiver.specs.Couriers.{AreOf, AreTold, IsOf, courier_failures, read_failure}
use Rattle.bag_receiver.proofs.RunLemmas.{ran_more, ran_nothing}
use Rattle.bag_receiver.proofs.Words.{Answer, BadPath, Brought, CallsNext, ComesNext, Content, CountsEach, CountsIf, Delivery, delivery_of, Digest, Does, Files, IsAnswer, Keeper, LARGEST_ITEM, Ledger, Length, length-map, map-append, NotListed, NoTransfer, one_more, read_failures, Reader, Receiver, Receives, Refused, Repeated, Rises, Runs, Store, StoreFault, Taken, TooLarge, TooLong, Unread, Whole}

-- WHAT IS STILL TO COME

-- what the courier brought is what a delivery of its octets brings
pub is_of : (octets : List ℕ) (old new : Option (List ℕ)) (content : Content) → old ≡ Some octets → Brought old new content → IsOf octets content
is_of octets old new (Whole content) known brought = (all_known octets content old new LARGEST_ITEM known brought).0
is_of octets old new TooLong known brought = more_known octets old new LARGEST_ITEM known brought
is_of octets old new Unread known brought = tt

are_more : (coming : Option Files) (deliveries : List Delivery) (delivery : Delivery) (left after : Option Files) (old new : Option (List ℕ)) → AreOf coming deliveries left
    → ComesNext left true (Some delivery.text) old after → Brought old new delivery.content → AreOf coming (deliveries ++ delivery ∷ []) after
are_more None deliveries delivery left after old new are comes brought = subst (λ (l : Option Files). ComesNext l true (Some delivery.text) old after) are comes
are_more (Some items) [] delivery left after old new are comes brought =
    let (item, (rest, is, path, known, then)) = subst (λ (l : Option Files). ComesNext l true (Some delivery.text) old after) are comes in
    let same : delivery.text ≡ item.0 = cc path in
    subst (λ (i : Files). AreOf (Some i) (delivery ∷ []) after) (sym is) (same, is_of item.1 old new delivery.content known brought, then)
are_more (Some []) (one ∷ deliveries) delivery left after old new are comes brought = absurd are
are_more (Some (item ∷ items)) (one ∷ deliveries) delivery left after old new are comes brought =
    (are.0, are.1, are_more (Some items) deliveries delivery left after old new are.2 comes brought)

told_more : (deliveries : List Delivery) (delivery : Delivery) (texts : List (List ℕ)) (answers : List Answer) → AreTold deliveries texts answers
    → AreTold (deliveries ++ delivery ∷ []) (texts ++ delivery.text ∷ []) (answers ++ delivery.answer ∷ [])
told_more deliveries delivery texts answers told = record {
  same_texts = map-append (λ (d : Delivery). d.text) deliveries (delivery ∷ []) ∙ ap (λ l. l ++ delivery.text ∷ []) told.same_texts;
  same_answers = map-append (λ (d : Delivery). d.answer) deliveries (delivery ∷ []) ∙ ap (λ l. l ++ delivery.answer ∷ []) told.same_answers;
}

same_number : (deliveries : List Delivery) (texts : List (List ℕ)) (answers : List Answer) → AreTold deliveries texts answers → length texts ≡ length answers
same_number deliveries texts answers told = sym (ap length told.same_texts) ∙ length-map deliveries (λ (d : Delivery). d.text)
    ∙ sym (length-map deliveries (λ (d : Delivery). d.answer)) ∙ ap length told.same_answers

-- the last path
pub last_path : (paths before : List (List ℕ)) (last : List ℕ) (n : ℕ) (path : List ℕ) → paths ≡ before ++ last ∷ [] → length before ≡ n → path ≡ get_or paths n path → path ≡ last
last_path paths before last n path all number is = is ∙ (λ t. get_or (all t) (sym number t) path) ∙ get_or-append_seam before last [] path

-- COUNTS

pub counts_on : (n m old middle new : ℕ) → CountsEach n old middle → CountsEach m middle new → CountsEach (n + m) old new
counts_on n m old middle new before after = record {
  stays = λ none. (let h = before.stays (omega (arith, none)) in let k = after.stays (omega (arith, none)) in k ∙ h);
  rises = (let h = before.rises in let k = after.rises in omega (arith, h, k));
}

pub stayed : (old new : ℕ) → new ≡ old → CountsEach 0 old new
stayed old new same = record { stays = λ e. same; rises = omega (arith, same) }

pub rose : (old new : ℕ) → Rises old new → CountsEach 1 old new
rose old new rises = record {
  stays = λ e. absurd (omega (arith, e));
  rises = omega (arith, rises);
}

reads_more : (answers : List Answer) (answer : Answer) → read_failures (answers ++ answer ∷ []) ≡ read_failures answers + read_failure answer
reads_more [] answer = omega arith
reads_more (one ∷ answers) answer = (let rest = reads_more answers answer in omega (arith, rest))

pub read_counts : (answer : Answer) (old new : ℕ) → CountsIf (answer ≡ Refused Reader) old new → CountsEach (read_failure answer) old new
read_counts (Refused Reader) old new counts = rose old new (counts.rises refl)
read_counts Taken old new counts = stayed old new (counts.stays (λ e. (let h : Taken ≡ Refused Reader = e in cc)))
read_counts Repeated old new counts = stayed old new (counts.stays (λ e. (let h : Repeated ≡ Refused Reader = e in cc)))
read_counts (Refused NoTransfer) old new counts = stayed old new (counts.stays (λ e. (let h : Refused NoTransfer ≡ Refused Reader = e in cc)))
read_counts (Refused (BadPath fault)) old new counts = stayed old new (counts.stays (λ e. (let h : Refused (BadPath fault) ≡ Refused Reader = e in cc)))
read_counts (Refused NotListed) old new counts = stayed old new (counts.stays (λ e. (let h : Refused NotListed ≡ Refused Reader = e in cc)))
read_counts (Refused TooLarge) old new counts = stayed old new (counts.stays (λ e. (let h : Refused TooLarge ≡ Refused Reader = e in cc)))
read_counts (Refused Length) old new counts = stayed old new (counts.stays (λ e. (let h : Refused Length ≡ Refused Reader = e in cc)))
read_counts (Refused (Digest alg)) old new counts = stayed old new (counts.stays (λ e. (let h : Refused (Digest alg) ≡ Refused Reader = e in cc)))
read_counts (Refused (Keeper fault)) old new counts = stayed old new (counts.stays (λ e. (let h : Refused (Keeper fault) ≡ Refused Reader = e in cc)))

-- an item whose `next` didn't fail was delivered
pub reads_counted : (answers : List Answer) (answer : Answer) (old before middle new : ℕ) → CountsEach (read_failures answers) old before → middle ≡ before
    → CountsIf (answer ≡ Refused Reader) middle new → CountsEach (read_failures (answers ++ answer ∷ [])) old new
reads_counted answers answer old before middle new counts same then =
    subst (λ n. CountsEach n old new) (sym (reads_more answers answer))
    (counts_on (read_failures answers) (read_failure answer) old middle new (subst (CountsEach (read_failures answers) old) (sym same) counts) (read_counts answer middle new then))

-- the run ended
pub end_counted : (answers : List Answer) (ended : End) (old middle new : ℕ) → CountsEach (read_failures answers) old middle
    → CountsIf (ended ≡ end.Courier) middle new → CountsEach (courier_failures answers ended) old new
end_counted answers end.Courier old middle new counts then = counts_on (read_failures answers) 1 old middle new counts (rose middle new (then.rises refl))
end_counted answers end.Done old middle new counts then = subst (CountsEach (read_failures answers) old) (sym (then.stays (λ e. (let h : end.Done ≡ end.Courier = e in cc)))) counts
end_counted answers end.TooMany old middle new counts then = subst (CountsEach (read_failures answers) old) (sym (then.stays (λ e. (let h : end.TooMany ≡ end.Courier = e in cc)))) counts
end_counted answers end.Memory old middle new counts then = subst (CountsEach (read_failures answers) old) (sym (then.stays (λ e. (let h : end.Memory ≡ end.Courier = e in cc)))) counts

pub end_failed : {A : Type 0} (result : Result A End) (ended : End) (old new : ℕ) → result ≡ Err ended → CountsIf (result ≡ Err end.Courier) old new → CountsIf (ended ≡ end.Courier) old new
end_failed result ended old new is counts = record {
  rises = λ e. counts.rises (is ∙ ap Err e);
  stays = λ no. counts.stays (λ e. no (let h : Err ended ≡ Err end.Courier = sym is ∙ e in cc));
}

pub not_ended : {A : Type 0} (result : Result A End) (value : A) (old new : ℕ) → result ≡ Ok value → CountsIf (result ≡ Err end.Courier) old new → new ≡ old
not_ended result value old new is counts = counts.stays (λ e. (let h : Ok value ≡ Err end.Courier = sym is ∙ e in cc))

pub called_on : (n old before after : ℕ) → CallsNext n old (one_more before) → after ≡ one_more before → CallsNext (n + 1) old (one_more after)
called_on n old before after calls is = omega (arith, calls, is)

-- RUNS

module _ {K : Type 0} (holds may_leave : K → Ledger → Type 0) (clean : K → Type 0) (failures : K → ℕ) where
  -- deliveries with these texts and answers were made, of the first items to come, and these are left
  abbrev pub RanFrom : Receiver K → Receiver K → List ℕ → Option Files → Option Files → List (List ℕ) → List Answer → Type 0
  RanFrom old new name coming left texts answers = (deliveries : List Delivery) × AreTold deliveries texts answers × AreOf coming deliveries left
      × Runs holds may_leave clean failures old new name deliveries

  none_of : (coming : Option Files) → AreOf coming [] coming
  none_of None = refl
  none_of (Some items) = refl

  pub ran_from_nothing : (receiver : Receiver K) (name : List ℕ) (coming : Option Files) → RanFrom receiver receiver name coming coming [] []
  ran_from_nothing receiver name coming = ([], record { same_texts = refl; same_answers = refl }, none_of coming, ran_nothing holds may_leave clean failures receiver name)

  -- what a reader in this state before and this state after gave for this text, and its answer
  abbrev pub CameFrom : Receiver K → Receiver K → List ℕ → Option (List ℕ) → Option (List ℕ) → List ℕ → Answer → Type 0
  CameFrom old new name before after text answer = (content : Content) × Brought before after content × IsAnswer name (delivery_of text content answer)
      × Does holds may_leave clean old new (Receives name (delivery_of text content answer ∷ []))

  pub ran_from_more : (old middle new : Receiver K) (name : List ℕ) (coming left after : Option Files) (texts : List (List ℕ)) (answers : List Answer) (text : List ℕ) (answer : Answer)
      (before rest : Option (List ℕ)) → RanFrom old middle name coming left texts answers → ComesNext left true (Some text) before after → CameFrom middle new name before rest text answer
      → CountsIf ((fault : StoreFault) × (answer ≡ Refused (Keeper (Store fault)))) (failures middle.keeper) (failures new.keeper)
      → RanFrom old new name coming after (texts ++ text ∷ []) (answers ++ answer ∷ [])
  ran_from_more old middle new name coming left after texts answers text answer before rest (deliveries, told, are, runs) comes (content, brought, is, does) counts =
      let delivery = delivery_of text content answer in (
        deliveries ++ delivery ∷ [],
        told_more deliveries delivery texts answers told,
        are_more coming deliveries delivery left after before rest are comes brought,
        ran_more holds may_leave clean failures old middle new name deliveries delivery runs does is counts,
      )

  pub texts_ran : (old new : Receiver K) (name : List ℕ) (coming left : Option Files) (texts : List (List ℕ)) (answers : List Answer) → RanFrom old new name coming left texts answers
      → length texts ≡ length answers
  texts_ran old new name coming left texts answers (deliveries, told, are, runs) = same_number deliveries texts answers told
