-- What is held once the payload of a written bag has arrived.
use Rattle.std.proofs.Common.{◌≡◌, ℕ, List, [], map, inl, inr, refl, sym, subst}
use Rattle.bag_rules.proofs.HasLemmas.{has_from_map, has_map, place_of_has}
use Rattle.bag_rules.proofs.HeldBags as held
use Rattle.bag_rules.proofs.OneVerdictLemmas.{same_bag}
use Rattle.bag_rules.proofs.Words.{Bag, cases_Bool, Files, Has, is_payload, IsValid}
use Rattle.bag_rules.specs.Transfers.{AreHeldFor, held_bag, Passes, tag_bag}
use Rattle.bag_writer.proofs.FilledLemmas.{filled_valid, filled_without}
use Rattle.bag_writer.proofs.OpeningLemmas.{are_tag_files, expected_has, passes}
use Rattle.bag_writer.specs.FilledBags.{IsFilled, IsPayloadFor}
use Rattle.bag_writer.specs.WrittenBags.{IsWritten, tag_files}
use Rattle.bag_writer.specs.declared.spec.Spec.{Spec}
use Rattle.bag_receiver.proofs.FileLemmas.{content_held, same_files}
use Rattle.bag_receiver.proofs.StepLemmas.{run_offered, run_passes, steps_hold}
use Rattle.bag_receiver.proofs.Words.{Answered, BringsAt, Delivery, Event, HasOneContent, nothing_held, OneContent, TransferState, Steps}
use Rattle.bag_receiver.specs.Arrivals.{AreDelivered, AreDeliveredIn, AreWithin}
use Rattle.bag_receiver.specs.Deliveries.{Offers}
use Rattle.bag_receiver.specs.LedgerStates.{Happened, IsHeldIn, LedgerState}
use Rattle.bag_receiver.specs.Stops.{OffersIn}

module _ (spec : Spec) (payload : Files) (fits : IsPayloadFor spec payload) (within : AreWithin payload) where
  item_passes : (path content : List ℕ) → Has payload (path, content) → Passes (tag_files spec payload) path content
  item_passes path content h = passes spec payload fits path content h (within path content h)

  -- THE PAYLOAD IS HELD

  module _ (events : List Event) (now : TransferState) (steps : Steps (tag_files spec payload) events nothing_held now) (one : HasOneContent (tag_files spec payload) (OffersIn events)) (given : AreDeliveredIn payload events) where
    -- what is held for a path of the payload is its file
    same_content : (path content other : List ℕ) → Has payload (path, content) → Has now.held (path, other) → content ≡ other
    same_content path content other h there = one path content other (given.offered path content h) (run_offered (tag_files spec payload) events now steps path other there)
        (item_passes path content h) ((run_passes (tag_files spec payload) events now steps).passing path other there)

    is_held : (path content : List ℕ) → Has payload (path, content) → Has now.held (path, content)
    is_held path content h =
        let accepted = given.accepted path content h in
        let there = content_held now.held accepted.0.text (steps_hold (tag_files spec payload) events nothing_held now accepted.0 steps accepted.1 accepted.3) in
        let here : Has now.held (path, there.0) = subst (λ p. Has now.held (p, there.0)) accepted.2 there.1 in
        subst (λ c. Has now.held (path, c)) (sym (same_content path content there.0 h here)) here

    is_payload_file : (path content : List ℕ) → Has now.held (path, content) → Has payload (path, content)
    is_payload_file path content there =
        let file = expected_has spec payload fits path ((run_passes (tag_files spec payload) events now steps).passing path content there).expected in
        subst (λ c. Has payload (path, c)) (same_content path file.0 content file.1 there) file.1

    pub held_is_payload : now.held ≡ payload
    held_is_payload = same_files now.held payload (run_passes (tag_files spec payload) events now steps).rising fits.rising (λ path content. (is_payload_file path content, is_held path content))

  pub arrives : (events : List Event) (now : LedgerState) (name : List ℕ) → Happened now name (tag_files spec payload) events → HasOneContent (tag_files spec payload) (OffersIn events) → AreDeliveredIn payload events → IsHeldIn now name (tag_files spec payload) payload
  arrives events now name (standing, steps, shows) one given =
      subst (λ items. IsHeldIn now name (tag_files spec payload) items) (held_is_payload events standing steps one given) shows.there

  -- THE BAG THAT IS HELD

  pub payload_held : AreHeldFor (tag_files spec payload) payload
  payload_held = record { rising = fits.rising; passing = item_passes }

  pub held_filled : IsFilled spec payload (held_bag (tag_files spec payload) payload)
  held_filled =
      let tags = are_tag_files spec payload fits in
      record {
        rising = held.rising (tag_files spec payload) payload tags payload_held;
        has_payload_dir = refl;
        exact = λ path octets. (
          λ holds. elim (cases_Bool (is_payload path)) [
            | inl is ↦ inl (held.item_held (tag_files spec payload) payload tags payload_held path octets is holds)
            | inr plain ↦ inr (held.holds_has (tag_bag (tag_files spec payload)) path octets (held.tag_held (tag_files spec payload) payload tags payload_held path octets plain holds))
          ],
          λ h. elim h [
            | inl item ↦ held.holds_item (tag_files spec payload) payload tags payload_held path octets item
            | inr tag ↦ held.holds_tag (tag_files spec payload) payload tags payload_held path octets (place_of_has (tag_files spec payload) (path, octets) tag)
          ],
        );
      }

  pub held_valid : IsValid (held_bag (tag_files spec payload) payload)
  held_valid = filled_valid spec payload fits (held_bag (tag_files spec payload) payload) held_filled

  pub held_same : (bag : Bag) → spec.holes.items ≡ [] → IsWritten spec payload bag → held_bag (tag_files spec payload) payload ≡ bag
  held_same bag none written =
      let whole = filled_without spec payload bag written none in
      same_bag (held_bag (tag_files spec payload) payload) bag held_filled.rising whole.rising
      (λ path octets. (λ holds. (whole.exact path octets).1 ((held_filled.exact path octets).0 holds), λ holds. (held_filled.exact path octets).1 ((whole.exact path octets).0 holds)))
      (sym whole.has_payload_dir)

-- DELIVERIES

-- exactly what was delivered was offered
offers_of : (deliveries : List Delivery) (path content : List ℕ) → OffersIn (map Answered deliveries) path content → Offers deliveries path content
offers_of deliveries path content (event, h, brings) =
    let from = has_from_map Answered deliveries event h in
    (from.0, from.1, subst (λ e. BringsAt e path content) (sym from.2) brings)

pub one_of : (tags : Files) (deliveries : List Delivery) → OneContent tags deliveries → HasOneContent tags (OffersIn (map Answered deliveries))
one_of tags deliveries one path content other p q = one path content other (offers_of deliveries path content p) (offers_of deliveries path other q)

pub delivered_in : (payload : Files) (deliveries : List Delivery) → AreDelivered payload deliveries → AreDeliveredIn payload (map Answered deliveries)
delivered_in payload deliveries given = record {
  offered = λ path content h. (let offer = given.offered path content h in (Answered offer.0, has_map Answered deliveries offer.0 offer.1, offer.2));
  accepted = λ path content h. (
      let accepted = given.accepted path content h in
      (accepted.1.0, has_map Answered deliveries accepted.1.0 accepted.1.1, accepted.1.2.brings.0, accepted.1.2.acceptance)
      );
}
