-- How deliveries to one transfer change it and the others.
use Rattle.std.proofs.Common.{◌≡◌, ◌≢◌, ◌⊎◌, ℕ, List, [], ◌∷◌, ◌++◌, map, Option, Some, None, refl, sym, ap, subst, ◌∙◌, inl, inr}
use Rattle.bag_receiver.specs.LedgerStates.{IsHeldIn, LeavesOthers, StepBy}
use Rattle.bag_receiver.proofs.NameLemmas.{name_or_not}
use Rattle.bag_receiver.proofs.StepLemmas.{answered_held, doubt_stays, steps_joined}
use Rattle.bag_receiver.proofs.Words.{Adds, Answer, Answered, AnswerStep, AreRising, BadPath, Content, Delivery, DeliverySteps, Digest, Event, Files, Happened, Has, HasTransfer, holding, IsDue, IsDueThere, IsFirstHeld, IsNamed, item_here, item_others, Keeper, keys_of, Ledger, LedgerState, Length, nothing_held, NotListed, NoTransfer, option_map, PassesIn, Reader, Receives, Refused, Repeated, settled, Steps, Stop, StopStep, Taken, TooLarge, TooLong, Transfer, transfer_of, TransferState, Unread, Whole, with_doubtful_file, with_doubtful_ledger, with_file}

abbrev transfer_with : Files → Files → Transfer
transfer_with tags items = record { tags = tags; items = items }

-- THE TRANSFER WITH A NAME

-- if a name names a transfer, the ledger has it
pub named_there : (ledger : Ledger) (name : List ℕ) (transfer : Transfer) → IsNamed ledger name (Some transfer) → transfer_of ledger name ≡ Some transfer
named_there ledger name transfer h = elim (name_or_not name) [
  | inl is ↦ sym (h.named is)
  | inr other ↦ absurd (let e : Some transfer ≡ None = h.unnamed other in cc)
]

-- what is due to be taken by a transfer in this state
due_taken : (name : List ℕ) (ledger : Ledger) (delivery : Delivery) (answer : Answer) (transfer : Transfer) → transfer_of ledger name ≡ Some transfer
    → IsDueThere name ledger delivery answer → (answer ≢ Refused NoTransfer) → IsDue (Some transfer) delivery.text delivery.content answer
due_taken name ledger delivery answer transfer there (None, named, due) other = absurd (other due)
due_taken name ledger delivery answer transfer there (Some found, named, due) other =
    subst (λ (t : Option Transfer). IsDue t delivery.text delivery.content answer) (sym (named_there ledger name found named) ∙ there) due

-- ONE TRANSFER

module _ (name : List ℕ) (tags : Files) where
  -- what a crash may leave in addition to what is held
  abbrev Leaves : Ledger → TransferState → Type 0
  Leaves crashed files = (items : Files) × (transfer_of crashed name ≡ Some (transfer_with tags items)) × StopStep tags files (record { held = items; doubtful = [] })

  -- one more doubtful file changes none of it
  still_left : (crashed : Ledger) (old : TransferState) (path : List ℕ) (content : Content) → Leaves crashed old → Leaves crashed (with_doubtful_file old path content)
  still_left crashed old path (Whole content) (items, there, stop) = (
    items,
    there,
    record {
      settled = refl;
      held = elim stop.held [ inl same ↦ inl same | inr k ↦ inr (k.0, k.1, inr k.2, k.3) ];
    },
  )
  still_left crashed old path TooLong h = h
  still_left crashed old path Unread h = h

  -- the file that was about to be put
  left_added : (old : LedgerState) (delivery : Delivery) (files : TransferState) (ledger : Ledger) → HasTransfer old name tags files → Adds name old.held delivery ledger
      → Leaves ledger (with_doubtful_file files delivery.text delivery.content)
  left_added old delivery files ledger present (content, whole, due, is) =
      let there : transfer_of old.held name ≡ Some (transfer_with tags files.held) = present.there in
      let taken = due_taken name old.held delivery Taken (transfer_with tags files.held) there due (λ e. absurd (let h : Taken ≡ Refused NoTransfer = e in cc)) in (
        with_file files.held delivery.text content,
        ap (λ l. transfer_of l name) is ∙ item_here name delivery.text content old.held ∙ ap (option_map (λ (t : Transfer). holding t delivery.text content)) there,
        subst (λ c. StopStep tags (with_doubtful_file files delivery.text c) (record { held = with_file files.held delivery.text content; doubtful = [] })) (sym whole) (record {
          settled = refl;
          held = inr (
            delivery.text,
            content,
            inl refl,
            record {
              passes = subst (λ c. PassesIn tags delivery.text c) whole taken.1;
              not_held = taken.2;
              becomes = refl;
            },
          );
        }),
      )

  abbrev Next : Delivery → TransferState → LedgerState → Type 0
  Next delivery old state = (next : TransferState) × AnswerStep tags delivery.text delivery.content delivery.answer old next × HasTransfer state name tags next

  -- the keeper has no answer
  held_still : (old : LedgerState) (files : TransferState) (path : List ℕ) (content : Content) → HasTransfer old name tags files
      → transfer_of old.held name ≡ Some (transfer_with tags ((with_doubtful_file files path content).held))
  held_still old files path content present = present.there ∙ ap (λ held. Some (transfer_with tags held)) (sym (doubt_stays files path content))

  doubted : (old new : LedgerState) (delivery : Delivery) (files : TransferState) → HasTransfer old name tags files
      → (new ≡ old) ⊎ ((ledger : Ledger) × Adds name old.held delivery ledger × (new ≡ with_doubtful_ledger old ledger))
      → HasTransfer new name tags (with_doubtful_file files delivery.text delivery.content)
  doubted old new delivery files present h = elim h [
    | inl same ↦ subst (λ (s : LedgerState). HasTransfer s name tags (with_doubtful_file files delivery.text delivery.content)) (sym same) (record {
      there = held_still old files delivery.text delivery.content present;
      left = λ crashed has. still_left crashed files delivery.text delivery.content (present.left crashed has);
    })
    | inr k ↦ subst (λ (s : LedgerState). HasTransfer s name tags (with_doubtful_file files delivery.text delivery.content)) (sym k.2) (record {
      there = held_still old files delivery.text delivery.content present;
      left = λ crashed has. elim has [
        | inl e ↦ subst (λ l. Leaves l (with_doubtful_file files delivery.text delivery.content)) e (left_added old delivery files k.0 present k.1)
        | inr before ↦ still_left crashed files delivery.text delivery.content (present.left crashed before)
      ];
    })
  ]

  -- ONE STEP, BY THE ANSWER
  module _ (delivery : Delivery) (old new : LedgerState) (files : TransferState) (present : HasTransfer old name tags files) where
    same : new ≡ old → HasTransfer new name tags files
    same e = subst (λ (s : LedgerState). HasTransfer s name tags files) (sym e) present

    there : transfer_of old.held name ≡ Some (transfer_with tags files.held)
    there = present.there

    step_by : (answer : Answer) → delivery.answer ≡ answer → StepBy answer name delivery old new
        → (next : TransferState) × AnswerStep tags delivery.text delivery.content answer files next × HasTransfer new name tags next
    step_by Taken is ((content, whole, due, added), settled) =
        let taken = due_taken name old.held delivery Taken (transfer_with tags files.held) there due (λ e. absurd (let h : Taken ≡ Refused NoTransfer = e in cc)) in (
          record { held = with_file files.held delivery.text content; doubtful = [] },
          (
            content,
            whole,
            record {
              passes = subst (λ c. PassesIn tags delivery.text c) whole taken.1;
              not_held = taken.2;
              becomes = refl;
            },
            refl,
          ),
          record {
            there = ap (λ l. transfer_of l name) added ∙ item_here name delivery.text content old.held ∙ ap (option_map (λ (t : Transfer). holding t delivery.text content)) there;
            left = λ crashed has. absurd (subst (λ ledgers. Has ledgers crashed) settled has);
          },
        )
    step_by Repeated is (due, e) =
        let repeated = due_taken name old.held delivery Repeated (transfer_with tags files.held) there due (λ e. absurd (let h : Repeated ≡ Refused NoTransfer = e in cc)) in
        (files, (repeated.1, repeated.2, refl), same e)
    step_by (Refused (Keeper fault)) is h = (with_doubtful_file files delivery.text delivery.content, refl, doubted old new delivery files present h)
    step_by (Refused Reader) is h = (files, refl, same h.1)
    step_by (Refused NoTransfer) is h = (files, refl, same h.1)
    step_by (Refused (BadPath fault)) is h = (files, refl, same h.1)
    step_by (Refused NotListed) is h = (files, refl, same h.1)
    step_by (Refused TooLarge) is h = (files, refl, same h.1)
    step_by (Refused Length) is h = (files, refl, same h.1)
    step_by (Refused (Digest alg)) is h = (files, refl, same h.1)

  steps_lead : (deliveries : List Delivery) (old new : LedgerState) (files : TransferState) → DeliverySteps name deliveries old new → HasTransfer old name tags files
      → (next : TransferState) × Steps tags (map Answered deliveries) files next × HasTransfer new name tags next
  steps_lead [] old new files e present = (files, refl, subst (λ (s : LedgerState). HasTransfer s name tags files) (sym e) present)
  steps_lead (delivery ∷ deliveries) old new files (middle, step, rest) present =
      let one = step_by delivery old middle files present delivery.answer refl step in
      let others = steps_lead deliveries middle new one.0 rest one.2 in
      (others.0, (one.0, one.1, others.1), others.2)

-- WHAT IS HELD, whatever a crash may leave

settled_by : (answer : Answer) (name : List ℕ) (delivery : Delivery) (old new : LedgerState) → StepBy answer name delivery old new
    → (other : LedgerState) × StepBy answer name delivery (settled old.held) other × (other.held ≡ new.held)
settled_by Taken name delivery old new h = (settled new.held, (h.0, refl), refl)
settled_by Repeated name delivery old new h = (settled old.held, (h.0, refl), ap (λ (s : LedgerState). s.held) (sym h.1))
settled_by (Refused (Keeper fault)) name delivery old new (inl e) = (settled old.held, inl refl, ap (λ (s : LedgerState). s.held) (sym e))
settled_by (Refused (Keeper fault)) name delivery old new (inr (ledger, adds, e)) =
    (with_doubtful_ledger (settled old.held) ledger, inr (ledger, adds, refl), ap (λ (s : LedgerState). s.held) (sym e))
settled_by (Refused Reader) name delivery old new h = (settled old.held, (h.0, refl), ap (λ (s : LedgerState). s.held) (sym h.1))
settled_by (Refused NoTransfer) name delivery old new h = (settled old.held, (h.0, refl), ap (λ (s : LedgerState). s.held) (sym h.1))
settled_by (Refused (BadPath fault)) name delivery old new h = (settled old.held, (h.0, refl), ap (λ (s : LedgerState). s.held) (sym h.1))
settled_by (Refused NotListed) name delivery old new h = (settled old.held, (h.0, refl), ap (λ (s : LedgerState). s.held) (sym h.1))
settled_by (Refused TooLarge) name delivery old new h = (settled old.held, (h.0, refl), ap (λ (s : LedgerState). s.held) (sym h.1))
settled_by (Refused Length) name delivery old new h = (settled old.held, (h.0, refl), ap (λ (s : LedgerState). s.held) (sym h.1))
settled_by (Refused (Digest alg)) name delivery old new h = (settled old.held, (h.0, refl), ap (λ (s : LedgerState). s.held) (sym h.1))

-- a step from a state is a step from any other state that holds the same
from_same : (name : List ℕ) (deliveries : List Delivery) (old new : LedgerState) → DeliverySteps name deliveries old new
    → (tags : Files) (files : TransferState) → transfer_of old.held name ≡ Some (transfer_with tags files.held)
    → (next : TransferState) × Steps tags (map Answered deliveries) files next × (transfer_of new.held name ≡ Some (transfer_with tags next.held))
from_same name [] old new e tags files there = (files, refl, ap (λ (s : LedgerState). transfer_of s.held name) e ∙ there)
from_same name (delivery ∷ deliveries) old new (middle, step, rest) tags files there =
    let (other, same_step, held) = settled_by delivery.answer name delivery old middle step in
    let one = step_by name tags delivery (settled old.held) other files (record { there = there; left = λ crashed has. absurd has }) delivery.answer refl same_step in
    let others = from_same name deliveries middle new rest tags one.0 (ap (λ l. transfer_of l name) (sym held) ∙ one.2.there) in
    (others.0, (one.0, one.1, others.1), others.2)

first_held : (name : List ℕ) (deliveries : List Delivery) (old new : LedgerState) → DeliverySteps name deliveries old new → (tags items : Files) → AreRising (keys_of items) → IsHeldIn old name tags items
    → (more : Files) × IsHeldIn new name tags more × IsFirstHeld items deliveries more
first_held name deliveries old new steps tags items rising there =
    let k = from_same name deliveries old new steps tags (record { held = items; doubtful = [] }) there in
    (k.0.held, k.2, answered_held tags deliveries (record { held = items; doubtful = [] }) k.0 rising k.1)

-- OTHER TRANSFERS

module _ (name other : List ℕ) (apart : other ≢ name) where
  added_other : (old : Ledger) (delivery : Delivery) (new : Ledger) → Adds name old delivery new → transfer_of new other ≡ transfer_of old other
  added_other old delivery new (content, whole, due, is) = ap (λ l. transfer_of l other) is ∙ item_others name delivery.text content other apart old

  -- each ledger that a crash may leave shows the other transfer as the one held, or as one that could be left before
  abbrev OtherStays : LedgerState → LedgerState → Type 0
  OtherStays old new = (transfer_of new.held other ≡ transfer_of old.held other)
      × ((crashed : Ledger) → Has new.doubtful crashed → Has old.doubtful crashed ⊎ (transfer_of crashed other ≡ transfer_of old.held other))

  stays_same : (old new : LedgerState) → new ≡ old → OtherStays old new
  stays_same old new e = subst (λ (s : LedgerState). OtherStays old s) (sym e) (refl, λ crashed has. inl has)

  stays_by : (answer : Answer) (delivery : Delivery) (old new : LedgerState) → StepBy answer name delivery old new → OtherStays old new
  stays_by Taken delivery old new (adds, settled) = (added_other old.held delivery new.held adds, λ crashed has. absurd (subst (λ ledgers. Has ledgers crashed) settled has))
  stays_by Repeated delivery old new h = stays_same old new h.1
  stays_by (Refused (Keeper fault)) delivery old new (inl e) = stays_same old new e
  stays_by (Refused (Keeper fault)) delivery old new (inr (ledger, adds, e)) = subst (λ (s : LedgerState). OtherStays old s) (sym e)
      (refl, λ crashed has. elim has [ inl is ↦ inr (ap (λ l. transfer_of l other) (sym is) ∙ added_other old.held delivery ledger adds) | inr before ↦ inl before ])
  stays_by (Refused Reader) delivery old new h = stays_same old new h.1
  stays_by (Refused NoTransfer) delivery old new h = stays_same old new h.1
  stays_by (Refused (BadPath fault)) delivery old new h = stays_same old new h.1
  stays_by (Refused NotListed) delivery old new h = stays_same old new h.1
  stays_by (Refused TooLarge) delivery old new h = stays_same old new h.1
  stays_by (Refused Length) delivery old new h = stays_same old new h.1
  stays_by (Refused (Digest alg)) delivery old new h = stays_same old new h.1

  stays_on : (old middle new : LedgerState) → OtherStays old middle → OtherStays middle new → OtherStays old new
  stays_on old middle new h k = (k.0 ∙ h.0, λ crashed has. elim (k.1 crashed has) [ inl before ↦ h.1 crashed before | inr same ↦ inr (same ∙ h.0) ])

  stays : (deliveries : List Delivery) (old new : LedgerState) → DeliverySteps name deliveries old new → OtherStays old new
  stays [] old new e = stays_same old new e
  stays (delivery ∷ deliveries) old new (middle, step, rest) = stays_on old middle new (stays_by delivery.answer delivery old middle step) (stays deliveries middle new rest)

-- HISTORIES

pub history_goes_on : (name : List ℕ) (deliveries : List Delivery) (old new : LedgerState) → Receives name deliveries old new → (tags : Files) (events : List Event) → Happened old name tags events
    → Happened new name tags (events ++ map Answered deliveries)
history_goes_on name deliveries old new receives tags events (files, before, present) =
    let k = receives.goes_on tags files present in
    (k.0, steps_joined tags events (map Answered deliveries) nothing_held files k.0 before k.1, k.2)

pub history_stays : (name other : List ℕ) (old new : LedgerState) → LeavesOthers name old new → other ≢ name → (tags : Files) (events : List Event) → Happened old other tags events
    → Happened new other tags events
history_stays name other old new leaves apart tags events (files, steps, present) = (
  files,
  steps,
  record {
    there = leaves.same other apart ∙ present.there;
    left = λ crashed has. (let (before, was, same) = leaves.left other apart crashed has in elim was [
      | inl e ↦ (files.held, same ∙ ap (λ l. transfer_of l other) (sym e) ∙ present.there, record { settled = refl; held = inl refl })
      | inr h ↦ (let k = present.left before h in (k.0, same ∙ k.1, k.2))
    ]);
  },
)

pub receives : (name : List ℕ) (deliveries : List Delivery) (old new : LedgerState) → DeliverySteps name deliveries old new → Receives name deliveries old new
receives name deliveries old new steps = record {
  steps = steps;
  goes_on = λ tags files. steps_lead name tags deliveries old new files steps;
  first = first_held name deliveries old new steps;
  others = record {
    same = λ other apart. (stays name other apart deliveries old new steps).0;
    left = λ other apart crashed has. elim ((stays name other apart deliveries old new steps).1 crashed has) [
      | inl before ↦ (crashed, inr before, refl)
      | inr same ↦ (old.held, inl refl, same)
    ];
  };
}

-- a stop
pub stop_settles : (state : LedgerState) (name : List ℕ) (tags : Files) (events : List Event) (crashed : Ledger) → Happened state name tags events → Has (state.held ∷ state.doubtful) crashed
    → Happened (settled crashed) name tags (events ++ Stop ∷ [])
stop_settles state name tags events crashed (files, steps, present) (inl e) = (
  record { held = files.held; doubtful = [] },
  steps_joined tags events (Stop ∷ []) nothing_held files (record { held = files.held; doubtful = [] }) steps (record { held = files.held; doubtful = [] }, record { settled = refl; held = inl refl }, refl),
  record { there = ap (λ l. transfer_of l name) (sym e) ∙ present.there; left = λ other has. absurd has },
)
stop_settles state name tags events crashed (files, steps, present) (inr has) =
    let k = present.left crashed has in (
      record { held = k.0; doubtful = [] },
      steps_joined tags events (Stop ∷ []) nothing_held files (record { held = k.0; doubtful = [] }) steps (record { held = k.0; doubtful = [] }, k.2, refl),
      record { there = k.1; left = λ other has. absurd has },
    )
