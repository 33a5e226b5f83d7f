-- What is held after deliveries and stops.
use Rattle.std.proofs.Common.{◌≡◌, ◌⊎◌, ◌↔◌, ℕ, List, [], ◌∷◌, ◌++◌, map, Contains, refl, sym, ap, subst, ◌∙◌, inl, inr}
use Rattle.bag_receiver.proofs.FileLemmas.{content_held, File, has_with_file, path_held, rising_with_file}
use Rattle.bag_receiver.proofs.HeldLemmas.{held_joined, held_more, held_none, held_still}
use Rattle.std.specs.List.Sorted.{IsStrictlySortedBy}
use Rattle.bag_receiver.proofs.Words.{Answer, Answered, AnswerStep, AreHeldFor, AreRising, BadPath, BringsAt, contains_from_has, Content, Cut, DeliverFault, Delivery, Digest, Event, Files, Gains, Has, HasOneContent, IsAcceptance, IsAccepted, IsFirstHeld, Keeper, keys_of, Length, nothing_held, NotListed, NoTransfer, OffersIn, Passes, PassesIn, Reader, Refused, Repeated, Step, Steps, Stop, StopStep, Taken, TooLarge, TooLong, TransferState, Unread, Whole, with_doubtful_file}

-- LISTS JOINED

pub steps_joined : (tags : Files) (events others : List Event) (old middle new : TransferState) → Steps tags events old middle → Steps tags others middle new → Steps tags (events ++ others) old new
steps_joined tags [] others old middle new e k = subst (λ s. Steps tags others s new) e k
steps_joined tags (event ∷ events) others old middle new h k = (h.0, h.1, steps_joined tags events others h.0 middle new h.2 k)

pub steps_parted : (tags : Files) (events others : List Event) (old new : TransferState) → Steps tags (events ++ others) old new → (middle : TransferState) × Steps tags events old middle × Steps tags others middle new
steps_parted tags [] others old new h = (old, refl, h)
steps_parted tags (event ∷ events) others old new h = let k = steps_parted tags events others h.0 new h.2 in (k.0, (h.0, h.1, k.1), k.2)

-- ONE STEP

-- an answer or a stop either changes nothing that is held, or adds one file
data Changes (tags : Files) (old : TransferState) (new : Files) : Type 0 where
  Stays : new ≡ old.held → Changes tags old new
  Grows : (path content : List ℕ) → Gains tags old.held path content new → Changes tags old new

pub doubt_stays : (files : TransferState) (path : List ℕ) (content : Content) → (with_doubtful_file files path content).held ≡ files.held
doubt_stays files path (Whole content) = refl
doubt_stays files path TooLong = refl
doubt_stays files path Unread = refl

abbrev held_of : TransferState → Files
held_of files = files.held

-- a refusal changes nothing, except that the content may be doubtful if the keeper has no answer
refused_is : (tags : Files) (path : List ℕ) (content : Content) (fault : DeliverFault) (old new : TransferState) → AnswerStep tags path content (Refused fault) old new → (new ≡ old) ⊎ (new ≡ with_doubtful_file old path content)
refused_is tags path content (Keeper fault) old new h = inr h
refused_is tags path content NoTransfer old new h = inl h
refused_is tags path content (BadPath fault) old new h = inl h
refused_is tags path content NotListed old new h = inl h
refused_is tags path content Reader old new h = inl h
refused_is tags path content TooLarge old new h = inl h
refused_is tags path content Length old new h = inl h
refused_is tags path content (Digest alg) old new h = inl h

refused_same : (tags : Files) (path : List ℕ) (content : Content) (fault : DeliverFault) (old new : TransferState) → AnswerStep tags path content (Refused fault) old new → new.held ≡ old.held
refused_same tags path content fault old new h = elim (refused_is tags path content fault old new h) [ inl same ↦ ap held_of same | inr doubt ↦ ap held_of doubt ∙ doubt_stays old path content ]

answer_changes : (tags : Files) (path : List ℕ) (content : Content) (answer : Answer) (old new : TransferState) → AnswerStep tags path content answer old new → Changes tags old new.held
answer_changes tags path content Taken old new h = Grows path h.0 h.2
answer_changes tags path content Repeated old new h = Stays (ap held_of h.2)
answer_changes tags path content (Refused fault) old new h = Stays (refused_same tags path content fault old new h)

stop_changes : (tags : Files) (old new : TransferState) → StopStep tags old new → Changes tags old new.held
stop_changes tags old new h = elim h.held [ inl same ↦ Stays same | inr k ↦ Grows k.0 k.1 k.3 ]

changes : (tags : Files) (event : Event) (old new : TransferState) → Step tags event old new → Changes tags old new.held
changes tags (Answered delivery) old new h = answer_changes tags delivery.text delivery.content delivery.answer old new h
changes tags (Cut path content) old new h = Stays (ap held_of h ∙ doubt_stays old path content)
changes tags Stop old new h = stop_changes tags old new h

-- WHAT IS HELD STAYS HELD, AND IS VALID

module _ (tags : Files) where
  gained : (held : Files) (path content : List ℕ) (new : Files) → Gains tags held path content new → (file : File) → Has new file ↔ (Has held file ⊎ ((path, content) ≡ file))
  gained held path content new h file = subst (λ files. Has files file ↔ (Has held file ⊎ ((path, content) ≡ file))) (sym h.becomes) (has_with_file path content held (λ k. h.not_held (contains_from_has (keys_of held) path k)) file)

  change_keeps : (old : TransferState) (new : Files) → Changes tags old new → (file : File) → Has old.held file → Has new file
  change_keeps old new (Stays same) file has = subst (λ files. Has files file) (sym same) has
  change_keeps old new (Grows path content h) file has = (gained old.held path content new h file).1 (inl has)

  pub steps_keep : (events : List Event) (old new : TransferState) → Steps tags events old new → (path content : List ℕ) → Has old.held (path, content) → Has new.held (path, content)
  steps_keep [] old new e path content has = subst (λ (s : TransferState). Has s.held (path, content)) (sym e) has
  steps_keep (event ∷ events) old new h path content has = steps_keep events h.0 new h.2 path content (change_keeps old h.0.held (changes tags event old h.0 h.1) (path, content) has)

  change_passes : (old : TransferState) (new : Files) → Changes tags old new → AreHeldFor tags old.held → AreHeldFor tags new
  change_passes old new (Stays same) before = subst (λ files. AreHeldFor tags files) (sym same) before
  change_passes old new (Grows path content h) before = record {
    rising = subst (λ files. AreRising (keys_of files)) (sym h.becomes) (rising_with_file path content old.held before.rising);
    passing = λ p c has. elim ((gained old.held path content new h (p, c)).0 has) [ inl there ↦ before.passing p c there | inr e ↦ subst (λ (f : File). Passes tags f.0 f.1) e h.passes ];
  }

  pub steps_pass : (events : List Event) (old new : TransferState) → Steps tags events old new → AreHeldFor tags old.held → AreHeldFor tags new.held
  steps_pass [] old new e before = subst (λ (s : TransferState). AreHeldFor tags s.held) (sym e) before
  steps_pass (event ∷ events) old new h before = steps_pass events h.0 new h.2 (change_passes old h.0.held (changes tags event old h.0 h.1) before)

  -- WHAT WAS ANSWERED IS HELD

  taken_held : (path : List ℕ) (content : Content) (answer : Answer) (old new : TransferState) → AnswerStep tags path content answer old new → IsAcceptance answer → Contains (keys_of new.held) path
  taken_held path content Taken old new h taken = path_held new.held path h.0 ((gained old.held path h.0 new.held h.2 (path, h.0)).1 (inr refl))
  taken_held path content Repeated old new h taken = subst (λ (s : TransferState). Contains (keys_of s.held) path) (sym h.2) h.1
  taken_held path content (Refused fault) old new h taken = absurd taken

  taken_passes : (path octets : List ℕ) (content : Content) (answer : Answer) (old new : TransferState) → AnswerStep tags path content answer old new → IsAcceptance answer → content ≡ Whole octets → Passes tags path octets
  taken_passes path octets content Taken old new h taken whole = (let e : Whole h.0 ≡ Whole octets = sym h.1 ∙ whole in let same : h.0 ≡ octets = cc in subst (λ c. Passes tags path c) same h.2.passes)
  taken_passes path octets content Repeated old new h taken whole = subst (λ c. PassesIn tags path c) whole h.0
  taken_passes path octets content (Refused fault) old new h taken whole = absurd taken

  pub steps_hold : (events : List Event) (old new : TransferState) (delivery : Delivery) → Steps tags events old new → Has events (Answered delivery) → IsAcceptance delivery.answer → Contains (keys_of new.held) delivery.text
  steps_hold [] old new delivery h there taken = absurd there
  steps_hold (event ∷ events) old new delivery h (inl e) taken =
      let step = subst (λ v. Step tags v old h.0) e h.1 in
      let held = content_held h.0.held delivery.text (taken_held delivery.text delivery.content delivery.answer old h.0 step taken) in
      path_held new.held delivery.text held.0 (steps_keep events h.0 new h.2 delivery.text held.0 held.1)
  steps_hold (event ∷ events) old new delivery h (inr there) taken = steps_hold events h.0 new delivery h.2 there taken

  steps_taken_pass : (events : List Event) (old new : TransferState) (delivery : Delivery) (path content : List ℕ) → Steps tags events old new → Has events (Answered delivery) → IsAccepted delivery path content → Passes tags path content
  steps_taken_pass [] old new delivery path content h there accepted = absurd there
  steps_taken_pass (event ∷ events) old new delivery path content h (inl e) accepted =
      subst (λ p. Passes tags p content) accepted.brings.0 (taken_passes delivery.text content delivery.content delivery.answer old h.0 (subst (λ v. Step tags v old h.0) e h.1) accepted.acceptance accepted.brings.1)
  steps_taken_pass (event ∷ events) old new delivery path content h (inr there) accepted = steps_taken_pass events h.0 new delivery path content h.2 there accepted

-- WHAT IS HELD WAS OFFERED

-- what is held or doubtful was offered
record WereOffered (offered : List ℕ → List ℕ → Type 0) (files : TransferState) : Type 0 where
  held : (path content : List ℕ) → Has files.held (path, content) → offered path content
  doubtful : (path content : List ℕ) → Has files.doubtful (path, content) → offered path content

module _ (tags : Files) (offered : List ℕ → List ℕ → Type 0) where
  doubt_offered : (path : List ℕ) (content : Content) (old : TransferState) → ((octets : List ℕ) → content ≡ Whole octets → offered path octets) → WereOffered offered old → WereOffered offered (with_doubtful_file old path content)
  doubt_offered path (Whole octets) old brings before = record {
    held = before.held;
    doubtful = λ p c has. elim has [ inl e ↦ subst (λ (f : File). offered f.0 f.1) e (brings octets refl) | inr there ↦ before.doubtful p c there ];
  }
  doubt_offered path TooLong old brings before = before
  doubt_offered path Unread old brings before = before

  gains_offered : (path content : List ℕ) (old new : TransferState) → Gains tags old.held path content new.held → new.doubtful ≡ [] → offered path content → WereOffered offered old → WereOffered offered new
  gains_offered path content old new h none here before = record {
    held = λ p c has. elim ((gained tags old.held path content new.held h (p, c)).0 has) [ inl there ↦ before.held p c there | inr e ↦ subst (λ (f : File). offered f.0 f.1) e here ];
    doubtful = λ p c has. absurd (subst (λ files. Has files (p, c)) none has);
  }

  answer_offered : (path : List ℕ) (content : Content) (answer : Answer) (old new : TransferState) → ((octets : List ℕ) → content ≡ Whole octets → offered path octets) → AnswerStep tags path content answer old new → WereOffered offered old → WereOffered offered new
  answer_offered path content Taken old new brings h before = gains_offered path h.0 old new h.2 h.3 (brings h.0 h.1) before
  answer_offered path content Repeated old new brings h before = subst (WereOffered offered) (sym h.2) before
  answer_offered path content (Refused fault) old new brings h before = elim (refused_is tags path content fault old new h) [
    | inl same ↦ subst (WereOffered offered) (sym same) before
    | inr doubt ↦ subst (WereOffered offered) (sym doubt) (doubt_offered path content old brings before)
  ]

  stop_offered : (old new : TransferState) → StopStep tags old new → WereOffered offered old → WereOffered offered new
  stop_offered old new h before = elim h.held [
    | inl same ↦ record {
      held = λ p c has. before.held p c (subst (λ files. Has files (p, c)) same has);
      doubtful = λ p c has. absurd (subst (λ files. Has files (p, c)) h.settled has);
    }
    | inr k ↦ gains_offered k.0 k.1 old new k.3 h.settled (before.doubtful k.0 k.1 k.2) before
  ]

  step_offered : (event : Event) (old new : TransferState) → ((path content : List ℕ) → BringsAt event path content → offered path content) → Step tags event old new → WereOffered offered old → WereOffered offered new
  step_offered (Answered delivery) old new brings h before = answer_offered delivery.text delivery.content delivery.answer old new (λ octets whole. brings delivery.text octets (refl, whole)) h before
  step_offered (Cut path content) old new brings h before = subst (WereOffered offered) (sym h) (doubt_offered path content old (λ octets whole. brings path octets (refl, whole)) before)
  step_offered Stop old new brings h before = stop_offered old new h before

  steps_offered : (events : List Event) (old new : TransferState) → ((path content : List ℕ) → OffersIn events path content → offered path content) → Steps tags events old new → WereOffered offered old → WereOffered offered new
  steps_offered [] old new brings e before = subst (WereOffered offered) (sym e) before
  steps_offered (event ∷ events) old new brings h before = steps_offered events h.0 new (λ p c k. brings p c (k.0, inr k.1, k.2)) h.2 (step_offered event old h.0 (λ p c k. brings p c (event, inl refl, k)) h.1 before)

-- WHAT IS HELD OF A TRANSFER SINCE IT WAS OPENED

module _ (tags : Files) (events : List Event) (new : TransferState) (run : Steps tags events nothing_held new) where
  pub run_offered : (path content : List ℕ) → Has new.held (path, content) → OffersIn events path content
  run_offered = (steps_offered tags (OffersIn events) events nothing_held new (λ p c h. h) run record { held = λ p c h. absurd h; doubtful = λ p c h. absurd h }).held

  pub run_passes : AreHeldFor tags new.held
  unfolding IsStrictlySortedBy
  run_passes = steps_pass tags events nothing_held new run record { rising = tt; passing = λ p c h. absurd h }

  pub run_content : (delivery : Delivery) (path content : List ℕ) → HasOneContent tags (OffersIn events) → Has events (Answered delivery) → IsAccepted delivery path content → Has new.held (path, content)
  run_content delivery path content one there accepted =
      let held = content_held new.held path (subst (λ p. Contains (keys_of new.held) p) accepted.brings.0 (steps_hold tags events nothing_held new delivery run there accepted.acceptance)) in
      let same : held.0 ≡ content = one path held.0 content (run_offered path held.0 held.1) (Answered delivery, there, accepted.brings) (run_passes.passing path held.0 held.1) (steps_taken_pass tags events nothing_held new delivery path content run there accepted) in
      subst (λ c. Has new.held (path, c)) same held.1

-- WITHOUT STOPS

module _ (tags : Files) where
  -- each answered delivery alone
  still : (delivery : Delivery) (old new : TransferState) → AreRising (keys_of old.held) → new.held ≡ old.held → ¬ IsAcceptance delivery.answer → IsFirstHeld old.held (delivery ∷ []) new.held
  still delivery old new rising same refused = subst (λ files. IsFirstHeld old.held (delivery ∷ []) files) (sym same) (held_still old.held delivery rising (λ path content accepted. absurd (refused accepted.acceptance)))

  answered_first : (text : List ℕ) (content : Content) (answer : Answer) (old new : TransferState) → AreRising (keys_of old.held) → AnswerStep tags text content answer old new → IsFirstHeld old.held (record { text = text; content = content; answer = answer } ∷ []) new.held
  answered_first text content Taken old new rising h =
      subst (λ files. IsFirstHeld old.held (record { text = text; content = content; answer = Taken } ∷ []) files) (sym h.2.becomes)
      (held_more old.held record { text = text; content = content; answer = Taken } text h.0 rising record { brings = (refl, h.1); acceptance = tt } h.2.not_held)
  answered_first text content Repeated old new rising h =
      subst (λ (s : TransferState). IsFirstHeld old.held (record { text = text; content = content; answer = Repeated } ∷ []) s.held) (sym h.2)
      (held_still old.held record { text = text; content = content; answer = Repeated } rising (λ path octets accepted. subst (λ p. Contains (keys_of old.held) p) accepted.brings.0 h.1))
  answered_first text content (Refused fault) old new rising h = still record { text = text; content = content; answer = Refused fault } old new rising (refused_same tags text content fault old new h) (λ k. k)

  pub answered_held : (deliveries : List Delivery) (old new : TransferState) → AreRising (keys_of old.held) → Steps tags (map Answered deliveries) old new → IsFirstHeld old.held deliveries new.held
  answered_held [] old new rising e = subst (λ (s : TransferState). IsFirstHeld old.held [] s.held) (sym e) (held_none old.held rising)
  answered_held (delivery ∷ deliveries) old new rising h =
      let first = answered_first delivery.text delivery.content delivery.answer old h.0 rising h.1 in
      held_joined old.held h.0.held new.held (delivery ∷ []) deliveries first (answered_held deliveries h.0 new first.rising h.2)
