-- Deliveries to a transfer of two files, and what happens to it.
use Rattle.std.proofs.Common.{◌≡◌, ◌≢◌, ◌⊎◌, ℕ, List, [], ◌∷◌, Contains, map, codes, refl, sym, ap, subst, ◌∙◌, inl, inr}
use Rattle.bag_rules.proofs.TwoListed.{e_passes}
use Rattle.bag_rules.proofs.SameListLemmas.{all_has}
use Rattle.bag_rules.proofs.Words.{AllByRecursion, ascii_path, other_text}
use Rattle.bag_receiver.specs.ExampleDeliveries.{another_run, one_run, run_with_a_failure}
use Rattle.bag_receiver.proofs.FileLemmas.{File}
use Rattle.bag_receiver.proofs.StepLemmas.{answered_held}
use Rattle.std.specs.List.Sorted.{IsStrictlySortedBy}
use Rattle.bag_path.specs.Paths.{path_fault}
use Rattle.bag_receiver.proofs.Words.{a_passes, abc, abd, Accepts, Answer, Answered, AreAccepted, AreRising, both, contains_from_has, Cut, delivered, DeliverFault, Delivery, Event, file_a, file_e, Files, Has, has_from_contains, IsAccepted, IsFirstHeld, IsPath, keys_of, nothing_held, only_e, Passes, Reader, Refused, Repeated, Step, Steps, Stop, StopStep, tags_of_two, Taken, transfer_state, TransferState, two, Unread, Whole, with_doubtful_file, with_file}
use Rattle.bag_receiver.proofs.HeldLemmas.{none_held}

-- a path that isn't listed
pub path_z : IsPath (codes "data/z")
unfolding path_fault
path_z = ascii_path (codes "data/z") refl refl

-- THE PATHS ARE HELD OR NOT

pub apart : file_e ≢ file_a
apart = other_text file_e file_a refl

pub a_not_held : ¬ Contains (keys_of only_e) file_a
a_not_held h = elim (has_from_contains (keys_of only_e) file_a h) [ inl e ↦ apart e | inr none ↦ none ]

pub e_held : Contains (keys_of only_e) file_e
e_held = contains_from_has (keys_of only_e) file_e (inl refl)

pub a_held : Contains (keys_of both) file_a
a_held = contains_from_has (keys_of both) file_a (inl refl)

pub e_also : Contains (keys_of both) file_e
e_also = contains_from_has (keys_of both) file_e (inr (inl refl))

pub passes_a : Passes tags_of_two file_a abc
passes_a = a_passes tags_of_two two

pub passes_e : Passes tags_of_two file_e []
passes_e = e_passes tags_of_two two

-- STEPS

pub taken : (path content : List ℕ) (held doubtful : Files) → Passes tags_of_two path content → ¬ Contains (keys_of held) path → Step tags_of_two (Answered (delivered path content Taken)) (transfer_state held doubtful) (transfer_state (with_file held path content) [])
taken path content held doubtful passes away = (content, refl, record { passes = passes; not_held = away; becomes = refl }, refl)

pub repeated : (path content : List ℕ) (held doubtful : Files) → Passes tags_of_two path content → Contains (keys_of held) path → Step tags_of_two (Answered (delivered path content Repeated)) (transfer_state held doubtful) (transfer_state held doubtful)
repeated path content held doubtful passes there = (passes, there, refl)

-- of two runs

one_steps : Steps tags_of_two (map Answered one_run) nothing_held (transfer_state both [])
one_steps = (
  transfer_state only_e [],
  taken file_e [] [] [] passes_e (none_held file_e),
  (
    transfer_state both [],
    taken file_a abc only_e [] passes_a a_not_held,
    (transfer_state both [], repeated file_a abc both [] passes_a a_held, (transfer_state both [], refl, (transfer_state both [], refl, refl))),
  ),
)

abbrev only_a : Files
only_a = (file_a, abc) ∷ []

e_not_held : ¬ Contains (keys_of only_a) file_e
e_not_held h = elim (has_from_contains (keys_of only_a) file_e h) [ inl e ↦ apart (sym e) | inr none ↦ none ]

another_steps : Steps tags_of_two (map Answered another_run) nothing_held (transfer_state both [])
another_steps = (
  nothing_held,
  refl,
  (
    nothing_held,
    refl,
    (
      transfer_state only_a [],
      taken file_a abc [] [] passes_a (none_held file_a),
      (transfer_state both [], taken file_e [] only_a [] passes_e e_not_held, (transfer_state both [], repeated file_a abc both [] passes_a a_held, refl)),
    ),
  ),
)

pub one_held : IsFirstHeld [] one_run both
unfolding IsStrictlySortedBy
one_held = answered_held tags_of_two one_run nothing_held (transfer_state both []) tt one_steps

pub another_held : IsFirstHeld [] another_run both
unfolding IsStrictlySortedBy
another_held = answered_held tags_of_two another_run nothing_held (transfer_state both []) tt another_steps

failure_steps : Steps tags_of_two (map Answered run_with_a_failure) nothing_held (transfer_state both [])
failure_steps = (
  nothing_held,
  refl,
  (transfer_state only_a [], taken file_a abc [] [] passes_a (none_held file_a), (transfer_state both [], taken file_e [] only_a [] passes_e e_not_held, refl)),
)

pub failure_held : IsFirstHeld [] run_with_a_failure both
unfolding IsStrictlySortedBy
failure_held = answered_held tags_of_two run_with_a_failure nothing_held (transfer_state both []) tt failure_steps

-- WHAT WAS ACCEPTED

abbrev IsOfBoth : Delivery → Type 0
IsOfBoth delivery = (path content : List ℕ) → IsAccepted delivery path content → Has both (path, content)

same_file : (text octets : List ℕ) (answer : Answer) (path content : List ℕ) → IsAccepted (delivered text octets answer) path content → ◌≡◌ {A = File} (text, octets) (path, content)
same_file text octets answer path content h = (let whole : Whole octets ≡ Whole content = h.brings.1 in let same : octets ≡ content = cc in λ t. (h.brings.0 t, same t))

of_a : (answer : Answer) → IsOfBoth (delivered file_a abc answer)
of_a answer path content h = inl (same_file file_a abc answer path content h)

of_e : (answer : Answer) → IsOfBoth (delivered file_e [] answer)
of_e answer path content h = inr (inl (same_file file_e [] answer path content h))

of_none : (text octets : List ℕ) (fault : DeliverFault) → IsOfBoth (delivered text octets (Refused fault))
of_none text octets fault path content h = absurd h.acceptance

rising_both : AreRising (keys_of both)
unfolding IsStrictlySortedBy
rising_both = ((refl, tt), (tt, tt))

accepted_both : (deliveries : List Delivery) → AllByRecursion IsOfBoth deliveries → Accepts deliveries file_a abc → Accepts deliveries file_e [] → AreAccepted deliveries both
accepted_both deliveries all a e = record {
  rising = rising_both;
  exact = λ path content. (
    λ has. elim has [
      | inl is_a ↦ subst (λ (f : File). Accepts deliveries f.0 f.1) is_a a
      | inr rest ↦ elim rest [ inl is_e ↦ subst (λ (f : File). Accepts deliveries f.0 f.1) is_e e | inr none ↦ absurd none ]
    ],
    λ h. all_has IsOfBoth deliveries h.0 all h.1 path content h.2,
  );
}

was_taken : (path content : List ℕ) → IsAccepted (delivered path content Taken) path content
was_taken path content = record { brings = (refl, refl); acceptance = tt }

pub one_accepted : AreAccepted one_run both
one_accepted = accepted_both one_run
    (of_e Taken, (of_a Taken, (of_a Repeated, (of_none file_a abd _, (of_none (codes "data/z") abc _, tt)))))
    (delivered file_a abc Taken, inr (inl refl), was_taken file_a abc) (delivered file_e [] Taken, inl refl, was_taken file_e [])

pub another_accepted : AreAccepted another_run both
another_accepted = accepted_both another_run
    (of_none file_a abd _, (of_none (codes "data/z") abc _, (of_a Taken, (of_e Taken, (of_a Repeated, tt)))))
    (delivered file_a abc Taken, inr (inr (inl refl)), was_taken file_a abc) (delivered file_e [] Taken, inr (inr (inr (inl refl))), was_taken file_e [])

of_failure : IsOfBoth (record { text = file_a; content = Unread; answer = Refused Reader })
of_failure path content h = absurd h.acceptance

pub failure_accepted : AreAccepted run_with_a_failure both
failure_accepted = accepted_both run_with_a_failure (of_failure, (of_a Taken, (of_e Taken, tt)))
    (delivered file_a abc Taken, inr (inl refl), was_taken file_a abc) (delivered file_e [] Taken, inr (inr (inl refl)), was_taken file_e [])

-- THE RESULTS OF STEPS

same_transfer_state : (s : TransferState) (held doubtful : Files) → s.held ≡ held → s.doubtful ≡ doubtful → s ≡ transfer_state held doubtful
same_transfer_state s held doubtful h d = λ t. record { held = h t; doubtful = d t }

pub after_taken : (path content : List ℕ) (old new : TransferState) → Step tags_of_two (Answered (delivered path content Taken)) old new → new ≡ transfer_state (with_file old.held path content) []
after_taken path content old new h = (let whole : Whole content ≡ Whole h.0 = h.1 in let same : h.0 ≡ content = cc in
    same_transfer_state new (with_file old.held path content) [] (h.2.becomes ∙ ap (λ c. with_file old.held path c) same) h.3)

-- with one doubtful file
pub after_stop : (held : Files) (path content : List ℕ) (new : TransferState) → StopStep tags_of_two (transfer_state held ((path, content) ∷ [])) new → (new ≡ transfer_state held []) ⊎ (Passes tags_of_two path content × (new ≡ transfer_state (with_file held path content) []))
after_stop held path content new h = elim h.held [
  | inl same ↦ inl (same_transfer_state new held [] same h.settled)
  | inr k ↦ elim k.2 [
    | inl e ↦ inr (
      subst (λ (f : File). Passes tags_of_two f.0 f.1) (sym e) k.3.passes,
      same_transfer_state new (with_file held path content) [] (k.3.becomes ∙ ap (λ (f : File). with_file held f.0 f.1) (sym e)) h.settled,
    )
    | inr none ↦ absurd none
  ]
]

-- with none
pub after_stop_alone : (held : Files) (new : TransferState) → StopStep tags_of_two (transfer_state held []) new → new.held ≡ held
after_stop_alone held new h = elim h.held [ inl same ↦ same | inr k ↦ absurd k.2 ]

abbrev pub cut_events : List Event
cut_events = Answered (delivered file_e [] Taken) ∷ Cut file_a (Whole abc) ∷ Stop ∷ []

-- after the second file was taken and the first one cut
pub after_cut : (new : TransferState) → Steps tags_of_two cut_events nothing_held new → (new ≡ transfer_state only_e []) ⊎ (new ≡ transfer_state both [])
after_cut new h =
    let first : h.0 ≡ transfer_state only_e [] = after_taken file_e [] nothing_held h.0 h.1 in
    let second : h.2.0 ≡ transfer_state only_e ((file_a, abc) ∷ []) = h.2.1 ∙ ap (λ s. with_doubtful_file s file_a (Whole abc)) first in
    let stop = subst (λ s. StopStep tags_of_two s h.2.2.0) second h.2.2.1 in
    elim (after_stop only_e file_a abc h.2.2.0 stop) [ inl none ↦ inl (h.2.2.2 ∙ none) | inr more ↦ inr (h.2.2.2 ∙ more.1) ]

-- and delivered again
pub after_again : (again : Answer) → (again ≡ Taken) ⊎ (again ≡ Repeated) → (old middle new : TransferState) → (old ≡ transfer_state only_e []) ⊎ (old ≡ transfer_state both []) → middle ≡ old → Step tags_of_two (Answered (delivered file_a abc again)) middle new → new.held ≡ both
after_again again (inl is) old middle new (inl e) m h =
    let taken_now = after_taken file_a abc middle new (subst (λ a. Step tags_of_two (Answered (delivered file_a abc a)) middle new) is h) in
    ap (λ (s : TransferState). s.held) (taken_now ∙ ap (λ (s : TransferState). transfer_state (with_file s.held file_a abc) []) (m ∙ e))
after_again again (inl is) old middle new (inr e) m h =
    let step = subst (λ a. Step tags_of_two (Answered (delivered file_a abc a)) middle new) is h in
    absurd (step.2.not_held (subst (λ (s : TransferState). Contains (keys_of s.held) file_a) (sym (m ∙ e)) a_held))
after_again again (inr is) old middle new (inl e) m h =
    let step = subst (λ a. Step tags_of_two (Answered (delivered file_a abc a)) middle new) is h in
    absurd (a_not_held (subst (λ (s : TransferState). Contains (keys_of s.held) file_a) (m ∙ e) step.1))
after_again again (inr is) old middle new (inr e) m h =
    let step = subst (λ a. Step tags_of_two (Answered (delivered file_a abc a)) middle new) is h in
    ap (λ (s : TransferState). s.held) (step.2 ∙ m ∙ e)
