-- Files of a tree that were read side by side, as the next ones after those that were read before.
use Rattle.std.proofs.Common.{◌≡◌, ◌∙◌, ◌+◌, ◌-◌, ◌<◌, ◌≤◌, ◌++◌, ◌∷◌, [], ℕ, zero, suc, false, true, List, Some, None, ap, append-nil, append_assoc, arith, inl, inr, length, refl, slice_get, subst, sym, take}
use Rattle.bag_rules.proofs.Words.{cases_Bool, Files, is_payload, payload_of, Shown}
use Rattle.bag_writer.specs.PayloadSteps.{IsReadAs}
use Rattle.bag_writer.specs.Steps.{is_hole, written_payload}
use Rattle.bag_writer.specs.declared.spec.Spec.{Spec}
use Rattle.bag_writer.proofs.FileSteps.{octets_unread}
use Rattle.bag_writer.proofs.PayloadLists.{AreReadAs, File, ShownFile, payload_next, payload_on, payload_passed, read_on}
use Rattle.bag_digest.proofs.ListLemmas.{stands, next_taken}

-- files that are no payload
pub past_others : (tree : Shown) (files : Files) (a d : ℕ) → a + d ≤ length tree.files → ((j : ℕ) (s : ShownFile) → a ≤ j → j < a + d → slice_get tree.files j ≡ Some s → is_payload s.0 ≡ false) → AreReadAs (take a tree.files) files
    → (all : Files) × AreReadAs (take (a + d) tree.files) all × (payload_of all ≡ payload_of files)
past_others tree files a zero inside other read = (files, subst (λ n. AreReadAs (take n tree.files) files) (let e : a ≡ a + 0 = omega arith in e) read, refl)
past_others tree files a (suc d) inside other read =
    let before = past_others tree files a d (omega (arith, inside)) (λ j s from to at. other j s from (omega (arith, to)) at) read in
    let here = stands tree.files (a + d) (omega (arith, inside)) in
    let file : File = (here.0.0, (octets_unread here.0.1).0) in
    let not : is_payload file.0 ≡ false = other (a + d) here.0 (omega arith) (omega arith) here.1 in
    let next = next_taken tree.files (a + d) here.0 here.1 in
    let count : a + d + 1 ≡ a + suc d = omega arith in (
      before.0 ++ file ∷ [],
      subst (λ n. AreReadAs (take n tree.files) (before.0 ++ file ∷ [])) count (subst (λ list. AreReadAs list (before.0 ++ file ∷ [])) (sym next) (read_on (take (a + d) tree.files) (here.0 ∷ []) before.0 (file ∷ []) before.1 ((refl, (octets_unread here.0.1).1), tt))),
      payload_on before.0 (file ∷ []) ∙ ap (λ list. payload_of before.0 ++ list) (payload_passed file [] not) ∙ append-nil (payload_of before.0) ∙ before.2,
    )

-- This was read of the payload file at a place.
pub record IsReadAt (tree : Shown) (i : ℕ) (file : File) : Type 0 where
  pub shown : ShownFile
  pub there : slice_get tree.files i ≡ Some shown
  pub read_as : IsReadAs shown file
  pub payload : is_payload shown.0 ≡ true

-- one payload file more
pub one_read : (tree : Shown) (files : Files) (i : ℕ) (file : File) → IsReadAt tree i file → AreReadAs (take i tree.files) files
    → AreReadAs (take (i + 1) tree.files) (files ++ file ∷ []) × (payload_of (files ++ file ∷ []) ≡ payload_of files ++ file ∷ [])
one_read tree files i file is read = (
  subst (λ list. AreReadAs list (files ++ file ∷ [])) (sym (next_taken tree.files i is.shown is.there)) (read_on (take i tree.files) (is.shown ∷ []) files (file ∷ []) read (is.read_as, tt)),
  payload_on files (file ∷ []) ∙ ap (λ list. payload_of files ++ list) (payload_next file [] (ap is_payload is.read_as.0 ∙ is.payload)),
)

-- each payload file from one place to another is one of these, by their places
abbrev pub AreAllBetween : {X : Type 0} → (X → ℕ) → Shown → ℕ → ℕ → List X → Type 0
AreAllBetween {X} at tree n i xs = (j : ℕ) (s : ShownFile) → n ≤ j → j < i → slice_get tree.files j ≡ Some s → is_payload s.0 ≡ true → (k : ℕ) × (x : X) × (slice_get xs k ≡ Some x) × (at x ≡ j)

abbrev pub AreRisingBetween : {X : Type 0} → (X → ℕ) → ℕ → ℕ → List X → Type 0
AreRisingBetween at n i [] = n ≤ i
AreRisingBetween at n i (x ∷ xs) = (n ≤ at x) × (at x < i) × AreRisingBetween at (at x + 1) i xs

abbrev pub AreReadEach : {X : Type 0} → (X → ℕ) → Shown → List X → Files → Type 0
AreReadEach at tree [] [] = Unit {0}
AreReadEach at tree (x ∷ xs) (file ∷ files) = IsReadAt tree (at x) file × AreReadEach at tree xs files
AreReadEach at tree _ _ = ⊥

rising_low : {X : Type 0} (at : X → ℕ) (n i : ℕ) (xs : List X) → AreRisingBetween at n i xs → (k : ℕ) (x : X) → slice_get xs k ≡ Some x → n ≤ at x
rising_low at n i [] rising k x here = absurd (let e : None ≡ Some x = here in cc)
rising_low at n i (y ∷ xs) rising zero x here = (let e : y ≡ x = cc in subst (λ z. n ≤ at z) e rising.0)
rising_low at n i (y ∷ xs) rising (suc k) x here =
    let low = rising_low at (at y + 1) i xs rising.2 k x here in
    let first = rising.0 in
    omega (arith, low, first)

pub rising_ends : {X : Type 0} (at : X → ℕ) (n i : ℕ) (xs : List X) → AreRisingBetween at n i xs → n ≤ i
rising_ends at n i [] rising = rising
rising_ends at n i (x ∷ xs) rising = (let a = rising.0 in let b = rising.1 in omega (arith, a, b))

pub none_before : {X : Type 0} (at : X → ℕ) (tree : Shown) (n i : ℕ) (x : X) (xs : List X) → AreRisingBetween at n i (x ∷ xs) → AreAllBetween at tree n i (x ∷ xs)
    → (j : ℕ) (s : ShownFile) → n ≤ j → j < at x → slice_get tree.files j ≡ Some s → is_payload s.0 ≡ false
none_before at tree n i x xs rising all j s from to there = elim (cases_Bool (is_payload s.0)) [
  | inl is ↦
      let high = rising.1 in
      let one = all j s from (omega (arith, to, high)) there is in
      let low = rising_low at (at x) i (x ∷ xs) (omega arith, rising.1, rising.2) one.0 one.1 one.2 in
      let same = one.3 in
      absurd (omega (arith, low, same, to))
  | inr not ↦ not
]

found_behind : {X : Type 0} (at : X → ℕ) (j : ℕ) (x : X) (xs : List X) → at x < j → (k : ℕ) (y : X) → slice_get (x ∷ xs) k ≡ Some y → at y ≡ j → (l : ℕ) × (z : X) × (slice_get xs l ≡ Some z) × (at z ≡ j)
found_behind at j x xs past zero y here same = absurd (let e : x ≡ y = cc in omega (arith, ap at e, same, past))
found_behind at j x xs past (suc k) y here same = (k, y, here, same)

pub all_behind : {X : Type 0} (at : X → ℕ) (tree : Shown) (n i : ℕ) (x : X) (xs : List X) → n ≤ at x → AreAllBetween at tree n i (x ∷ xs) → AreAllBetween at tree (at x + 1) i xs
all_behind at tree n i x xs low all j s from to there is =
    let one = all j s (omega (arith, low, from)) to there is in
    found_behind at j x xs (omega (arith, from)) one.0 one.1 one.2 one.3

-- all of them were read, in the order of their places
pub all_read : {X : Type 0} (at : X → ℕ) (tree : Shown) (n i : ℕ) (xs : List X) (more files : Files) → i ≤ length tree.files → AreRisingBetween at n i xs → AreAllBetween at tree n i xs → AreReadEach at tree xs more → AreReadAs (take n tree.files) files
    → (all : Files) × AreReadAs (take i tree.files) all × (payload_of all ≡ payload_of files ++ more)
all_read at tree n i [] [] files inside rising all each read =
    let e : n + (i - n) ≡ i = omega (arith, rising) in
    let past = past_others tree files n (i - n) (omega (arith, inside, rising))
    (λ j s from to there. elim (cases_Bool (is_payload s.0)) [
      | inl is ↦ absurd (let one = all j s from (omega (arith, to, rising)) there is in let none : None ≡ Some one.1 = one.2 in cc)
      | inr not ↦ not
    ]) read in
    (past.0, subst (λ k. AreReadAs (take k tree.files) past.0) e past.1, past.2 ∙ sym (append-nil (payload_of files)))
all_read at tree n i (x ∷ xs) (file ∷ more) files inside rising all each read =
    let low = rising.0 in
    let high = rising.1 in
    let e : n + (at x - n) ≡ at x = omega (arith, low) in
    let past = past_others tree files n (at x - n) (omega (arith, inside, low, high)) (λ j s from to there. none_before at tree n i x xs rising all j s from (omega (arith, to, low)) there) read in
    let one = one_read tree past.0 (at x) file each.0 (subst (λ k. AreReadAs (take k tree.files) past.0) e past.1) in
    let rest = all_read at tree (at x + 1) i xs more (past.0 ++ file ∷ []) inside rising.2 (all_behind at tree n i x xs low all) each.1 one.0 in
    (rest.0, rest.1, rest.2 ∙ ap (λ list. list ++ more) (one.1 ∙ ap (λ list. list ++ file ∷ []) past.2) ∙ append_assoc (payload_of files) (file ∷ []) more)
all_read at tree n i [] (file ∷ more) files inside rising all each read = absurd each
all_read at tree n i (x ∷ xs) [] files inside rising all each read = absurd each

-- without holes, all of the payload is written
pub no_holes : (spec : Spec) (files : Files) → spec.holes.items ≡ [] → written_payload spec files ≡ files
no_holes spec [] none = refl
no_holes spec (file ∷ files) none =
    let own : is_hole spec.holes.items file.0 ≡ false = ap (λ holes. is_hole holes file.0) none in
    rw own (ap (λ list. file ∷ list) (no_holes spec files none))
