-- Files that are copied, from one piece to the next.
use Rattle.std.proofs.Common.{◌≡◌, ◌≢◌, ◌∙◌, ◌+◌, ◌-◌, ◌≤◌, ◌<◌, ◌++◌, ℕ, List, [], Option, Some, None, ap, append-nil, arith, inl, inr, length, length-append, refl, set, slice_get, subst, sym, take}
use Rattle.std.specs.Prelude.{IsSomeAnd}
use Rattle.std.proofs.lemmas.Bool.{cases_lt}
use Rattle.std.proofs.lemmas.List.{length-take-le, take_all}
use Rattle.std.proofs.lemmas.Option.{same_Some, slice_get_within}
use Rattle.bag_digest.specs.declared.algorithm.AlgSet.{AlgSet}
use Rattle.bag_digest.specs.declared.multi_lanes.MultiLanes.{MultiLanes}
use Rattle.bag_digest.specs.Lanes.{HoldsAt, OtherLanesStay}
use Rattle.bag_digest.specs.declared.multi.Digests.{Digests}
use Rattle.bag_digest.specs.declared.reading.SourceRead.{SourceRead}
use Rattle.bag_digest.specs.declared.reading.SourceRead.TheVariants.{Hashed}
use Rattle.bag_digest.specs.Hash.{AreDigests}
use Rattle.bag_digest.specs.declared.buffers.TheConstants.{FRONT}
use Rattle.bag_rules.specs.declared.limits.TheConstants.{LARGEST_FILE}
use Rattle.bag_writer.specs.Copying.{AreDone, AreEnded, CopiesPiece, AreFresh, AreFull, AreHashed, AreUnder, HasEnded, HaveTaken, IsCopiedTo, IsFresh, IsFreshBy, IsGoing, IsStopped, IsUnder, IsUnderBy, KeepPlaces, OthersStay, Sides, Work}
use Rattle.bag_writer.specs.PayloadSteps.{IsFoundOf}
use Rattle.bag_writer.specs.declared.copying.Copying.{Copying}
use Rattle.bag_writer.specs.declared.payload.CopyFault.{CopyFault}
use Rattle.bag_digest.proofs.ListLemmas.{stands}

module _ {F G : Type 0} where
  -- what was found of a file
  pub found_of : (a b : Copying F G) → a ≡ b → a.found ≡ None → b.found ≡ None
  found_of a b same none = ap (λ (c : Copying F G). c.found) (sym same) ∙ none

  -- one more has ended
  pub done_next : (copies : List (Copying F G)) (first k : ℕ) → AreDone copies first k → ((copy : Copying F G) → slice_get copies k ≡ Some copy → copy.found ≢ None) → AreDone copies first (k + 1)
  done_next copies first k done here j copy from to at = elim (cases_lt j k) [
    | inl below ↦ done j copy from below at
    | inr above ↦ here copy (let e : j ≡ k = omega (arith, to, above) in ap (slice_get copies) (sym e) ∙ at)
  ]

-- IN A LANE

module _ {F G : Type 0} (s : Sides F G) (work : Work) where
  under_so : (multi other : MultiLanes) (set : AlgSet) (i hashed later : ℕ) (left rest : List ℕ) (copy : Copying F G) (found : Option SourceRead)
      → (found ≡ None → IsGoing s work multi set i hashed left copy → IsGoing s work other set i later rest copy)
      → IsUnderBy s work multi set i hashed left copy found → IsUnderBy s work other set i later rest copy found
  under_so multi other set i hashed later left rest copy None so going = so refl going
  under_so multi other set i hashed later left rest copy (Some found) so going = going

  ended_by : (multi : MultiLanes) (set : AlgSet) (i hashed : ℕ) (left : List ℕ) (copy : Copying F G) (found : Option SourceRead) → IsUnderBy s work multi set i hashed left copy found → found ≢ None → HasEnded s work set copy
  ended_by multi set i hashed left copy None going not = absurd (not refl)
  ended_by multi set i hashed left copy (Some found) going not = going

  -- a file that has ended, and one that hasn't
  pub ended_of : (multi : MultiLanes) (set : AlgSet) (i hashed : ℕ) (left : List ℕ) (copy : Copying F G) → IsUnder s work multi set i hashed left copy → copy.found ≢ None → HasEnded s work set copy
  ended_of multi set i hashed left copy under not = ended_by multi set i hashed left copy copy.found under not

  pub going_of : {multi : MultiLanes} {set : AlgSet} {i hashed : ℕ} {left : List ℕ} (copy : Copying F G) → IsUnder s work multi set i hashed left copy → copy.found ≡ None → IsGoing s work multi set i hashed left copy
  going_of {multi} {set} {i} {hashed} {left} copy under none = subst (IsUnderBy s work multi set i hashed left copy) none under

  under_by_none : {multi : MultiLanes} {set : AlgSet} {i hashed : ℕ} {left : List ℕ} (copy : Copying F G) → copy.found ≡ None → IsGoing s work multi set i hashed left copy → IsUnder s work multi set i hashed left copy
  under_by_none {multi} {set} {i} {hashed} {left} copy none going = subst (IsUnderBy s work multi set i hashed left copy) (sym none) going

  under_by_some : (multi : MultiLanes) (set : AlgSet) (i hashed : ℕ) (left : List ℕ) (copy : Copying F G) (found : SourceRead) → copy.found ≡ Some found → HasEnded s work set copy → IsUnder s work multi set i hashed left copy
  under_by_some multi set i hashed left copy found some ended = subst (IsUnderBy s work multi set i hashed left copy) (sym some) ended

  -- one that has ended stays so, whatever its lane takes
  pub under_ended : (multi other : MultiLanes) (set : AlgSet) (i hashed later : ℕ) (left rest : List ℕ) (copy : Copying F G) → copy.found ≢ None
      → IsUnder s work multi set i hashed left copy → IsUnder s work other set i later rest copy
  under_ended multi other set i hashed later left rest copy not under =
      under_so multi other set i hashed later left rest copy copy.found (λ none going. absurd (not none)) under

  -- another lane has moved on
  pub under_stays : {multi : MultiLanes} (other : MultiLanes) {set : AlgSet} {i : ℕ} (hashed : ℕ) (left : List ℕ) (copy : Copying F G) → ((octets : List ℕ) → HoldsAt multi set i octets → HoldsAt other set i octets)
      → IsUnder s work multi set i hashed left copy → IsUnder s work other set i hashed left copy
  under_stays {multi} other {set} {i} hashed left copy stays under =
      under_so multi other set i hashed hashed left left copy copy.found
      (λ none going. record { taken = going.taken; count = going.count; holds = stays going.taken going.holds; copied = going.copied }) under

  -- the lane has taken the piece
  pub under_taken : {multi : MultiLanes} (other : MultiLanes) {set : AlgSet} {i : ℕ} (hashed : ℕ) (copy : Copying F G) → (copy.found ≡ None → length copy.piece.items ≡ FRONT)
      → (copy.found ≡ None → (octets : List ℕ) → HoldsAt multi set i octets → HoldsAt other set i (octets ++ copy.piece.items))
      → IsUnder s work multi set i hashed copy.piece.items copy → IsUnder s work other set i (hashed + FRONT) [] copy
  under_taken {multi} other {set} {i} hashed copy full takes under =
      let piece = copy.piece.items in
      under_so multi other set i hashed (hashed + FRONT) piece [] copy copy.found
      (λ none going. record {
        taken = going.taken ++ piece;
        count = omega (arith, going.count, full none, length-append going.taken piece);
        holds = takes none going.taken going.holds;
        copied = subst (λ octets. IsCopiedTo s work octets copy.source copy.target) (sym (append-nil (going.taken ++ piece))) going.copied;
      }) under

  fresh_by : (multi : MultiLanes) (set : AlgSet) (i : ℕ) (copy : Copying F G) (found : Option SourceRead) → HoldsAt multi set i [] → IsFreshBy s work set copy found → IsUnderBy s work multi set i 0 copy.piece.items copy found
  fresh_by multi set i copy None holds fresh = record { taken = []; count = refl; holds = holds; copied = fresh }
  fresh_by multi set i copy (Some found) holds fresh = fresh

  -- what is left to be taken of a file of which nothing was hashed
  pub under_fresh : (multi : MultiLanes) (set : AlgSet) (i : ℕ) (copy : Copying F G) → HoldsAt multi set i [] → IsFresh s work set copy → IsUnder s work multi set i 0 copy.piece.items copy
  under_fresh multi set i copy holds fresh = fresh_by multi set i copy copy.found holds fresh

  -- the octets that a lane has taken were copied
  pub plain : {multi : MultiLanes} {set : AlgSet} {i hashed : ℕ} (copy : Copying F G) (going : IsGoing s work multi set i hashed [] copy) → IsCopiedTo s work going.taken copy.source copy.target
  plain copy going = subst (λ octets. IsCopiedTo s work octets copy.source copy.target) (append-nil going.taken) going.copied

  -- the file has ended within its last piece, after these octets
  pub ended_on : (set : AlgSet) (taken : List ℕ) (hashed n : ℕ) (digests : Digests) (copy : Copying F G) → hashed ≡ length taken → CopiesPiece s work taken copy.piece.items copy.source copy.target n → n < length copy.piece.items → length copy.piece.items ≤ FRONT
      → copy.found ≡ Some (Hashed (record { length = hashed + n; digests = digests })) → AreDigests digests set (taken ++ take n copy.piece.items) → HasEnded s work set copy
  ended_on set taken hashed n digests copy count piece short room is are =
      let octets = taken ++ take n copy.piece.items in
      record {
        octets = octets;
        copied = piece.copied;
        none_left = piece.end short;
        short = room;
        found_is = subst (λ (found : Option SourceRead). IsSomeAnd found (λ f. IsFoundOf set copy.piece.items f octets)) (sym is)
            (omega (arith, count, length-append taken (take n copy.piece.items), length-take-le n copy.piece.items piece.bound), are);
      }

  -- the next piece was copied
  module _ (multi : MultiLanes) (set : AlgSet) (i hashed : ℕ) (old new : Copying F G) (buffer : List ℕ) (n : ℕ) (filled : new.piece.items ≡ buffer)
      (under : IsUnder s work multi set i hashed [] old) (none : old.found ≡ None) (copies : (octets : List ℕ) → IsCopiedTo s work octets old.source old.target → hashed ≡ length octets → CopiesPiece s work octets buffer new.source new.target n) where
    going : IsGoing s work multi set i hashed [] old
    going = going_of old under none

    piece : CopiesPiece s work going.taken new.piece.items new.source new.target n
    piece = subst (λ xs. CopiesPiece s work going.taken xs new.source new.target n) (sym filled) (copies going.taken (plain old going) going.count)

    pub advance_ended : (other : MultiLanes) (digests : Digests) → n < length buffer → length buffer ≤ FRONT → new.found ≡ Some (Hashed (record { length = hashed + n; digests = digests })) → ((octets : List ℕ) → HoldsAt multi set i octets → AreDigests digests set (octets ++ take n buffer))
        → IsUnder s work other set i hashed new.piece.items new
    advance_ended other digests short room is are =
        under_by_some other set i hashed new.piece.items new (Hashed (record { length = hashed + n; digests = digests })) is
        (ended_on set going.taken hashed n digests new going.count piece (omega (arith, short, ap length filled)) (omega (arith, room, ap length filled)) is
        (subst (λ xs. AreDigests digests set (going.taken ++ take n xs)) (sym filled) (are going.taken going.holds)))

    pub advance_going : length buffer ≤ n → new.found ≡ None → IsUnder s work multi set i hashed new.piece.items new
    advance_going full is =
        let all : take n new.piece.items ≡ new.piece.items = take_all n new.piece.items (omega (arith, full, ap length filled)) in
        under_by_none new is (record {
          taken = going.taken;
          count = going.count;
          holds = going.holds;
          copied = subst (λ xs. IsCopiedTo s work (going.taken ++ xs) new.source new.target) all piece.copied;
        })

-- SEVERAL

module _ {F G : Type 0} (s : Sides F G) (work : Work) where
  pub fresh_each : (multi : MultiLanes) (set : AlgSet) (first end : ℕ) (copies : List (Copying F G)) → end ≤ first + 4 → AreFresh s work set first end copies → ((i : ℕ) → i < 4 → HoldsAt multi set i [])
      → AreUnder s work multi set 0 first first end copies
  fresh_each multi set first end copies four fresh begun k copy from to at = under_fresh s work multi set (k - first) copy (begun (k - first) (omega (arith, from, to, four))) (fresh k copy from to at)

  pub hashed_each : (multi other : MultiLanes) (set : AlgSet) (hashed first end : ℕ) (copies : List (Copying F G)) → AreFull first end copies → AreUnder s work multi set hashed first first end copies → HaveTaken copies first end multi other
      → AreHashed s work other set (hashed + FRONT) first first end copies
  hashed_each multi other set hashed first end copies full under taken k copy from to at =
      under_taken s work other hashed copy (full k copy from to at) (λ none octets holds. taken k copy from to at none set octets holds) (under k copy from to at)

  pub ended_each : (multi : MultiLanes) (set : AlgSet) (hashed first end : ℕ) (copies : List (Copying F G)) → AreUnder s work multi set hashed first first end copies → AreDone copies first end → AreEnded s work set first end copies
  ended_each multi set hashed first end copies under done k copy from to at = ended_of s work multi set (k - first) hashed copy.piece.items copy (under k copy from to at) (done k copy from to at)

  -- no file goes on beyond the limit
  pub done_past : (multi : MultiLanes) (set : AlgSet) (hashed first end : ℕ) (copies : List (Copying F G)) → LARGEST_FILE < hashed + FRONT → AreFull first end copies → AreUnder s work multi set hashed first first end copies → AreDone copies first end
  done_past multi set hashed first end copies past full under k copy from to at none =
      let going = going_of s work copy (under k copy from to at) none in
      omega (arith, past, going.count, going.copied.within, full k copy from to at none, length-append going.taken copy.piece.items)

  -- one file was read on, and its lane has moved
  module _ (multi other : MultiLanes) (set : AlgSet) (hashed first k : ℕ) (xs ys : List (Copying F G)) (low : first ≤ k) (others : (j : ℕ) → j ≢ k → slice_get ys j ≡ slice_get xs j) (lanes : OtherLanesStay (k - first) multi other) where
    pub under_before : AreUnder s work multi set hashed first first k xs → AreUnder s work other set hashed first first k ys
    under_before under j copy from to now =
        under_stays s work other hashed copy.piece.items copy (λ octets. lanes (j - first) (λ e. omega (arith, e, from, to, low)) set octets) (under j copy from to (sym (others j (λ e. omega (arith, e, to))) ∙ now))

    pub hashed_after : (end : ℕ) → AreHashed s work multi set hashed first k end xs → AreHashed s work other set hashed first (k + 1) end ys
    hashed_after end hashed_are j copy from to now =
        under_stays s work other hashed [] copy (λ octets. lanes (j - first) (λ e. omega (arith, e, from, low)) set octets) (hashed_are j copy (omega (arith, from)) to (sym (others j (λ e. omega (arith, e, from))) ∙ now))

  -- one more is known
  pub under_next : (multi : MultiLanes) (set : AlgSet) (hashed first k : ℕ) (ys : List (Copying F G)) → AreUnder s work multi set hashed first first k ys
      → ((copy : Copying F G) → slice_get ys k ≡ Some copy → IsUnder s work multi set (k - first) hashed copy.piece.items copy) → AreUnder s work multi set hashed first first (k + 1) ys
  under_next multi set hashed first k ys under here j copy from to now = elim (cases_lt j k) [
    | inl below ↦ under j copy from below now
    | inr above ↦
        let e : j ≡ k = omega (arith, to, above) in
        subst (λ n. IsUnder s work multi set (n - first) hashed copy.piece.items copy) (sym e) (here copy (subst (λ n. slice_get ys n ≡ Some copy) e now))
  ]

  -- what was told so far: nothing, or the fault of the file at this place
  abbrev pub IsTold : ℕ → ℕ → List (Copying F G) → Option CopyFault → Type 0
  IsTold place end copies None = place ≡ end
  IsTold place end copies (Some fault) = (place < end) × ((copy : Copying F G) → slice_get copies place ≡ Some copy → IsStopped s work copy.source copy.target fault)

  -- it stays while the files before the place are read on
  pub told_stays : (first place end : ℕ) (old new : List (Copying F G)) (told : Option CopyFault) → OthersStay first place old new → IsTold place end old told → IsTold place end new told
  told_stays first place end old new None others is = is
  told_stays first place end old new (Some fault) others is = (is.0, λ copy there. is.1 copy (sym (others place (inr (omega arith))) ∙ there))

-- pieces stay full where one is read on
pub full_set : {F G : Type 0} (first end k : ℕ) (xs ys : List (Copying F G)) (new : Copying F G) → slice_get ys k ≡ Some new → ((j : ℕ) → j ≢ k → slice_get ys j ≡ slice_get xs j) → (new.found ≡ None → length new.piece.items ≡ FRONT)
    → AreFull first end xs → AreFull first end ys
full_set {F} {G} first end k xs ys new is others here full j copy from to now none = elim (cases_lt j k) [
  | inl below ↦ full j copy from to (sym (others j (λ e. omega (arith, e, below))) ∙ now) none
  | inr above ↦ elim (cases_lt k j) [
    | inl past ↦ full j copy from to (sym (others j (λ e. omega (arith, e, past))) ∙ now) none
    | inr other ↦
        let e : j ≡ k = omega (arith, above, other) in
        let own : new ≡ copy = same_Some new copy (sym is ∙ ap (slice_get ys) (sym e) ∙ now) in
        ap (λ (c : Copying F G). length c.piece.items) (sym own) ∙ here (ap (λ (c : Copying F G). c.found) own ∙ none)
  ]
]

-- a file that was exchanged for one of the same place
module _ {F G : Type 0} (place : F → ℕ) (copy_place : G → ℕ) where
  pub places_same : (xs : List (Copying F G)) → KeepPlaces place copy_place xs xs
  places_same xs = record {
    count = refl;
    each = λ k a b at now. (let e : a ≡ b = same_Some a b (sym at ∙ now) in (ap (λ (c : Copying F G). place c.source) (sym e), ap (λ (c : Copying F G). copy_place c.target) (sym e)));
  }

  pub places_on : (xs ys zs : List (Copying F G)) → KeepPlaces place copy_place xs ys → KeepPlaces place copy_place ys zs → KeepPlaces place copy_place xs zs
  places_on xs ys zs first then = record {
    count = then.count ∙ first.count;
    each = λ k a c at now.
        let inside = slice_get_within xs k a at in
        let b = stands ys k (omega (arith, inside, first.count)) in
        let p = first.each k a b.0 at b.1 in
        let q = then.each k b.0 c b.1 now in
        (q.0 ∙ p.0, q.1 ∙ p.1);
  }

  pub places_set : (xs ys : List (Copying F G)) (k : ℕ) (old new : Copying F G) → length ys ≡ length xs → slice_get xs k ≡ Some old → slice_get ys k ≡ Some new → ((j : ℕ) → j ≢ k → slice_get ys j ≡ slice_get xs j)
      → place new.source ≡ place old.source → copy_place new.target ≡ copy_place old.target → KeepPlaces place copy_place xs ys
  places_set xs ys k old new count was is others same beside = record {
    count = count;
    each = λ j a b at now. elim (cases_lt j k) [
      | inl below ↦ (let e : a ≡ b = same_Some a b (sym at ∙ sym (others j (λ e. omega (arith, e, below))) ∙ now) in (ap (λ (c : Copying F G). place c.source) (sym e), ap (λ (c : Copying F G). copy_place c.target) (sym e)))
      | inr above ↦ elim (cases_lt k j) [
        | inl past ↦ (let e : a ≡ b = same_Some a b (sym at ∙ sym (others j (λ e. omega (arith, e, past))) ∙ now) in (ap (λ (c : Copying F G). place c.source) (sym e), ap (λ (c : Copying F G). copy_place c.target) (sym e)))
        | inr other ↦
            let here : j ≡ k = omega (arith, above, other) in
            let p : a ≡ old = same_Some a old (sym at ∙ ap (slice_get xs) here ∙ was) in
            let q : b ≡ new = same_Some b new (sym now ∙ ap (slice_get ys) here ∙ is) in (
              ap (λ (c : Copying F G). place c.source) q ∙ same ∙ ap (λ (c : Copying F G). place c.source) (sym p),
              ap (λ (c : Copying F G). copy_place c.target) q ∙ beside ∙ ap (λ (c : Copying F G). copy_place c.target) (sym p),
            )
      ]
    ];
  }
