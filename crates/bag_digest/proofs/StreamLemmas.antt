-- Streams in lanes, from one piece to the next.
use Rattle.std.proofs.Common.{◌≡◌, ◌≢◌, ◌∙◌, ◌+◌, ◌-◌, ◌≤◌, ◌<◌, ◌++◌, ℕ, List, [], Option, Some, None, Ok, Err, ap, append-nil, arith, inl, inr, length, min, length-append, refl, set, slice_get, subst, sym, take}
use Rattle.std.specs.Prelude.{IsErrOf, IsSomeAnd}
use Rattle.std.specs.Io.KnownBytes.{Consumes, IsAtEnd}
use Rattle.std.proofs.KnownBytes.{Consumes-trans}
use Rattle.std.proofs.lemmas.Bool.{cases_lt}
use Rattle.std.proofs.lemmas.List.{append_assoc, length-take-le}
use Rattle.std.proofs.lemmas.Option.{same_Some, slice_get_within}
use Rattle.bag_digest.specs.declared.algorithm.AlgSet.{AlgSet}
use Rattle.bag_digest.specs.declared.multi_lanes.MultiLanes.{MultiLanes}
use Rattle.bag_digest.specs.declared.multi.Digests.{Digests}
use Rattle.bag_digest.specs.declared.reading.SourceFault.{SourceFault}
use Rattle.bag_digest.specs.declared.reading.SourceFault.TheVariants.{Read}
use Rattle.bag_digest.specs.declared.streams.Stream.{Stream}
use Rattle.bag_digest.specs.declared.streams.StreamFault.{StreamFault}
use Rattle.bag_digest.specs.declared.buffers.TheConstants.{FRONT}
use Rattle.bag_digest.specs.declared.sums.Sums.{Sums}
use Rattle.bag_digest.specs.Failures.{UsesSource}
use Rattle.bag_digest.specs.Hash.{AreDigests}
use Rattle.bag_digest.specs.Lanes.{HoldsAt, OtherLanesStay}
use Rattle.bag_digest.specs.Reading.{GaveBefore, GavePiece, read_fault}
use Rattle.bag_digest.specs.Streams.{AreDone, AreFresh, AreFreshIn, AreFull, AreHashed, AreUnder, HasEnded, HasStopped, HaveEndedIn, HaveKeptIn, HaveTaken, IsAt, IsFirstOpen, IsFirstStopped, IsFresh, IsGoing, IsUnder, OthersStay}
use Rattle.bag_digest.proofs.Progress.{HasGiven, given_before, uses_as, uses_none, uses_on}
use Rattle.bag_digest.proofs.Filling.{filled_whole, given_more}
use Rattle.bag_digest.proofs.ListLemmas.{stands}

-- what a failure is, in terms of the fault
pub err_same : {A : Type 0} {x y : SourceFault} → IsErrOf {T = A} (Err x) y → x ≡ y
err_same e = cc

pub ok_not : {A : Type 0} {x : A} {y : SourceFault} → IsErrOf (Ok x) y → ⊥
ok_not e = cc

pub uses_err : {S A : Type 0} (failures : S → ℕ) (ready : S → Type 0) (keeps : S → S → Type 0) (a b : S) (fault : SourceFault) → UsesSource failures ready keeps a b (IsErrOf {T = A} (Err fault) Read) → UsesSource failures ready keeps a b (fault ≡ Read)
uses_err {S} {A} failures ready keeps a b fault uses = uses_as failures ready keeps a b (IsErrOf {T = A} (Err fault) Read) (fault ≡ Read) (λ e. ap Err e) (λ e. err_same e) uses

pub uses_ok : {S A : Type 0} (failures : S → ℕ) (ready : S → Type 0) (keeps : S → S → Type 0) (a b : S) (x : A) → UsesSource failures ready keeps a b (IsErrOf (Ok x) Read) → UsesSource failures ready keeps a b ⊥
uses_ok failures ready keeps a b x uses = uses_as failures ready keeps a b (IsErrOf (Ok x) Read) ⊥ (λ no. absurd no) (λ e. ok_not e) uses

pub consumes_none : (o : Option (List ℕ)) → Consumes o o []
consumes_none None = tt
consumes_none (Some xs) = refl

module _ {S : Type 0} (remaining : S → Option (List ℕ)) where
  ended_by : (multi : MultiLanes) (set : AlgSet) (i limit hashed : ℕ) (left : List ℕ) (a b : Stream S) (sums : Option Sums)
      → IsGoing remaining multi set i limit hashed left a b sums → sums ≢ None → HasEnded remaining set limit a b
  ended_by multi set i limit hashed left a b None going not = absurd (not refl)
  ended_by multi set i limit hashed left a b (Some found) going not = going

  going_so : (multi other : MultiLanes) (set : AlgSet) (i limit hashed later : ℕ) (left rest : List ℕ) (a b : Stream S) (sums : Option Sums)
      → (sums ≡ None → IsAt remaining multi set i limit hashed left a b → IsAt remaining other set i limit later rest a b)
      → IsGoing remaining multi set i limit hashed left a b sums → IsGoing remaining other set i limit later rest a b sums
  going_so multi other set i limit hashed later left rest a b None so going = so refl going
  going_so multi other set i limit hashed later left rest a b (Some found) so going = going

  -- the number of octets that were given after the first piece
  pub given_at : {multi : MultiLanes} {set : AlgSet} {i limit hashed : ℕ} (a b : Stream S) (at : IsAt remaining multi set i limit hashed [] a b)
      → HasGiven (remaining a.source) (remaining b.source) (hashed - FRONT) (limit - FRONT) at.more × (FRONT ≤ hashed)
  given_at a b at =
      let all = ap length at.joined in
      let count : FRONT + length at.more ≡ length at.octets = omega (arith, all, at.front, length-append a.piece.items at.more, length-append at.octets []) in (
        record {
          gave = at.gave;
          count = omega (arith, count, at.count);
          within = omega (arith, at.within);
        },
        omega (arith, count, at.count),
      )

module _ {S : Type 0} (remaining : S → Option (List ℕ)) {multi : MultiLanes} {set : AlgSet} {i limit hashed : ℕ} (a b c : Stream S) (at : IsAt remaining multi set i limit hashed [] a b) where
  left_same : limit - hashed ≡ (limit - FRONT) - (hashed - FRONT)
  left_same = omega (arith, (given_at remaining a b at).1)

  -- what was given before a fault
  pub stopped_on : (fault : SourceFault) → GaveBefore (remaining b.source) (remaining c.source) (limit - hashed) (read_fault fault)
      → GaveBefore (remaining a.source) (remaining c.source) (limit - FRONT) (read_fault fault)
  stopped_on fault gave = given_before _ _ _ _ _ _ (read_fault fault) (given_at remaining a b at).0
      (subst (λ n. GaveBefore (remaining b.source) (remaining c.source) n (read_fault fault)) left_same gave)

  joined_on : (last : List ℕ) → a.piece.items ++ (at.more ++ last) ≡ at.octets ++ last
  joined_on last = sym (append_assoc a.piece.items at.more last) ∙ ap (λ front. front ++ last) (at.joined ∙ append-nil at.octets)

  -- the source has ended within its last piece
  pub ended_on : (n : ℕ) (digests : Digests) → GavePiece (remaining b.source) (remaining c.source) (limit - hashed) n c.piece.items → IsAtEnd (remaining c.source)
      → c.sums ≡ Some (record { length = hashed + n; digests = digests }) → AreDigests digests set (at.octets ++ take n c.piece.items) → HasEnded remaining set limit a c
  ended_on n digests piece end is digests_are =
      let last = take n c.piece.items in
      let given = given_more _ _ _ _ _ n at.more c.piece.items (given_at remaining a b at).0 (subst (λ m. GavePiece (remaining b.source) (remaining c.source) m n c.piece.items) left_same piece) in
      let joined = joined_on last in
      record {
        more = at.more ++ last;
        gave = record { gave = given.gave; none_left = end; within = omega (arith, given.count, given.within) };
        sums = subst (λ (sums : Option Sums). IsSomeAnd sums (λ found. (found.length ≡ length (a.piece.items ++ (at.more ++ last))) × AreDigests found.digests set (a.piece.items ++ (at.more ++ last)))) (sym is) (
          omega (arith, ap length joined, length-append at.octets last, length-take-le n c.piece.items piece.bound, at.count),
          subst (AreDigests digests set) (sym joined) digests_are,
        );
      }

  -- the source has given a whole piece more
  pub going_on : (n : ℕ) → GavePiece (remaining b.source) (remaining c.source) (limit - hashed) n c.piece.items → length c.piece.items ≤ n
      → IsAt remaining multi set i limit hashed c.piece.items a c
  going_on n piece full =
      let whole = filled_whole (remaining b.source) (remaining c.source) (limit - hashed) n c.piece.items piece full in
      record {
        octets = at.octets;
        more = at.more ++ c.piece.items;
        front = at.front;
        gave = Consumes-trans _ _ _ _ _ at.gave whole.gave;
        joined = joined_on c.piece.items;
        count = at.count;
        within = omega (arith, at.within, whole.count, whole.within);
        holds = at.holds;
      }

module _ {S : Type 0} (remaining : S → Option (List ℕ)) (failures : S → ℕ) (ready : S → Type 0) (keeps : S → S → Type 0) where
  -- a stream that has ended, and one that hasn't
  pub ended_of : {multi : MultiLanes} {set : AlgSet} {i limit hashed : ℕ} {left : List ℕ} (a b : Stream S) → IsUnder remaining failures ready keeps multi set i limit hashed left a b → b.sums ≢ None
      → HasEnded remaining set limit a b
  ended_of {multi} {set} {i} {limit} {hashed} {left} a b under not = ended_by remaining multi set i limit hashed left a b b.sums under.going not

  pub at_of : {multi : MultiLanes} {set : AlgSet} {i limit hashed : ℕ} {left : List ℕ} (a b : Stream S) → IsUnder remaining failures ready keeps multi set i limit hashed left a b → b.sums ≡ None
      → IsAt remaining multi set i limit hashed left a b
  at_of {multi} {set} {i} {limit} {hashed} {left} a b under none = subst (IsGoing remaining multi set i limit hashed left a b) none under.going

  -- another lane has moved on
  pub under_stays : {multi : MultiLanes} (other : MultiLanes) {set : AlgSet} {i limit hashed : ℕ} {left : List ℕ} (a b : Stream S) → ((octets : List ℕ) → HoldsAt multi set i octets → HoldsAt other set i octets)
      → IsUnder remaining failures ready keeps multi set i limit hashed left a b → IsUnder remaining failures ready keeps other set i limit hashed left a b
  under_stays {multi} other {set} {i} {limit} {hashed} {left} a b stays under = record {
    room = under.room;
    going = going_so remaining multi other set i limit hashed hashed left left a b b.sums (λ none at. record {
      octets = at.octets;
      more = at.more;
      front = at.front;
      gave = at.gave;
      joined = at.joined;
      count = at.count;
      within = at.within;
      holds = stays at.octets at.holds;
    }) under.going;
    uses = under.uses;
  }

  -- the lane has taken what was left
  pub under_taken : {multi : MultiLanes} (other : MultiLanes) {set : AlgSet} {i limit hashed : ℕ} (a b : Stream S)
      → (b.sums ≡ None → (octets : List ℕ) → HoldsAt multi set i octets → HoldsAt other set i (octets ++ b.piece.items))
      → IsUnder remaining failures ready keeps multi set i limit hashed b.piece.items a b → IsUnder remaining failures ready keeps other set i limit (hashed + FRONT) [] a b
  under_taken {multi} other {set} {i} {limit} {hashed} a b taken under = record {
    room = under.room;
    going = going_so remaining multi other set i limit hashed (hashed + FRONT) b.piece.items [] a b b.sums (λ none at. record {
      octets = at.octets ++ b.piece.items;
      more = at.more;
      front = at.front;
      gave = at.gave;
      joined = at.joined ∙ sym (append-nil (at.octets ++ b.piece.items));
      count = omega (arith, at.count, length-append at.octets b.piece.items, under.room);
      within = omega (arith, at.within, under.room);
      holds = taken none at.octets at.holds;
    }) under.going;
    uses = under.uses;
  }

  -- what is left doesn't matter to a stream that has ended
  pub under_ended : {multi : MultiLanes} {set : AlgSet} {i limit hashed : ℕ} {left : List ℕ} (rest : List ℕ) (a b : Stream S) → b.sums ≢ None
      → IsUnder remaining failures ready keeps multi set i limit hashed left a b → IsUnder remaining failures ready keeps multi set i limit hashed rest a b
  under_ended {multi} {set} {i} {limit} {hashed} {left} rest a b not under = record {
    room = under.room;
    going = going_so remaining multi multi set i limit hashed hashed left rest a b b.sums (λ none at. absurd (not none)) under.going;
    uses = under.uses;
  }

  -- a stream at its beginning
  under_fresh : (multi : MultiLanes) (set : AlgSet) (i limit : ℕ) (a : Stream S) → UsesSource failures ready keeps a.source a.source ⊥ → FRONT ≤ limit → IsFresh a → HoldsAt multi set i []
      → IsUnder remaining failures ready keeps multi set i limit 0 a.piece.items a a
  under_fresh multi set i limit a uses low fresh holds = record {
    room = fresh.room;
    going = subst (IsGoing remaining multi set i limit 0 a.piece.items a a) (sym fresh.sums) (record {
      octets = [];
      more = [];
      front = fresh.room;
      gave = consumes_none (remaining a.source);
      joined = append-nil a.piece.items;
      count = refl;
      within = omega (arith, low, fresh.room);
      holds = holds;
    });
    uses = uses;
  }

  -- the next piece of a stream was read
  module _ {multi : MultiLanes} {set : AlgSet} {i limit hashed : ℕ} (a b c : Stream S) (buffer : List ℕ) (on : keeps a.source b.source → keeps b.source c.source → keeps a.source c.source)
      (under : IsUnder remaining failures ready keeps multi set i limit hashed [] a b) (none : b.sums ≡ None) (filled : c.piece.items ≡ buffer) (room : length buffer ≡ FRONT) where
    pub advance_ended : (other : MultiLanes) (n : ℕ) (digests : Digests) → GavePiece (remaining b.source) (remaining c.source) (limit - hashed) n buffer → IsAtEnd (remaining c.source)
        → c.sums ≡ Some (record { length = hashed + n; digests = digests }) → ((octets : List ℕ) → HoldsAt multi set i octets → AreDigests digests set (octets ++ take n buffer))
        → UsesSource failures ready keeps b.source c.source ⊥
        → IsUnder remaining failures ready keeps other set i limit hashed c.piece.items a c
    advance_ended other n digests piece end is digests_are uses =
        let at = at_of a b under none in
        record {
          room = ap length filled ∙ room;
          going = subst (IsGoing remaining other set i limit hashed c.piece.items a c) (sym is)
              (ended_on remaining a b c at n digests (subst (λ xs. GavePiece (remaining b.source) (remaining c.source) (limit - hashed) n xs) (sym filled) piece) end is
              (subst (λ xs. AreDigests digests set (at.octets ++ take n xs)) (sym filled) (digests_are at.octets at.holds)));
          uses = uses_on failures ready keeps a.source b.source c.source ⊥ on under.uses uses;
        }

    pub advance_going : (n : ℕ) → GavePiece (remaining b.source) (remaining c.source) (limit - hashed) n buffer → length buffer ≤ n
        → c.sums ≡ None → UsesSource failures ready keeps b.source c.source ⊥
        → IsUnder remaining failures ready keeps multi set i limit hashed c.piece.items a c
    advance_going n piece full is uses =
        let at = at_of a b under none in
        record {
          room = ap length filled ∙ room;
          going = subst (IsGoing remaining multi set i limit hashed c.piece.items a c) (sym is)
              (going_on remaining a b c at n (subst (λ xs. GavePiece (remaining b.source) (remaining c.source) (limit - hashed) n xs) (sym filled) piece) (omega (arith, full, ap length filled)));
          uses = uses_on failures ready keeps a.source b.source c.source ⊥ on under.uses uses;
        }

    pub advance_stopped : (fault : SourceFault) → GaveBefore (remaining b.source) (remaining c.source) (limit - hashed) (read_fault fault)
        → UsesSource failures ready keeps b.source c.source (fault ≡ Read) → HasStopped remaining failures ready keeps limit fault a c
    advance_stopped fault gave uses = record {
      gave = stopped_on remaining a b c (at_of a b under none) fault gave;
      uses = uses_on failures ready keeps a.source b.source c.source (fault ≡ Read) on under.uses uses;
    }

-- the sums of a stream
pub sums_of : {S : Type 0} (a b : Stream S) → a ≡ b → a.sums ≡ None → b.sums ≡ None
sums_of a b same none = ap (λ (s : Stream _). s.sums) (sym same) ∙ none

-- one more has ended
pub done_next : {S : Type 0} (streams : List (Stream S)) (first k : ℕ) → AreDone streams first k → ((stream : Stream S) → slice_get streams k ≡ Some stream → stream.sums ≢ None) → AreDone streams first (k + 1)
done_next streams first k done here j stream from to at = elim (cases_lt j k) [
  | inl below ↦ done j stream from below at
  | inr above ↦ here stream (let e : j ≡ k = omega (arith, to, above) in ap (slice_get streams) (sym e) ∙ at)
]

-- SEVERAL STREAMS

module _ {S : Type 0} (remaining : S → Option (List ℕ)) (failures : S → ℕ) (ready : S → Type 0) (keeps : S → S → Type 0) where
  pub fresh_each : (multi : MultiLanes) (set : AlgSet) (limit first end : ℕ) (streams : List (Stream S)) → ((a : S) → keeps a a) → FRONT ≤ limit → end ≤ first + 4 → AreFreshIn first end streams
      → ((i : ℕ) → i < 4 → HoldsAt multi set i []) → AreUnder remaining failures ready keeps multi set limit 0 first first end streams streams
  fresh_each multi set limit first end streams itself low four fresh begun k a b from to at same =
      let is : a ≡ b = same_Some a b (sym at ∙ same) in
      subst (λ x. IsUnder remaining failures ready keeps multi set (k - first) limit 0 x.piece.items a x) is
      (under_fresh remaining failures ready keeps multi set (k - first) limit a (uses_none failures ready keeps a.source (itself a.source)) low (fresh k a from to at) (begun (k - first) (omega (arith, from, to, four))))

  pub hashed_each : (multi other : MultiLanes) (set : AlgSet) (limit hashed first end : ℕ) (start streams : List (Stream S))
      → AreUnder remaining failures ready keeps multi set limit hashed first first end start streams → HaveTaken streams first end multi other
      → AreHashed remaining failures ready keeps other set limit (hashed + FRONT) first first end start streams
  hashed_each multi other set limit hashed first end start streams under taken k a b from to at now =
      under_taken remaining failures ready keeps other a b (λ none octets holds. taken k b from to now none set octets holds) (under k a b from to at now)

  pub ended_each : (multi : MultiLanes) (set : AlgSet) (limit hashed first end : ℕ) (start streams : List (Stream S))
      → AreUnder remaining failures ready keeps multi set limit hashed first first end start streams → AreDone streams first end → HaveEndedIn remaining failures ready keeps set limit first end start streams
  ended_each multi set limit hashed first end start streams under done k a b from to at now = (ended_of remaining failures ready keeps a b (under k a b from to at now) (done k b from to now), (under k a b from to at now).uses)

  -- one more piece of each is within the limit
  pub within_first : (multi : MultiLanes) (set : AlgSet) (limit hashed first end k : ℕ) (start streams : List (Stream S)) → length streams ≡ length start → end ≤ length streams
      → AreUnder remaining failures ready keeps multi set limit hashed first first end start streams → IsFirstOpen streams first end k → hashed + FRONT ≤ limit
  within_first multi set limit hashed first end k start streams same inside under is =
      let high = is.high in
      let b = stands streams k (omega (arith, high, inside)) in
      let a = stands start k (omega (arith, high, inside, same)) in
      let here = under k a.0 b.0 is.low is.high a.1 b.1 in
      let at = at_of remaining failures ready keeps a.0 b.0 here (is.unended b.0 b.1) in
      omega (arith, at.within, here.room)

  pub full_each : (multi : MultiLanes) (set : AlgSet) (limit hashed first end : ℕ) (start streams : List (Stream S)) → length streams ≡ length start
      → AreUnder remaining failures ready keeps multi set limit hashed first first end start streams → AreFull streams first end
  full_each multi set limit hashed first end start streams same under k b from to now =
      let inside = slice_get_within streams k b now in
      let a = stands start k (omega (arith, inside, same)) in
      (under k a.0 b from to a.1 now).room

  -- one stream was read on, and its lane has moved
  module _ (multi other : MultiLanes) (set : AlgSet) (limit hashed first k : ℕ) (start xs ys : List (Stream S)) (low : first ≤ k) (others : (j : ℕ) → j ≢ k → slice_get ys j ≡ slice_get xs j) (lanes : OtherLanesStay (k - first) multi other) where
    pub under_before : AreUnder remaining failures ready keeps multi set limit hashed first first k start xs → AreUnder remaining failures ready keeps other set limit hashed first first k start ys
    under_before under j a b from to at now =
        under_stays remaining failures ready keeps other a b (λ octets. lanes (j - first) (λ e. omega (arith, e, from, to, low)) set octets)
        (under j a b from to at (sym (others j (λ e. omega (arith, e, to))) ∙ now))

    pub hashed_after : (end : ℕ) → AreHashed remaining failures ready keeps multi set limit hashed first k end start xs → AreHashed remaining failures ready keeps other set limit hashed first (k + 1) end start ys
    hashed_after end hashed_are j a b from to at now =
        under_stays remaining failures ready keeps other a b (λ octets. lanes (j - first) (λ e. omega (arith, e, from, low)) set octets)
        (hashed_are j a b (omega (arith, from)) to at (sym (others j (λ e. omega (arith, e, from))) ∙ now))

  -- one more is known
  pub under_next : (multi : MultiLanes) (set : AlgSet) (limit hashed first k : ℕ) (start ys : List (Stream S)) → AreUnder remaining failures ready keeps multi set limit hashed first first k start ys
      → ((a b : Stream S) → slice_get start k ≡ Some a → slice_get ys k ≡ Some b → IsUnder remaining failures ready keeps multi set (k - first) limit hashed b.piece.items a b)
      → AreUnder remaining failures ready keeps multi set limit hashed first first (k + 1) start ys
  under_next multi set limit hashed first k start ys under here j a b from to at now = elim (cases_lt j k) [
    | inl below ↦ under j a b from below at now
    | inr above ↦
        let e : j ≡ k = omega (arith, to, above) in
        subst (λ n. IsUnder remaining failures ready keeps multi set (n - first) limit hashed b.piece.items a b) (sym e)
        (here a b (subst (λ n. slice_get start n ≡ Some a) e at) (subst (λ n. slice_get ys n ≡ Some b) e now))
  ]

-- FOUR AFTER FOUR

module _ {S : Type 0} (remaining : S → Option (List ℕ)) (failures : S → ℕ) (ready : S → Type 0) (keeps : S → S → Type 0) (set : AlgSet) (limit first : ℕ) (start streams new : List (Stream S)) (later : (k : ℕ) → first ≤ k → slice_get streams k ≡ slice_get start k)
    (ended : HaveEndedIn remaining failures ready keeps set limit 0 first start streams) where
  pub ended_more : (end last : ℕ) → OthersStay first last streams new → HaveEndedIn remaining failures ready keeps set limit first end streams new → HaveEndedIn remaining failures ready keeps set limit 0 end start new
  ended_more end last others more k a b from to at now = elim (cases_lt k first) [
    | inl below ↦ ended k a b from below at (sym (others k (inl below)) ∙ now)
    | inr above ↦ more k a b above to (later k above ∙ at) now
  ]

  pub first_more : (last : ℕ) (told : StreamFault) → OthersStay first last streams new
      → IsFirstStopped remaining failures ready keeps set limit first streams new told → IsFirstStopped remaining failures ready keeps set limit 0 start new told
  first_more last told others is = record {
    was = is.was;
    is = is.is;
    low = omega arith;
    old_at = sym (later told.place is.low) ∙ is.old_at;
    new_at = is.new_at;
    stopped = is.stopped;
    before = ended_more told.place last others is.before;
    behind = λ k a b past to at now.
        let from : first ≤ k = omega (arith, past, is.low) in
        let there = later k from ∙ at in
        is.behind k a b past (slice_get_within streams k a there) there now;
  }

pub fresh_later : {S : Type 0} (first end : ℕ) (start streams : List (Stream S)) → ((k : ℕ) → first ≤ k → slice_get streams k ≡ slice_get start k) → AreFresh start → AreFreshIn first end streams
fresh_later first end start streams later fresh k stream from to there =
    let at = sym (later k from) ∙ there in
    fresh k stream (omega arith) (slice_get_within start k stream at) at

-- what was told so far: nothing, or the fault of the stream at this place
abbrev pub IsTold : {S : Type 0} → (S → Option (List ℕ)) → (S → ℕ) → (S → Type 0) → (S → S → Type 0) → ℕ → ℕ → ℕ → List (Stream S) → List (Stream S) → Option SourceFault → Type 0
IsTold remaining failures ready keeps limit place end old new None = place ≡ end
IsTold {S} remaining failures ready keeps limit place end old new (Some fault) = (place < end)
    × ((was is : Stream S) → slice_get old place ≡ Some was → slice_get new place ≡ Some is → HasStopped remaining failures ready keeps limit fault was is)

-- it stays while the streams before the place are read on
pub told_stays : {S : Type 0} (remaining : S → Option (List ℕ)) (failures : S → ℕ) (ready : S → Type 0) (keeps : S → S → Type 0) (limit first place end : ℕ) (old mid new : List (Stream S)) (told : Option SourceFault)
    → OthersStay first place mid new → IsTold remaining failures ready keeps limit place end old mid told → IsTold remaining failures ready keeps limit place end old new told
told_stays remaining failures ready keeps limit first place end old mid new None others is = is
told_stays remaining failures ready keeps limit first place end old mid new (Some fault) others is = (is.0, λ was now at there. is.1 was now at (sym (others place (inr (omega arith))) ∙ there))

-- THOSE THAT WERE GIVEN UP

module _ {S : Type 0} (keeps : S → S → Type 0) (itself : (a : S) → keeps a a) where
  -- a stream that stays keeps what reads leave
  pub kept_same : (old new : List (Stream S)) (k : ℕ) (a b : Stream S) → slice_get new k ≡ slice_get old k → slice_get old k ≡ Some a → slice_get new k ≡ Some b → keeps a.source b.source
  kept_same old new k a b same at now =
      let is : a ≡ b = same_Some a b (sym at ∙ sym same ∙ now) in
      subst (λ (s : Stream S). keeps a.source s.source) is (itself a.source)

  -- those behind a place were given up, or were no part of the four
  pub kept_behind : (first place end : ℕ) (old new : List (Stream S)) → first ≤ place + 1 → HaveKeptIn keeps place end old new → OthersStay first end old new → HaveKeptIn keeps (place + 1) (length old) old new
  kept_behind first place end old new low given_up others k a b past to at now = elim (cases_lt k end) [
    | inl below ↦ given_up k a b (omega (arith, past)) below at now
    | inr above ↦ kept_same old new k a b (others k (inr above)) at now
  ]

-- the stream that stopped, and those behind it, are given up too
pub kept_more : {S : Type 0} (remaining : S → Option (List ℕ)) (failures : S → ℕ) (ready : S → Type 0) (keeps : S → S → Type 0) (limit first : ℕ) (told : StreamFault) (place end : ℕ) (old mid new : List (Stream S))
    → ((was is : Stream S) → slice_get old told.place ≡ Some was → slice_get new told.place ≡ Some is → HasStopped remaining failures ready keeps limit told.fault was is)
    → HaveKeptIn keeps (told.place + 1) place old new → OthersStay first place mid new → HaveKeptIn keeps place end old mid → HaveKeptIn keeps told.place end old new
kept_more remaining failures ready keeps limit first told place end old mid new stopped behind others given_up k a b from to at now = elim (cases_lt k place) [
  | inl below ↦ elim (cases_lt told.place k) [
    | inl past ↦ behind k a b (omega (arith, past)) below at now
    | inr above ↦
        let e : k ≡ told.place = omega (arith, from, above) in
        (stopped a b (ap (slice_get old) (sym e) ∙ at) (ap (slice_get new) (sym e) ∙ now)).uses.kept
  ]
  | inr above ↦ given_up k a b above to at (sym (others k (inr above)) ∙ now)
]

-- THE PIECES OF FOUR

-- the only stream that has not ended
pub lone : {S : Type 0} (streams : List (Stream S)) (first end next k : ℕ) (stream : Stream S) → IsFirstOpen streams first end next → AreDone streams (next + 1) end → first ≤ k → k < end
    → slice_get streams k ≡ Some stream → stream.sums ≡ None → k ≡ next
lone streams first end next k stream is done from to at none = elim (cases_lt k next) [
  | inl below ↦ absurd (is.before k stream from below at none)
  | inr above ↦ elim (cases_lt next k) [
    | inl past ↦ absurd (done k stream (omega (arith, past)) to at none)
    | inr same ↦ omega (arith, above, same)
  ]
]

-- the piece that is taken for the stream at a place
abbrev pub IsPieceOf : {S : Type 0} → List (Stream S) → ℕ → ℕ → List ℕ → Type 0
IsPieceOf {S} streams k end piece = (stream : Stream S) → slice_get streams (min k (end - 1)) ≡ Some stream → piece ≡ stream.piece.items

pub piece_is : {S : Type 0} (streams : List (Stream S)) (k end : ℕ) (piece : List ℕ) → IsPieceOf streams k end piece → k < end → (stream : Stream S) → slice_get streams k ≡ Some stream → piece ≡ stream.piece.items
piece_is streams k end piece is below stream at = is stream (ap (slice_get streams) (let e : min k (end - 1) ≡ k = omega (arith, below) in e) ∙ at)

pub piece_full : {S : Type 0} (streams : List (Stream S)) (first k end : ℕ) (piece : List ℕ) → IsPieceOf streams k end piece → first ≤ k → first < end → end ≤ length streams → AreFull streams first end
    → length piece ≡ FRONT
piece_full streams first k end piece is low some inside full =
    let place = min k (end - 1) in
    let s = stands streams place (omega (arith, some, inside)) in
    ap length (is s.0 s.1) ∙ full place s.0 (omega (arith, low, some)) (omega (arith, some)) s.1
