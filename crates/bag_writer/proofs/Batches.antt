-- Files that are begun, one after another, until they are ended together.
use Rattle.std.proofs.Common.{◌≡◌, ◌∙◌, ◌+◌, ◌<◌, ◌≤◌, ◌++◌, ◌∷◌, [], ℕ, Bool, false, true, List, Option, Some, None, ap, append-nil, arith, inl, inr, length, length-append, refl, slice_get, subst, sym, take}
use Rattle.std.proofs.lemmas.Bool.{cases_lt}
use Rattle.std.proofs.lemmas.Option.{same_Some, slice_get_within}
use Rattle.std.specs.Option.{option_map}
use Rattle.bag_digest.specs.declared.algorithm.AlgSet.{AlgSet}
use Rattle.bag_digest.specs.declared.reading.SourceRead.{SourceRead}
use Rattle.bag_digest.specs.declared.buffers.TheConstants.{FRONT}
use Rattle.bag_rules.specs.Returning.{AreOut, LeavesOut, TakesAllBack}
use Rattle.bag_rules.specs.declared.limits.TheConstants.{LARGEST_FILE}
use Rattle.bag_rules.proofs.FileReadLemmas.{push_at, push_before}
use Rattle.bag_rules.proofs.Words.{AreRising, Files, is_payload, paths_in, Shown, slice_get-map, UsesTree}
use Rattle.bag_writer.specs.Copying.{AreFresh, AreFull, IsFresh, IsFreshBy, Sides, Work}
use Rattle.bag_writer.specs.Finishing.{AreBefore, AreFilesAt, AreFinished, AreUnderWay, CanEnd, EndsCopies, IsCutAt, places_of}
use Rattle.bag_writer.specs.HeldFiles.{AreItemsSoFar}
use Rattle.bag_writer.specs.Pending.{AddsCopy, CanBegin, work_of}
use Rattle.bag_writer.specs.Returned.{AreByPlace, AreUnfailed, LeavesCopies}
use Rattle.bag_writer.specs.Sinks.{Stored, UsesSink}
use Rattle.bag_writer.specs.Steps.{ArePart, HasNoFile, NamesLong, written_payload}
use Rattle.bag_writer.specs.Writing.{IsReadFrom, payload_paths}
use Rattle.bag_writer.specs.declared.copying.Copying.{Copying}
use Rattle.bag_writer.specs.declared.items.Items.{Items}
use Rattle.bag_writer.specs.declared.spec.Spec.{Spec}
use Rattle.bag_writer.specs.declared.too_large.Large.TheVariants as large
use Rattle.bag_writer.specs.declared.write_fault.WriteFault.{WriteFault}
use Rattle.bag_writer.proofs.PayloadLists.{ShownFile}
use Rattle.bag_writer.proofs.PayloadSoFar.{HasWritten, none_at, nothing_written}
use Rattle.bag_writer.proofs.Places.{IsBetween, between_next, between_none, between_passed, can_end, free_here, group_cut, group_written, rising_below}
use Rattle.bag_writer.proofs.StepLemmas.{whole_none}
use Rattle.bag_digest.proofs.ListLemmas.{stands}

-- an element of a list with one more: it is one of the others, or the last
module _ {X : Type 0} (xs : List X) (last : X) where
  pub push_cases : (P : ℕ → X → Type 0) → ((k : ℕ) (x : X) → slice_get xs k ≡ Some x → P k x) → P (length xs) last → (k : ℕ) (x : X) → slice_get (xs ++ last ∷ []) k ≡ Some x → P k x
  push_cases P others here k x at = elim (cases_lt k (length xs)) [
    | inl below ↦ others k x (sym (push_before xs last k below) ∙ at)
    | inr above ↦
        let inside = slice_get_within (xs ++ last ∷ []) k x at in
        let e : k ≡ length xs = omega (arith, above, inside, length-append xs (last ∷ [])) in
        let same : last ≡ x = same_Some last x (sym (push_at xs last) ∙ ap (slice_get (xs ++ last ∷ [])) (sym e) ∙ at) in
        subst (P k) same (subst (λ n. P n last) (sym e) here)
  ]

module _ {F G : Type 0} (s : Sides F G) where
  beside_by : (work : Work) (set : AlgSet) (each : Copying F G) (found : Option SourceRead) → IsFreshBy s work set each found → s.copy_place each.target ≡ s.place each.source
  beside_by work set each None fresh = fresh.beside
  beside_by work set each (Some found) fresh = fresh.copied.beside

  pub before_all : (shown : Shown) (n i : ℕ) (copies : List (Copying F G)) → IsBetween shown n i (places_of s.place copies) → AreBefore s.place copies i
  before_all shown n i copies between k each at =
      rising_below n i (places_of s.place copies) between.rising k (s.place each.source) (slice_get-map (λ (c : Copying F G). s.place c.source) copies k ∙ ap (option_map (λ (c : Copying F G). s.place c.source)) at)

  module _ (work : Work) (i : ℕ) (copies new : List (Copying F G)) (adds : AddsCopy s work i copies new) where
    pub adds_count : length new ≡ length copies + 1
    adds_count = ap length adds.all ∙ length-append copies (adds.last ∷ [])

    map_on : (xs : List (Copying F G)) (x : Copying F G) → places_of s.place (xs ++ x ∷ []) ≡ places_of s.place xs ++ s.place x.source ∷ []
    map_on [] x = refl
    map_on (y ∷ xs) x = λ t. s.place y.source ∷ map_on xs x t

    pub adds_places : places_of s.place new ≡ places_of s.place copies ++ i ∷ []
    adds_places = ap (places_of s.place) adds.all ∙ map_on copies adds.last ∙ ap (λ n. places_of s.place copies ++ n ∷ []) adds.placed

    pub adds_fresh : (set : AlgSet) → AreFresh s work set 0 (length copies) copies → AreFresh s work set 0 (length new) new
    adds_fresh set fresh k each from to at =
        push_cases copies adds.last (λ j x. IsFresh s work set x) (λ j x there. fresh j x (omega arith) (slice_get_within copies j x there) there) (adds.fresh set) k each (subst (λ list. slice_get list k ≡ Some each) adds.all at)

    pub adds_full : AreFull 0 (length copies) copies → AreFull 0 (length new) new
    adds_full full k each from to at =
        push_cases copies adds.last (λ j x. x.found ≡ None → length x.piece.items ≡ FRONT) (λ j x there. full j x (omega arith) (slice_get_within copies j x there) there) adds.full k each (subst (λ list. slice_get list k ≡ Some each) adds.all at)

    pub adds_by_place : (set : AlgSet) → AreByPlace s.place s.copy_place copies → AreBefore s.place copies i → AreByPlace s.place s.copy_place new
    adds_by_place set by before = record {
      beside = λ k each at.
          push_cases copies adds.last (λ j x. s.copy_place x.target ≡ s.place x.source) (λ j x there. by.beside j x there) (beside_by work set adds.last adds.last.found (adds.fresh set)) k each (subst (λ list. slice_get list k ≡ Some each) adds.all at);
      rising = λ j k a b below first then.
          push_cases copies adds.last (λ l y. j < l → s.place a.source < s.place y.source)
          (λ l y there low. by.rising j l a y low (sym (push_before copies adds.last j (let inside = slice_get_within copies l y there in omega (arith, inside, low))) ∙ subst (λ list. slice_get list j ≡ Some a) adds.all first) there)
          (λ low. (let high = before j a (sym (push_before copies adds.last j low) ∙ subst (λ list. slice_get list j ≡ Some a) adds.all first) in omega (arith, high, adds.placed)))
          k b (subst (λ list. slice_get list k ≡ Some b) adds.all then) below;
    }

  -- none of those under way has failed
  module _ (work : Work) (set : AlgSet) where
    unfailed_by : (each : Copying F G) (found : Option SourceRead) → IsFreshBy s work set each found → (s.failures each.source ≡ 0) × (s.copy_failures each.target ≡ 0)
    unfailed_by each None fresh = (fresh.unfailed, fresh.copy_unfailed)
    unfailed_by each (Some found) fresh = (fresh.copied.unfailed, fresh.copied.copy_unfailed)

    pub fresh_unfailed : (copies : List (Copying F G)) → AreFresh s work set 0 (length copies) copies → AreUnfailed s.failures s.copy_failures copies
    fresh_unfailed copies fresh k each at = unfailed_by each each.found (fresh k each (omega arith) (slice_get_within copies k each at) at)

-- THE COUNT OF A SINK

-- Files were ended, given out or taken back: so many are out, and none was at first.
pub record HasOut {S : Type 0} (is_open : S → Bool) (failures : S → ℕ) (sure : S → Type 0) (after : ℕ) (old new : S) : Type 0 where
  pub as_open : is_open new ≡ is_open old
  pub stays_sure : sure old → sure new
  pub counted : (base : ℕ) → AreOut base 0 (failures old) → AreOut base after (failures new)

module _ {S : Type 0} {is_open : S → Bool} {failures : S → ℕ} {sure : S → Type 0} where
  pub none_out : {a : S} → HasOut is_open failures sure 0 a a
  none_out = record { as_open = refl; stays_sure = λ s. s; counted = λ base out. out }

  -- all that were out were taken back
  pub sink_used : {In F : Type 0} (n : ℕ) {a b c : S} → HasOut is_open failures sure n a b → EndsCopies is_open failures sure n F b c → (sure a → In → ¬ F) → UsesSink failures sure a c In F
  sink_used n {a} {b} {c} p q not = record {
    counted = q.counted (failures a) (p.counted (failures a) (omega arith, λ some. absurd (omega (arith, some))));
    stays_sure = λ s. (q.stays_sure (p.stays_sure s), λ order. not s order);
  }

  -- none has failed
  pub none_more : {F : Type 0} (n : ℕ) {a b c : S} → HasOut is_open failures sure n a b → EndsCopies is_open failures sure n F b c → ¬ F → HasOut is_open failures sure 0 a c
  none_more n {a} {b} {c} p q not = record {
    as_open = q.as_open ∙ p.as_open;
    stays_sure = λ s. q.stays_sure (p.stays_sure s);
    counted = λ base out. (let same = (q.counted base (p.counted base out)).stays not in omega (arith, same), λ some. absurd (omega (arith, some)));
  }

  -- the same for another result
  pub ends_so : {F G : Type 0} (n : ℕ) {a b : S} → EndsCopies is_open failures sure n F a b → (F → G) → (G → F) → EndsCopies is_open failures sure n G a b
  ends_so n p there back = record {
    as_open = p.as_open;
    stays_sure = p.stays_sure;
    counted = λ base out. let c = p.counted base out in record { rises = λ g. c.rises (back g); stays = λ not. c.stays (λ f. not (there f)) };
  }

module _ {S : Type 0} {stored : S → Option Stored} {is_open : S → Bool} {failures : S → ℕ} {sure : S → Type 0} where
  pub out_on : (m n : ℕ) {a b c : S} → HasOut is_open failures sure m a b → LeavesCopies stored is_open failures sure m n b c → HasOut is_open failures sure n a c
  out_on m n p q = record {
    as_open = q.as_open ∙ p.as_open;
    stays_sure = λ s. q.stays_sure (p.stays_sure s);
    counted = λ base out. q.counted base (p.counted base out);
  }

  pub copies_ends : {F : Type 0} (n : ℕ) {a b : S} → LeavesCopies stored is_open failures sure n 0 a b → ¬ F → EndsCopies is_open failures sure n F a b
  copies_ends n {a} {b} left not = record {
    as_open = left.as_open;
    stays_sure = left.stays_sure;
    counted = λ base out. record { rises = λ f. absurd (not f); stays = λ no. (let all = left.counted base out in omega (arith, all.0)) };
  }

-- THE COUNT OF A TREE

module _ {T : Type 0} {shown : T → Shown} {failures : T → ℕ} {sure : T → Type 0} where
  pub tree_used : {F : Type 0} (n : ℕ) {a b c : T} → LeavesOut shown failures sure 0 n a b → TakesAllBack shown failures sure n F b c → (sure a → ¬ F) → UsesTree shown failures sure a c F
  tree_used n {a} {b} {c} p q not = record {
    same = q.kept.same ∙ p.kept.same;
    counted = q.counted (failures a) (p.counted (failures a) (omega arith, λ some. absurd (omega (arith, some))));
    stays_sure = λ s. (q.kept.stays_sure (p.kept.stays_sure s), not s);
  }

  pub none_left : {F : Type 0} (n : ℕ) {a b c : T} → LeavesOut shown failures sure 0 n a b → TakesAllBack shown failures sure n F b c → ¬ F → LeavesOut shown failures sure 0 0 a c
  none_left n {a} {b} {c} p q not = record {
    kept = record { same = q.kept.same ∙ p.kept.same; stays_sure = λ s. q.kept.stays_sure (p.kept.stays_sure s) };
    counted = λ base out. (let same = (q.counted base (p.counted base out)).stays not in omega (arith, same), λ some. absurd (omega (arith, some)));
  }

-- WHAT IS IN HAND

-- What was read and written up to this place: the files before some place are done, and those behind it are under way,
-- or done.
pub record InHand {F G : Type 0} (s : Sides F G) (spec : Spec) (shown : Shown) (sure calm : Type 0) (old new : Option Stored) (i : ℕ) (items : Items) (copies : List (Copying F G)) : Type 0 where
  pub n : ℕ
  pub low : n ≤ i
  pub files : Files
  pub so_far : HasWritten spec (take n shown.files) old new items files
  pub between : IsBetween shown n i (places_of s.place copies)
  pub by_place : AreByPlace s.place s.copy_place copies
  pub full : AreFull 0 (length copies) copies
  pub fresh : (tree_sure sink_sure : Bool) → (tree_sure ≡ true → sure) → (sink_sure ≡ true → calm) → AreFresh s (work_of shown tree_sure sink_sure) spec.algs 0 (length copies) copies

module _ {F G : Type 0} (s : Sides F G) (spec : Spec) (shown : Shown) (sure calm : Type 0) where
  none_by_place : AreByPlace s.place s.copy_place []
  none_by_place = record {
    beside = λ k each at. absurd (let e : None ≡ Some each = at in cc);
    rising = λ j k a b below at there. absurd (let e : None ≡ Some a = at in cc);
  }

  none_full : AreFull {F = F} {G = G} 0 0 []
  none_full k each from to at = absurd (omega (arith, to))

  none_fresh : (work : Work) → AreFresh s work spec.algs 0 0 []
  none_fresh work k each from to at = absurd (omega (arith, to))

  pub hand_first : (old : Option Stored) (items : Items) → AreItemsSoFar spec.algs items [] → InHand s spec shown sure calm old old 0 items []
  hand_first old items none = record {
    n = 0;
    low = omega arith;
    files = [];
    so_far = nothing_written spec old items none;
    between = between_none shown 0 (omega arith);
    by_place = none_by_place;
    full = none_full;
    fresh = λ tree_sure sink_sure a b. none_fresh (work_of shown tree_sure sink_sure);
  }

  module _ (old new : Option Stored) (i : ℕ) (items : Items) (copies : List (Copying F G)) (hand : InHand s spec shown sure calm old new i items copies) where
    pub hand_under_way : AreUnderWay s shown spec.algs copies
    hand_under_way = record {
      by_place = hand.by_place;
      full = hand.full;
      fresh = hand.fresh false false (λ e. (let k : false ≡ true = e in cc)) (λ e. (let k : false ≡ true = e in cc));
    }

    pub hand_before : AreBefore s.place copies i
    hand_before = before_all s shown hand.n i copies hand.between

    module _ (file : ShownFile) (here : slice_get shown.files i ≡ Some file) where
      pub hand_passed : is_payload file.0 ≡ false → InHand s spec shown sure calm old new (i + 1) items copies
      hand_passed other = record {
        n = hand.n;
        low = (let below = hand.low in omega (arith, below));
        files = hand.files;
        so_far = hand.so_far;
        between = between_passed shown hand.n i (places_of s.place copies) hand.between file here other;
        by_place = hand.by_place;
        full = hand.full;
        fresh = hand.fresh;
      }

      pub hand_next : is_payload file.0 ≡ true → (more : List (Copying F G)) → ((tree_sure sink_sure : Bool) → (tree_sure ≡ true → sure) → (sink_sure ≡ true → calm) → AddsCopy s (work_of shown tree_sure sink_sure) i copies more) → InHand s spec shown sure calm old new (i + 1) items more
      hand_next is more adds =
          let plain = adds false false (λ e. (let k : false ≡ true = e in cc)) (λ e. (let k : false ≡ true = e in cc)) in
          let work = work_of shown false false in
          record {
            n = hand.n;
            low = (let below = hand.low in omega (arith, below));
            files = hand.files;
            so_far = hand.so_far;
            between = subst (λ places. IsBetween shown hand.n (i + 1) places) (sym (adds_places s work i copies more plain)) (between_next shown hand.n i (places_of s.place copies) hand.between file here is);
            by_place = adds_by_place s work i copies more plain spec.algs hand.by_place hand_before;
            full = adds_full s work i copies more plain hand.full;
            fresh = λ tree_sure sink_sure a b. adds_fresh s (work_of shown tree_sure sink_sure) i copies more (adds tree_sure sink_sure a b) spec.algs (hand.fresh tree_sure sink_sure a b);
          }

      -- the next one has stopped
      pub hand_cut_next : spec.holes.items ≡ [] → is_payload file.0 ≡ true → (end : Option Stored) (fault : WriteFault) → IsCutAt shown (places_of s.place copies ++ i ∷ []) new end fault
          → (payload : Files) × IsReadFrom shown payload × (NamesLong large.File payload LARGEST_FILE fault × ArePart (written_payload spec payload) old end)
      hand_cut_next none is end fault cut =
          group_cut spec none shown hand.n (i + 1) old new items hand.files hand.so_far (places_of s.place copies ++ i ∷ []) (between_next shown hand.n i (places_of s.place copies) hand.between file here is) (let below = hand.low in omega (arith, below)) end fault cut

    -- one of them is payload
    pub hand_some : 0 < length copies → payload_paths shown ≡ [] → ⊥
    hand_some some none =
        let first = stands copies 0 some in
        let place = s.place first.0.source in
        let at : slice_get (places_of s.place copies) 0 ≡ Some place = slice_get-map (λ (c : Copying F G). s.place c.source) copies 0 ∙ ap (option_map (λ (c : Copying F G). s.place c.source)) first.1 in
        let below = hand_before 0 first.0 first.1 in
        let inside = hand.between.inside in
        let there = stands shown.files place (omega (arith, below, inside)) in
        none_at shown.files place there.0 there.1 (hand.between.payload 0 place there.0 at there.1) none

    -- one of them has stopped
    pub hand_cut : spec.holes.items ≡ [] → (end : Option Stored) (fault : WriteFault) → IsCutAt shown (places_of s.place copies) new end fault
        → (payload : Files) × IsReadFrom shown payload × (NamesLong large.File payload LARGEST_FILE fault × ArePart (written_payload spec payload) old end)
    hand_cut none end fault cut = group_cut spec none shown hand.n i old new items hand.files hand.so_far (places_of s.place copies) hand.between hand.low end fault cut

    -- they were written whole
    pub hand_finished : spec.holes.items ≡ [] → (end : Option Stored) (more : Items) → AreFinished spec.algs shown (places_of s.place copies) items more new end → InHand s spec shown sure calm old end i more []
    hand_finished none end more done =
        let all = group_written spec none shown hand.n i old new items hand.files hand.so_far (places_of s.place copies) hand.between end more done in
        record {
          n = i;
          low = omega arith;
          files = all.0;
          so_far = all.1;
          between = between_none shown i hand.between.inside;
          by_place = none_by_place;
          full = none_full;
          fresh = λ tree_sure sink_sure a b. none_fresh (work_of shown tree_sure sink_sure);
        }

    -- the sink has none of their paths yet, nor that of the next
    pub hand_can_end : spec.holes.items ≡ [] → AreRising (paths_in shown) → HasNoFile old → (sink_sure : Type 0) (is_open : Bool) → sink_sure → is_open ≡ false → CanEnd sink_sure is_open new shown (places_of s.place copies)
    hand_can_end none rising empty sink_sure is_open is closed = can_end spec none shown rising old empty hand.n i hand.low (places_of s.place copies) hand.between hand.files new items hand.so_far sink_sure is_open is closed

    pub hand_can_begin : AreRising (paths_in shown) → HasNoFile old → (sink_sure : Type 0) (is_open : Bool) → sink_sure → is_open ≡ false → CanBegin sink_sure is_open new shown i
    hand_can_begin rising empty sink_sure is_open is closed = record {
      is_sure = is;
      closed = closed;
      free = λ path named. free_here spec shown rising old empty hand.n i hand.low hand.files new items hand.so_far path named;
    }

  -- none is under way
  pub hand_settled : (old new : Option Stored) (i : ℕ) (items : Items) (copies : List (Copying F G)) (hand : InHand s spec shown sure calm old new i items copies) → spec.holes.items ≡ [] → copies ≡ [] → (all : Files) × HasWritten spec (take i shown.files) old new items all
  hand_settled old new i items copies hand none empty =
      let places : List ℕ = places_of s.place copies in
      let is : places ≡ [] = ap (places_of s.place) empty in
      group_written spec none shown hand.n i old new items hand.files hand.so_far places hand.between new items (record {
        files = [];
        are = subst (λ list. AreFilesAt shown list []) (sym is) tt;
        short = λ long. long.1.1;
        added = λ before so_far. subst (AreItemsSoFar spec.algs items) (sym (append-nil before)) so_far;
        whole = whole_none new;
      })
