-- Several files that were taken back, and what is told and there afterwards.
use Rattle.std.proofs.Common.{◌≡◌, ◌∙◌, ◌+◌, ◌<◌, ◌++◌, ◌∷◌, [], ℕ, Bool, List, Option, Some, ap, append-nil, arith, inl, inr, length, length-append, slice_get, subst, sym, take}
use Rattle.std.proofs.lemmas.Bool.{cases_lt}
use Rattle.std.proofs.lemmas.List.{take-append-le, take_all}
use Rattle.std.proofs.lemmas.Option.{slice_get_within}
use Rattle.bag_digest.specs.declared.algorithm.AlgSet.{AlgSet}
use Rattle.bag_rules.specs.Returning.{AreOut}
use Rattle.bag_rules.specs.declared.limits.TheConstants.{LARGEST_FILE}
use Rattle.bag_rules.proofs.Words.{Files, Shown}
use Rattle.bag_writer.specs.Copying.{KeepPlaces}
use Rattle.bag_writer.specs.Finishing.{AreBefore, AreFilesAt, AreTakenOf, EndsCopies, HasStoppedIn, IsCutAt, IsCutBy, IsFileAt, places_of}
use Rattle.bag_writer.specs.Copying.{Sides}
use Rattle.bag_writer.specs.Returned.{AreByPlace, HasStoppedFirst, IsToldOf, LeavesCopies, TakesCopiesBack}
use Rattle.bag_writer.specs.Sinks.{Stored}
use Rattle.bag_writer.specs.Steps.{ArePart, AreWhole}
use Rattle.bag_writer.specs.Writing.{HasLongFile, IsMetLater}
use Rattle.bag_writer.specs.declared.copying.Copying.{Copying}
use Rattle.bag_writer.specs.declared.copying.CopyStop.{CopyStop}
use Rattle.bag_writer.specs.declared.payload.CopyFault.{CopyFault}
use Rattle.bag_writer.specs.declared.payload.CopyFault.TheVariants as copy
use Rattle.bag_writer.specs.declared.too_large.Large.{Large}
use Rattle.bag_writer.specs.declared.write_fault.WriteFault.{WriteFault}
use Rattle.bag_writer.specs.declared.write_fault.WriteFault.TheVariants.{Memory, TooLarge}
use Rattle.bag_writer.proofs.Completing.{has_last, part_of_whole, same_places}
use Rattle.bag_writer.proofs.Pairs.{zip_on}
use Rattle.bag_writer.proofs.PayloadLists.{File}
use Rattle.bag_writer.proofs.StepLemmas.{part_none}
use Rattle.bag_digest.proofs.ListLemmas.{stands}

-- THE COUNT OF A SINK

module _ {S : Type 0} {stored : S → Option Stored} {is_open : S → Bool} {failures : S → ℕ} {sure : S → Type 0} where
  pub ends_back : {F : Type 0} (n : ℕ) {a b c : S} → failures b ≡ failures a → is_open b ≡ is_open a → (sure a → sure b) → TakesCopiesBack stored is_open failures sure n F b c → EndsCopies is_open failures sure n F a c
  ends_back n {a} {b} {c} count same stays back = record {
    as_open = back.as_open ∙ same;
    stays_sure = λ s. back.stays_sure (stays s);
    counted = λ base out. back.counted base (subst (AreOut base n) (sym count) out);
  }

  pub copies_all : (n m : ℕ) {a b : S} → m ≡ n → ((k : ℕ) → LeavesCopies stored is_open failures sure (k + m) k a b) → LeavesCopies stored is_open failures sure n 0 a b
  copies_all n m {a} {b} same left = subst (λ l. LeavesCopies stored is_open failures sure l 0 a b) (let e : 0 + m ≡ n = omega (arith, same) in e) (left 0)

  pub copies_more : (n m : ℕ) {a b : S} → m ≡ n → ((k : ℕ) → LeavesCopies stored is_open failures sure (k + m) k a b) → LeavesCopies stored is_open failures sure (n + 1) 1 a b
  copies_more n m {a} {b} same left = subst (λ l. LeavesCopies stored is_open failures sure l 1 a b) (let e : 1 + m ≡ n + 1 = omega (arith, same) in e) (left 1)

-- WHAT IS THERE

module _ (shown : Shown) (places : List ℕ) (old new : Option Stored) where
  pub cut_told : (place : ℕ) (fault : CopyFault) (told : WriteFault) → IsCutBy shown places place old new fault → IsToldOf shown place fault told → IsCutAt shown places old new told
  cut_told place fault told cut is = record {
    met = is.met;
    count = cut.count;
    files = cut.files;
    are = cut.are;
    part = cut.part;
    long = λ what e.
        let it = is.long what e in
        let one = cut.long it.0 in
        (one.0.0, it.1 one.0.0 one.2, (one.0.1, one.1, one.3));
  }

  take_front : (more : List ℕ) → take (length places) (places ++ more) ≡ places
  take_front more = take-append-le (length places) places more (omega arith) ∙ take_all (length places) places (omega arith)

  pub cut_more : (more : List ℕ) (told : WriteFault) → IsCutAt shown places old new told → IsCutAt shown (places ++ more) old new told
  cut_more more told cut = elim (cases_lt (length places) cut.count) [
    | inl over ↦ record {
      met = cut.met;
      count = length places;
      files = cut.files;
      are = subst (λ list. AreFilesAt shown list cut.files) (take_all cut.count places (omega (arith, over)) ∙ sym (take_front more)) cut.are;
      part = cut.part;
      long = cut.long;
    }
    | inr within ↦ record {
      met = cut.met;
      count = cut.count;
      files = cut.files;
      are = subst (λ list. AreFilesAt shown list cut.files) (sym (take-append-le cut.count places more within)) cut.are;
      part = cut.part;
      long = cut.long;
    }
  ]

  -- memory ran out
  pub cut_none : IsCutAt shown places old old Memory
  cut_none = record { met = tt; count = 0; files = []; are = tt; part = part_none [] old; long = λ what e. absurd (let k : Memory ≡ TooLarge what = e in cc) }

  -- all were written whole
  module _ (files : Files) (are : AreFilesAt shown places files) (whole : AreWhole files old new) where
    pub cut_whole : (told : WriteFault) → IsMetLater told → ((large : Large) → ¬ (told ≡ TooLarge large)) → IsCutAt shown places old new told
    cut_whole told met other = record {
      met = met;
      count = length places;
      files = files;
      are = subst (λ list. AreFilesAt shown list files) (sym (take_all (length places) places (omega arith))) are;
      part = subst (λ list. ArePart list old new) (append-nil files) (part_of_whole files old new whole []);
      long = λ what e. absurd (other what e);
    }

    -- and the next one has stopped
    pub cut_next : (i : ℕ) (file : File) (fault : CopyFault) (told : WriteFault) → IsFileAt shown i file → (fault ≡ copy.TooLarge → LARGEST_FILE < length file.1) → IsToldOf shown i fault told → IsCutAt shown (places ++ i ∷ []) old new told
    cut_next i file fault told at long is = record {
      met = is.met;
      count = length places + 1;
      files = files ++ file ∷ [];
      are = subst (λ list. AreFilesAt shown list (files ++ file ∷ [])) (sym (take_all (length places + 1) (places ++ i ∷ []) (omega (arith, length-append places (i ∷ [])))))
          (zip_on (IsFileAt shown) places files (i ∷ []) (file ∷ []) are (at, tt));
      part = part_of_whole files old new whole (file ∷ []);
      long = λ what e.
          let it = is.long what e in
          (file.0, it.1 file.0 at.named, (file.1, has_last files file, long it.0));
    }

pub short_taken : {F G : Type 0} (place : F → ℕ) (shown : Shown) (set : AlgSet) (xs : List (Copying F G)) (files : Files) → AreTakenOf place shown set xs files → ¬ HasLongFile files LARGEST_FILE
short_taken place shown set [] [] taken (path, (octets, has, long)) = has
short_taken place shown set [] (file ∷ files) taken long = taken
short_taken place shown set (x ∷ xs) [] taken long = taken
short_taken place shown set (x ∷ xs) (file ∷ files) taken (path, (octets, inl same, long)) =
    let within = taken.0.within in
    let e : length file.1 ≡ length octets = ap (λ (f : File). length f.1) same in
    omega (arith, within, long, e)
short_taken place shown set (x ∷ xs) (file ∷ files) taken (path, (octets, inr has, long)) = short_taken place shown set xs files taken.1 (path, (octets, has, long))

-- THE FIRST THAT STOPPED

module _ {F G : Type 0} (s : Sides F G) (shown : Shown) (xs zs : List (Copying F G)) (keep : KeepPlaces s.place s.copy_place xs zs) where
  pub places_same_of : places_of s.place zs ≡ places_of s.place xs
  places_same_of = same_places s.place xs zs keep.count (λ k a b at now. (keep.each k a b at now).0)

  back : (k : ℕ) (each : Copying F G) → slice_get zs k ≡ Some each → (was : Copying F G) × (slice_get xs k ≡ Some was)
  back k each now = stands xs k (let inside = slice_get_within zs k each now in omega (arith, inside, keep.count))

  pub by_place_kept : AreByPlace s.place s.copy_place xs → AreByPlace s.place s.copy_place zs
  by_place_kept by = record {
    beside = λ k each now.
        let was = back k each now in
        let same = keep.each k was.0 each was.1 now in
        same.1 ∙ by.beside k was.0 was.1 ∙ sym same.0;
    rising = λ j k a b below at now.
        let one = back j a at in
        let two = back k b now in
        let first = (keep.each j one.0 a one.1 at).0 in
        let then = (keep.each k two.0 b two.1 now).0 in
        let up = by.rising j k one.0 two.0 below one.1 two.1 in
        omega (arith, first, then, up);
  }

  pub before_kept : (i : ℕ) → AreBefore s.place xs i → AreBefore s.place zs i
  before_kept i before k each now =
      let was = back k each now in
      let same = (keep.each k was.0 each was.1 now).0 in
      let low = before k was.0 was.1 in
      omega (arith, same, low)

  pub stopped_first : (old new : Option Stored) (stop : CopyStop) → AreByPlace s.place s.copy_place xs → HasStoppedIn s shown zs old new stop → HasStoppedFirst s.place s.failures s.copy_place s.copy_failures shown zs stop
  stopped_first old new stop by is = record {
    inside = is.inside;
    by_place = by_place_kept by;
    before = is.before;
    here = λ each now. (is.here each now).0;
  }

  -- how it is told
  pub stopped_told : (old new : Option Stored) (stop : CopyStop) (told : WriteFault) → HasStoppedIn s shown zs old new stop → ((each : Copying F G) → slice_get zs stop.place ≡ Some each → IsToldOf shown (s.place each.source) stop.fault told) → IsCutAt shown (places_of s.place xs) old new told
  stopped_told old new stop told is tells =
      let each = stands zs stop.place is.inside in
      subst (λ places. IsCutAt shown places old new told) places_same_of
      (cut_told shown (places_of s.place zs) old new (s.place each.0.source) stop.fault told (is.here each.0 each.1).1 (tells each.0 each.1))
