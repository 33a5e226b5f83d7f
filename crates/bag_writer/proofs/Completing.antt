-- Several files that were copied to their ends, or until one stopped.
use Rattle.std.proofs.Common.{◌≡◌, ◌≢◌, ◌∙◌, ◌+◌, ◌<◌, ◌≤◌, ◌++◌, ◌∷◌, [], ℕ, suc, Bool, true, List, Option, Some, Result, Ok, Err, MatchResult, IfErr, ap, arith, drop, inl, inr, length, length-append, refl, slice_get, subst, sym, take}
use Rattle.std.specs.Prelude.{IsErr, IsSomeAnd}
use Rattle.std.specs.List.{AllZip}
use Rattle.std.specs.Option.{option_map}
use Rattle.std.proofs.lemmas.List.{take-append-drop, take-map, take_all}
use Rattle.std.proofs.lemmas.Option.{slice_get_within}
use Rattle.bag_digest.specs.declared.algorithm.AlgSet.{AlgSet}
use Rattle.bag_rules.specs.Faults.{Has}
use Rattle.bag_rules.specs.declared.limits.TheConstants.{LARGEST_FILE}
use Rattle.bag_rules.proofs.Words.{Files, octets_in, paths_in, slice_get-map}
use Rattle.bag_writer.specs.Copying.{AreEnded, HasEnded, IsFirstStopped, IsStopped, KeepPlaces, Sides, Work}
use Rattle.bag_writer.specs.Finishing.{AreCompleted, AreFilesAt, CanEnd, CanEndEach, HasStoppedIn, IsFileAt, IsTakenOf, places_of}
use Rattle.bag_writer.specs.Pending.{AreUnfailedTo, EndsEach, HoldEach}
use Rattle.bag_writer.specs.PayloadSteps.{IsFoundOf}
use Rattle.bag_writer.specs.Sinks.{Stored}
use Rattle.bag_writer.specs.Steps.{ArePart, AreWhole}
use Rattle.bag_writer.specs.declared.copying.Copying.{Copying}
use Rattle.bag_writer.specs.declared.copying.CopyStop.{CopyStop}
use Rattle.bag_digest.specs.declared.buffers.TheConstants.{FRONT}
use Rattle.bag_writer.specs.declared.payload.CopyFault.{CopyFault}
use Rattle.bag_writer.specs.declared.payload.CopyFault.TheVariants.{Sink, TooLarge, Tree}
use Rattle.bag_writer.proofs.CopyLemmas.{places_on}
use Rattle.bag_writer.proofs.Ending.{StaysRead, read_same}
use Rattle.bag_writer.proofs.FileSteps.{all_octets, some_octets}
use Rattle.bag_writer.proofs.Pairs.{pairs, zip_each, zip_long, zip_moved, zip_on}
use Rattle.bag_writer.proofs.PayloadLists.{File}
use Rattle.bag_writer.proofs.StepLemmas.{part_whole}
use Rattle.bag_writer.proofs.Stopping.{stopped_here}
use Rattle.bag_digest.proofs.ListLemmas.{stands, next_taken}

pub has_last : (files : Files) (file : File) → Has (files ++ file ∷ []) file
has_last [] file = inl refl
has_last (f ∷ files) file = inr (has_last files file)

-- whole files are part of themselves
pub part_of_whole : (files : Files) (old new : Option Stored) → AreWhole files old new → (rest : Files) → ArePart (files ++ rest) old new
part_of_whole files old new whole rest = part_whole files rest old new whole

-- files that have the same places
pub same_places : {F G : Type 0} (place : F → ℕ) (xs ys : List (Copying F G)) → length ys ≡ length xs → ((k : ℕ) (a b : Copying F G) → slice_get xs k ≡ Some a → slice_get ys k ≡ Some b → place b.source ≡ place a.source)
    → places_of place ys ≡ places_of place xs
same_places place [] [] count same = refl
same_places place [] (y ∷ ys) count same = absurd (omega (arith, count))
same_places place (x ∷ xs) [] count same = absurd (omega (arith, count))
same_places place (x ∷ xs) (y ∷ ys) count same = λ t. same 0 x y refl refl t ∷ same_places place xs ys (omega (arith, count)) (λ k a b at now. same (suc k) a b at now) t

module _ {F G : Type 0} (s : Sides F G) (work : Work) (set : AlgSet) where
  abbrev Ends : List (Copying F G) → List (Copying F G) → ℕ → Result (Unit {0}) CopyStop → Type 0
  Ends ys zs n r = EndsEach s.copy_place s.copy_failures n ys zs r

  -- the file that a copy holds, with what was found of it
  pub record IsEndedAs (each : Copying F G) (file : File) : Type 0 where
    pub taken : IsTakenOf s.place work.shown set each file
    pub held : s.holds each.target file.0 file.1
    pub unfailed : s.failures each.source ≡ 0
    pub copy_unfailed : s.copy_failures each.target ≡ 0
    pub sure : work.sink_sure ≡ true → s.copy_sure each.target

  ended_as : (each : Copying F G) → HasEnded s work set each → (file : File) × IsEndedAs each file
  ended_as each ended =
      let copied = ended.copied in (
        (copied.path, ended.octets),
        record {
          taken = record {
            at = record {
              named = copied.named;
              known = all_octets (octets_in work.shown (s.place each.source)) (s.remaining each.source) LARGEST_FILE ended.octets (record { gave = copied.gave; none_left = ended.none_left; within = copied.within });
            };
            within = copied.within;
            short = ended.short;
            found_is = ended.found_is;
          };
          held = copied.held;
          unfailed = copied.unfailed;
          copy_unfailed = copied.copy_unfailed;
          sure = copied.sure;
        },
      )

  -- the files of those that have ended
  pub ended_files : (xs : List (Copying F G)) (n : ℕ) → n ≤ length xs → AreEnded s work set 0 n xs → (files : Files) × AllZip IsEndedAs (take n xs) files
  ended_files xs n inside ended = pairs IsEndedAs xs n inside (λ k x below at. ended_as x (ended k x (omega arith) below at))

  pub hold_each : (xs : List (Copying F G)) (n : ℕ) (files : Files) → n ≤ length xs → AllZip IsEndedAs (take n xs) files → HoldEach s.holds n xs files
  hold_each xs n files inside zip = record {
    count = zip_long IsEndedAs xs n files inside zip;
    each = λ k each file below at there. (zip_each IsEndedAs xs n files zip k each file at there).held;
  }

  -- the file at which copying stopped
  pub stopped_file : (fault : CopyFault) (each : Copying F G) → IsStopped s work each.source each.target fault → (file : File) × IsFileAt work.shown (s.place each.source) file × (fault ≡ TooLarge → LARGEST_FILE < length file.1)
  stopped_file fault each is =
      let some = some_octets (octets_in work.shown (s.place each.source)) (s.remaining each.source) is.octets is.until.gave in (
        (is.path, is.octets ++ some.0),
        record { named = is.named; known = some.1 },
        λ e. (let long = is.until.long e in omega (arith, long, length-append is.octets some.0)),
      )

  pub zip_places : (xs : List (Copying F G)) (files : Files) → AllZip (IsTakenOf s.place work.shown set) xs files → AreFilesAt work.shown (places_of s.place xs) files
  zip_places [] [] zip = tt
  zip_places [] (file ∷ files) zip = absurd zip
  zip_places (x ∷ xs) [] zip = absurd zip
  zip_places (x ∷ xs) (file ∷ files) zip = (zip.0.at, zip_places xs files zip.1)

  pub front_places : (xs : List (Copying F G)) (n : ℕ) (files : Files) → AllZip (IsTakenOf s.place work.shown set) (take n xs) files → AreFilesAt work.shown (take n (places_of s.place xs)) files
  front_places xs n files zip = subst (λ places. AreFilesAt work.shown places files) (sym (take-map (λ (each : Copying F G). s.place each.source) n xs)) (zip_places (take n xs) files zip)

  taken_stays : (a b : Copying F G) (file : File) → b.source ≡ a.source → b.piece ≡ a.piece → b.found ≡ a.found → IsTakenOf s.place work.shown set a file → IsTakenOf s.place work.shown set b file
  taken_stays a b file source piece found is = record {
    at = subst (λ f. IsFileAt work.shown (s.place f) file) (sym source) is.at;
    within = is.within;
    short = subst (λ p. length p.items ≤ FRONT) (sym piece) is.short;
    found_is = subst (λ o. IsSomeAnd o (λ f. IsFoundOf set b.piece.items f file.1)) (sym found) (subst (λ p. IsSomeAnd a.found (λ f. IsFoundOf set p.items f file.1)) (sym piece) is.found_is);
  }

  module _ (ys zs : List (Copying F G)) (count : length zs ≡ length ys) (stays : StaysRead s.copy_place ys zs) (n : ℕ) (files : Files) (inside : n ≤ length ys) (zip : AllZip IsEndedAs (take n ys) files) where
    pub taken_each : AllZip (IsTakenOf s.place work.shown set) (take n zs) files
    taken_each = zip_moved IsEndedAs (IsTakenOf s.place work.shown set) ys zs n files count (λ k x z below at now file is. (let same = stays k x z at now in taken_stays x z file same.0 same.1 same.2 is.taken)) zip

    pub files_each : AreFilesAt work.shown (take n (places_of s.place zs)) files
    files_each = front_places zs n files taken_each

    pub unfailed_each : AreEnded s work set 0 n ys → AreUnfailedTo s.copy_failures n zs → (k : ℕ) (each : Copying F G) → k < n → slice_get zs k ≡ Some each → (s.failures each.source ≡ 0) × (s.copy_failures each.target ≡ 0)
    unfailed_each ended copies k each below at =
        let was = stands ys k (omega (arith, below, inside)) in (
          ap s.failures (stays k was.0 each was.1 at).0 ∙ (ended k was.0 (omega arith) below was.1).copied.unfailed,
          copies k each below at,
        )

  -- all were ended
  pub completed : (ys zs : List (Copying F G)) (count : length zs ≡ length ys) (stays : StaysRead s.copy_place ys zs) (files : Files) (ended : AreEnded s work set 0 (length ys) ys) (zip : AllZip IsEndedAs (take (length ys) ys) files) (old new : Option Stored)
      → AreUnfailedTo s.copy_failures (length ys) zs → AreWhole files old new → AreCompleted s work.shown set zs old new
  completed ys zs count stays files ended zip old new copies whole = record {
    files = files;
    taken = subst (λ list. AllZip (IsTakenOf s.place work.shown set) list files) (take_all (length ys) zs (omega (arith, count))) (taken_each ys zs count stays (length ys) files (omega arith) zip);
    unfailed = λ k each at. unfailed_each ys zs count stays (length ys) files (omega arith) zip ended copies k each (let inside = slice_get_within zs k each at in omega (arith, inside, count)) at;
    whole = whole;
  }

  -- one had stopped, and the copies before it were ended
  pub stopped_in : (ys zs : List (Copying F G)) (count : length zs ≡ length ys) (stays : StaysRead s.copy_place ys zs) (stop : CopyStop) (first : IsFirstStopped s work set 0 (length ys) ys stop) (files : Files) (zip : AllZip IsEndedAs (take stop.place ys) files) (old new : Option Stored)
      → ((k : ℕ) → stop.place ≤ k → slice_get zs k ≡ slice_get ys k) → AreUnfailedTo s.copy_failures stop.place zs → AreWhole files old new → HasStoppedIn s work.shown zs old new stop
  stopped_in ys zs count stays stop first files zip old new later copies whole =
      let n = stop.place in
      let high = first.high in
      let inside : n ≤ length ys = omega (arith, high) in
      record {
        inside = omega (arith, high, count);
        before = unfailed_each ys zs count stays n files inside zip first.before copies;
        here = λ each at.
            let is = first.here each (sym (later n (omega arith)) ∙ at) in
            let file = stopped_file stop.fault each is in
            let place_at : slice_get (places_of s.place zs) n ≡ Some (s.place each.source) = slice_get-map (λ (c : Copying F G). s.place c.source) zs n ∙ ap (option_map (λ (c : Copying F G). s.place c.source)) at in (
              stopped_here s work stop.fault each is,
              record {
                count = n + 1;
                files = files ++ file.0 ∷ [];
                are = subst (λ places. AreFilesAt work.shown places (files ++ file.0 ∷ [])) (sym (next_taken (places_of s.place zs) n (s.place each.source) place_at))
                    (zip_on (IsFileAt work.shown) (take n (places_of s.place zs)) files (s.place each.source ∷ []) (file.0 ∷ []) (files_each ys zs count stays n files inside zip) (file.1, tt));
                part = part_of_whole files old new whole (file.0 ∷ []);
                long = λ e. (file.0, has_last files file.0, file.1.named, file.2 e);
              },
            );
      }

  -- a copy couldn't be ended
  pub not_ended : (ys zs : List (Copying F G)) (count : length zs ≡ length ys) (stays : StaysRead s.copy_place ys zs) (n : ℕ) (ended : AreEnded s work set 0 n ys) (files : Files) (inside : n ≤ length ys) (zip : AllZip IsEndedAs (take n ys) files) (old new : Option Stored) (stop : CopyStop)
      → stop.place < n → stop.fault ≡ Sink → AreUnfailedTo s.copy_failures stop.place zs → ((each : Copying F G) → slice_get zs stop.place ≡ Some each → 0 < s.copy_failures each.target) → AreWhole (take stop.place files) old new
      → HasStoppedIn s work.shown zs old new stop
  not_ended ys zs count stays n ended files inside zip old new stop below fault copies failed whole =
      let other : stop.fault ≢ Tree = λ e. (let k : Sink ≡ Tree = sym fault ∙ e in cc) in
      let short : stop.fault ≢ TooLarge = λ e. (let k : Sink ≡ TooLarge = sym fault ∙ e in cc) in
      record {
        inside = omega (arith, below, inside, count);
        before = λ k each low at.
            let was = stands ys k (omega (arith, low, below, inside)) in (
              ap s.failures (stays k was.0 each was.1 at).0 ∙ (ended k was.0 (omega arith) (omega (arith, low, below)) was.1).copied.unfailed,
              copies k each low at,
            );
        here = λ each at.
            let was = stands ys stop.place (omega (arith, below, inside)) in
            let same = stays stop.place was.0 each was.1 at in
            let copied = (ended stop.place was.0 (omega arith) below was.1).copied in
            let named : slice_get (paths_in work.shown) (s.place each.source) ≡ Some copied.path = ap (λ f. slice_get (paths_in work.shown) (s.place f)) same.0 ∙ copied.named in (
              record {
                inside = slice_get_within (paths_in work.shown) (s.place each.source) copied.path named;
                beside = same.3 ∙ copied.beside ∙ ap s.place (sym same.0);
                failed = λ e. absurd (other e);
                unfailed = λ _. ap s.failures same.0 ∙ copied.unfailed;
                large = λ e. absurd (short e);
                copy_failed = λ _. failed each at;
              },
              record {
                count = n;
                files = files;
                are = files_each ys zs count stays n files inside zip;
                part = subst (λ list. ArePart list old new) (take-append-drop stop.place files) (part_of_whole (take stop.place files) old new whole (drop stop.place files));
                long = λ e. absurd (short e);
              },
            );
      }

  -- the copies of all that were copied are ended, or of those before the one that stopped
  pub all_completed : (ys zs : List (Copying F G)) (old new : Option Stored) (r : Result (Unit {0}) CopyStop) → AreEnded s work set 0 (length ys) ys → Ends ys zs (length ys) r
      → ((files : Files) → HoldEach s.holds (length ys) ys files → MatchResult r (λ done. AreWhole files old new) (λ stop. AreWhole (take stop.place files) old new))
      → MatchResult r (λ done. AreCompleted s work.shown set zs old new) (HasStoppedIn s work.shown zs old new)
  all_completed ys zs old new (Ok done) ended ends whole =
      let files = ended_files ys (length ys) (omega arith) ended in
      completed ys zs ends.count ends.read files.0 ended files.1 old new ends.ended (whole files.0 (hold_each ys (length ys) files.0 (omega arith) files.1))
  all_completed ys zs old new (Err stop) ended ends whole =
      let files = ended_files ys (length ys) (omega arith) ended in
      not_ended ys zs ends.count ends.read (length ys) ended files.0 (omega arith) files.1 old new stop ends.ended.0 ends.ended.1 ends.ended.2 ends.ended.3 (whole files.0 (hold_each ys (length ys) files.0 (omega arith) files.1))

  pub first_completed : (ys zs : List (Copying F G)) (old new : Option Stored) (stop : CopyStop) (r : Result (Unit {0}) CopyStop) → IsFirstStopped s work set 0 (length ys) ys stop → Ends ys zs stop.place r
      → ((files : Files) → HoldEach s.holds stop.place ys files → MatchResult r (λ done. AreWhole files old new) (λ other. AreWhole (take other.place files) old new))
      → MatchResult r (λ done. HasStoppedIn s work.shown zs old new stop) (HasStoppedIn s work.shown zs old new)
  first_completed ys zs old new stop (Ok done) first ends whole =
      let inside : stop.place ≤ length ys = (let high = first.high in omega (arith, high)) in
      let files = ended_files ys stop.place inside first.before in
      stopped_in ys zs ends.count ends.read stop first files.0 files.1 old new ends.later ends.ended (whole files.0 (hold_each ys stop.place files.0 inside files.1))
  first_completed ys zs old new stop (Err other) first ends whole =
      let inside : stop.place ≤ length ys = (let high = first.high in omega (arith, high)) in
      let files = ended_files ys stop.place inside first.before in
      not_ended ys zs ends.count ends.read stop.place first.before files.0 inside files.1 old new other ends.ended.0 ends.ended.1 ends.ended.2 ends.ended.3 (whole files.0 (hold_each ys stop.place files.0 inside files.1))

  -- WHAT DOESN'T FAIL

  pub can_each : (sure : Type 0) (is_open : Bool) (known : Option Stored) (xs ys : List (Copying F G)) (n : ℕ) → n ≤ length ys → KeepPlaces s.place s.copy_place xs ys → AreEnded s work set 0 n ys → work.sink_sure ≡ true
      → CanEnd sure is_open known work.shown (places_of s.place xs) → (files : Files) × HoldEach s.holds n ys files × CanEndEach s.copy_sure n ys files sure is_open known
  can_each sure is_open known xs ys n inside keep ended calm can =
      let files = ended_files ys n inside ended in
      let long = zip_long IsEndedAs ys n files.0 inside files.1 in
      let same = same_places s.place xs ys keep.count (λ k a b at now. (keep.each k a b at now).0) in (
        files.0,
        hold_each ys n files.0 inside files.1,
        record {
          sure_each = λ k each below at. (let file = stands files.0 k (omega (arith, below, long)) in (zip_each IsEndedAs ys n files.0 files.1 k each file.0 at file.1).sure calm);
          is_sure = can.is_sure;
          closed = can.closed;
          free = can.free n files.0 (subst (λ places. AreFilesAt work.shown (take n places) files.0) same (files_each ys ys refl (read_same s.copy_place ys) n files.0 inside files.1));
        },
      )

  -- what is told of a copy that couldn't be ended
  pub ends_calm : {P : Type 0} (ys zs : List (Copying F G)) (n : ℕ) (r : Result (Unit {0}) CopyStop) → Ends ys zs n r → (work.sink_sure ≡ true → P → ¬ IsErr r)
      → IfErr r (λ stop. (work.tree_sure ≡ true → stop.fault ≢ Tree) × (work.sink_sure ≡ true → P → stop.fault ≢ Sink))
  ends_calm {P} ys zs n (Ok done) ends calm = tt
  ends_calm {P} ys zs n (Err stop) ends calm = (
    λ sure e. (let k : Sink ≡ Tree = sym ends.ended.1 ∙ e in cc),
    λ sure can e. calm sure can refl,
  )

  pub stop_calm : (ys : List (Copying F G)) (stop : CopyStop) → IsFirstStopped s work set 0 (length ys) ys stop → (work.tree_sure ≡ true → stop.fault ≢ Tree) × (work.sink_sure ≡ true → stop.fault ≢ Sink)
  stop_calm ys stop first =
      let each = stands ys stop.place first.high in
      let is = first.here each.0 each.1 in
      (λ sure e. (is.failed e).1 sure, λ sure e. (is.copy_failed e).1 sure)

  pub keep_ended : (xs ys zs : List (Copying F G)) (n : ℕ) (r : Result (Unit {0}) CopyStop) → KeepPlaces s.place s.copy_place xs ys → Ends ys zs n r → KeepPlaces s.place s.copy_place xs zs
  keep_ended xs ys zs n r keep ends = places_on s.place s.copy_place xs ys zs keep (record {
    count = ends.count;
    each = λ k a b at now. (let same = ends.read k a b at now in (ap s.place same.0, same.3));
  })
