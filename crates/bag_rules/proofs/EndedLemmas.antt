-- Files of a batch that were read to their ends, or stopped before.
use Rattle.std.proofs.Common.{◌≡◌, ◌≢◌, ◌∙◌, ◌-◌, ◌<◌, ◌++◌, ℕ, List, Option, Some, None, ap, arith, inl, inr, length, length-append, refl, slice_get, subst, sym}
use Rattle.std.specs.Prelude.{IsSomeAnd}
use Rattle.bag_digest.specs.declared.sums.Sums.{Sums}
use Rattle.bag_digest.specs.declared.reading.SourceFault.{SourceFault}
use Rattle.bag_digest.specs.declared.reading.SourceFault.TheVariants as source
use Rattle.bag_digest.specs.declared.streams.Stream.{Stream}
use Rattle.bag_digest.specs.declared.streams.StreamFault.{StreamFault}
use Rattle.bag_digest.specs.declared.buffers.TheConstants.{FRONT}
use Rattle.bag_digest.specs.Hash.{AreDigests}
use Rattle.bag_digest.specs.Reading.{AreSums}
use Rattle.bag_digest.specs.Streams.{HaveEnded, HaveEndedIn, IsFirstStopped}
use Rattle.bag_digest.proofs.Progress.{all_known, more_known}
use Rattle.bag_rules.specs.declared.batch_reading.BatchReading.{BatchReading}
use Rattle.bag_rules.specs.declared.limits.TheConstants.{LARGEST_FILE}
use Rattle.bag_rules.specs.FileBatchInside.{AreRead, AreSumsRead, HasSumsAt, CompletesBatch, next_of}
use Rattle.bag_rules.specs.BatchReading.{AreGathered, AreOpen, AreReady, AreSumsIn, AreWithin, HaveSums, IsReadAt, IsStreamOf}
use Rattle.bag_rules.specs.OpenTrees.{IsTooLarge}
use Rattle.bag_rules.specs.Returning.{AreUnfailed, HasStoppedFirst, IsStopped, IsToldOf}
use Rattle.bag_rules.specs.declared.file_batch.FileBatch.{FileBatch}
use Rattle.bag_rules.proofs.BatchLemmas.{readings_same}
use Rattle.bag_rules.proofs.KeptLemmas.{gave_more}
use Rattle.bag_rules.proofs.LimitLemmas.{first_stops, stopped_so}
use Rattle.bag_rules.proofs.TreeLemmas.{file_at, same_count}
use Rattle.bag_rules.proofs.Words.{Bag, cases_lt, CheckFault, FirstStops, HasFileAt, IsBagOf, IsLongFile, IsLongRead, NoneStopsBefore, octets_in, paths_in, same_Some, Shown, slice_get_within, Stopped, Requirements}
use Rattle.bag_digest.proofs.ListLemmas.{stands}

pub some_and : {X : Type 0} (o : Option X) (P : X → Type 0) → IsSomeAnd o P → (x : X) × (o ≡ Some x) × P x
some_and None P none = absurd none
some_and (Some x) P is = (x, refl, is)

-- after they were read
module _ {F : Type 0} (place : F → ℕ) (remaining : F → Option (List ℕ)) (failures : F → ℕ) (ready : F → Type 0) (keeps : F → F → Type 0) (shown : Shown) (gathered : BatchReading F) (new : List (Stream F))
    (same : length new ≡ length gathered.streams.items) (open_are : AreOpen place remaining failures shown gathered) where
  before_at : (k : ℕ) (stream : Stream F) → slice_get new k ≡ Some stream → (was : Stream F) × (slice_get gathered.streams.items k ≡ Some was)
  before_at k stream at = stands gathered.streams.items k (let inside = slice_get_within new k stream at in omega (arith, inside, same))

  after_at : (k : ℕ) (stream : Stream F) → slice_get gathered.streams.items k ≡ Some stream → (is : Stream F) × (slice_get new k ≡ Some is)
  after_at k stream at = stands new k (let inside = slice_get_within gathered.streams.items k stream at in omega (arith, inside, same))

  -- THOSE THAT HAVE ENDED

  unfailed_in : (n k : ℕ) (stream : Stream F) → HaveEndedIn remaining failures ready keeps gathered.set LARGEST_FILE 0 n gathered.streams.items new → k < n → slice_get new k ≡ Some stream → failures stream.source ≡ 0
  unfailed_in n k stream ended below at =
      let was = before_at k stream at in
      (ended k was.0 stream (omega arith) below was.1 at).1.counted.stays (λ no. no) ∙ (open_are.each k was.0 was.1).unfailed

  pub unfailed_ended : HaveEnded remaining failures ready keeps gathered.set LARGEST_FILE gathered.streams.items new → AreUnfailed failures new
  unfailed_ended ended k stream at =
      unfailed_in (length gathered.streams.items) k stream ended (let inside = slice_get_within new k stream at in omega (arith, inside, same)) at

  -- they have no more octets than a file may have
  within_ended : (n : ℕ) → HaveEndedIn remaining failures ready keeps gathered.set LARGEST_FILE 0 n gathered.streams.items new → AreWithin remaining gathered.streams.items n
  within_ended n ended k stream rest below there left =
      let after = after_at k stream there in
      let is = (ended k stream after.0 (omega arith) below there after.1).0 in
      let all = all_known rest is.more _ _ (LARGEST_FILE - FRONT) left is.gave in
      let room = (open_are.each k stream there).fresh.room in
      omega (arith, all.1, room, length-append stream.piece.items rest)

  -- the sums of a file whose stream has ended
  ended_sums : (wants : Requirements) (sums : List Sums) → HaveEnded remaining failures ready keeps gathered.set LARGEST_FILE gathered.streams.items new → AreSumsIn new sums
      → (k : ℕ) (path octets : List ℕ) → IsStreamOf remaining wants gathered.set gathered.streams.items k path octets → (found : Sums) × (slice_get sums k ≡ Some found) × AreSumsRead wants path octets found
  ended_sums wants sums ended are k path octets front =
      let inside = slice_get_within gathered.streams.items k front.stream front.there in
      let after = after_at k front.stream front.there in
      let is = (ended k front.stream after.0 (omega arith) inside front.there after.1).0 in
      let all = all_known front.rest.rest is.more _ _ (LARGEST_FILE - FRONT) front.rest.left is.gave in
      let found = some_and after.0.sums (λ found. AreSums found gathered.set (front.stream.piece.items ++ is.more)) is.sums in
      let whole : front.stream.piece.items ++ is.more ≡ octets = ap (λ xs. front.stream.piece.items ++ xs) all.0 ∙ sym front.rest.octets_are in
      let room = (open_are.each k front.stream front.there).fresh.room in (
        found.0,
        are.each k after.0 found.0 after.1 found.1,
        record {
          read = front.read.0;
          set = gathered.set;
          sums = record {
            sums = record {
              taken = gathered.set;
              sums = (found.2.0 ∙ ap length whole, subst (AreDigests found.0.digests gathered.set) whole found.2.1);
              covers = λ alg h. h;
            };
            within = omega (arith, all.1, room, length-append front.stream.piece.items front.rest.rest, ap length front.rest.octets_are);
          };
          covers = front.read.1;
        },
      )

  -- each has its sums
  pub have_sums : HaveEnded remaining failures ready keeps gathered.set LARGEST_FILE gathered.streams.items new → HaveSums new
  have_sums ended k stream there none =
      let inside = slice_get_within new k stream there in
      let was = before_at k stream there in
      let is = (ended k was.0 stream (omega arith) (omega (arith, inside, same)) was.1 there).0 in
      subst (λ (o : Option Sums). IsSomeAnd o (λ found. AreSums found gathered.set (was.0.piece.items ++ is.more))) none is.sums

  -- the batch is complete
  pub read_ended : (wants : Requirements) (batch : FileBatch) (sums : List Sums) → HaveEnded remaining failures ready keeps gathered.set LARGEST_FILE gathered.streams.items new → AreSumsIn new sums
      → AreGathered place remaining shown wants gathered → CompletesBatch gathered.batch batch sums → AreRead shown wants batch
  read_ended wants batch sums ended are gathered_are complete = record {
    readings = readings_same shown wants gathered.batch batch (IsStreamOf remaining wants gathered.set gathered.streams.items) (HasSumsAt wants batch) complete.first complete.read complete.held
        (λ k path octets is. let found = ended_sums wants sums ended are k path octets is in (found.0, ap (λ xs. slice_get xs k) complete.streamed ∙ found.1, found.2))
        gathered_are.readings;
    sums = complete.waiting;
  }

  -- none of the files stops the work, and the next one does
  pub front_stops : (wants : Requirements) (file : F) (fault : SourceFault) (told : CheckFault) → HaveEnded remaining failures ready keeps gathered.set LARGEST_FILE gathered.streams.items new → AreGathered place remaining shown wants gathered
      → place file ≡ next_of gathered.batch → place file < length (paths_in shown) → IsToldOf shown (place file) fault told → IsReadAt shown wants (place file)
      → (bag : Bag) → IsBagOf shown bag → NoneStopsBefore gathered.batch.first bag (IsLongRead wants.manifests.now) → Stopped (FirstStops bag (IsLongRead wants.manifests.now)) told
  front_stops wants file fault told ended are placed inside is_told read bag is none =
      let stops = IsLongRead wants.manifests.now in
      let here = stands bag.files (place file) (subst (λ n. place file < n) (same_count bag is) inside) in
      let path = here.0.0 in
      let octets = here.0.1 in
      let at = file_at bag is (place file) path octets here.1 in
      first_stops bag stops (place file) path octets told here.1
      (subst (λ n. NoneStopsBefore n bag stops) (sym placed) (are.none bag is none (within_ended (length gathered.streams.items) ended)))
      (stopped_so (IsLongFile path octets) (stops path octets) told (λ reason. (read path octets at, reason)) (is_told.long path octets at))

  -- THE FIRST THAT HAS STOPPED

  module _ (in_place : (a b : F) → keeps a b → place b ≡ place a) (told : StreamFault) (first : IsFirstStopped remaining failures ready keeps gathered.set LARGEST_FILE 0 gathered.streams.items new told) where
    place_same : (k : ℕ) (a b : Stream F) → slice_get gathered.streams.items k ≡ Some a → slice_get new k ≡ Some b → place b.source ≡ place a.source
    place_same k a b at now = in_place a.source b.source (elim (cases_lt k told.place) [
      | inl below ↦ (first.before k a b (omega arith) below at now).1.kept
      | inr above ↦ elim (cases_lt told.place k) [
        | inl past ↦ first.behind k a b (omega (arith, past)) (slice_get_within gathered.streams.items k a at) at now
        | inr most ↦
            let e : k ≡ told.place = omega (arith, above, most) in
            let was : first.was ≡ a = same_Some first.was a (sym first.old_at ∙ ap (slice_get gathered.streams.items) (sym e) ∙ at) in
            let is : first.is ≡ b = same_Some first.is b (sym first.new_at ∙ ap (slice_get new) (sym e) ∙ now) in
            subst (λ (s : Stream F). keeps s.source b.source) was (subst (λ (s : Stream F). keeps first.was.source s.source) is first.stopped.uses.kept)
      ]
    ])

    pub own_place : place first.is.source ≡ place first.was.source
    own_place = place_same told.place first.was first.is first.old_at first.new_at

    is_large : told.fault ≡ source.TooLarge → IsTooLarge shown (place first.is.source)
    is_large e octets known =
        let is = open_are.each told.place first.was first.old_at in
        let rest = is.known octets (subst (λ n. octets_in shown n ≡ Some octets) own_place known) in
        let gave = gave_more _ _ (LARGEST_FILE - FRONT) told.fault e first.stopped.gave in
        let more = more_known rest.rest _ _ (LARGEST_FILE - FRONT) rest.left gave in
        omega (arith, more, is.fresh.room, length-append first.was.piece.items rest.rest, ap length rest.octets_are)

    pub first_stopped : HasStoppedFirst place failures shown new told
    first_stopped = record {
      inside = slice_get_within new told.place first.is first.new_at;
      by_place = λ j k a b less at to.
          let x = before_at j a at in
          let y = before_at k b to in
          omega (arith, place_same j x.0 a x.1 at, place_same k y.0 b y.1 to, open_are.by_place j k x.0 y.0 less x.1 y.1);
      before = λ k stream below at. unfailed_in told.place k stream first.before below at;
      here = λ stream at.
          let is = open_are.each told.place first.was first.old_at in
          let uses = first.stopped.uses in
          subst (λ (s : Stream F). IsStopped place failures shown told.fault s.source) (same_Some first.is stream (sym first.new_at ∙ at))
          record {
            inside = omega (arith, is.inside, own_place);
            failed = λ e. omega (arith, uses.counted.rises e, is.unfailed);
            unfailed = λ e. uses.counted.stays (λ r. let k : source.Read ≡ source.TooLarge = sym r ∙ e in cc) ∙ is.unfailed;
            large = is_large;
          };
    }

    -- the first stream that has stopped is that of the first file that stops the work
    pub stream_stops : (wants : Requirements) (fault : CheckFault) → AreGathered place remaining shown wants gathered → IsToldOf shown (place first.is.source) told.fault fault
        → (bag : Bag) → IsBagOf shown bag → NoneStopsBefore gathered.batch.first bag (IsLongRead wants.manifests.now) → Stopped (FirstStops bag (IsLongRead wants.manifests.now)) fault
    stream_stops wants fault are is_told bag is none =
        let stops = IsLongRead wants.manifests.now in
        let at_place = place first.was.source in
        let here = stands bag.files at_place (subst (λ n. at_place < n) (same_count bag is) (open_are.each told.place first.was first.old_at).inside) in
        let path = here.0.0 in
        let octets = here.0.1 in
        let at = file_at bag is at_place path octets here.1 in
        let front = are.files told.place first.was first.old_at path octets at in
        first_stops bag stops at_place path octets fault here.1
        (are.none_at bag is none told.place first.was first.old_at (within_ended told.place first.before))
        (stopped_so (IsLongFile path octets) (stops path octets) fault (λ reason. (front.read.0, reason)) (is_told.long path octets (subst (λ n. HasFileAt shown n path octets) (sym own_place) at)))

    -- a stream that doesn't fail hasn't stopped so
    pub ready_stopped : AreReady ready gathered.streams.items → told.fault ≢ source.Read
    ready_stopped are = (first.stopped.uses.stays_ready (are told.place first.was first.old_at)).1
