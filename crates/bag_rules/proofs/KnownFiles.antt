-- What is known of the files of a batch, with one file more, and when those that are out have been read to their ends.
use Rattle.std.proofs.Common.{◌≡◌, ◌≢◌, ◌∙◌, ◌+◌, ◌-◌, ◌<◌, ◌≤◌, ◌++◌, ◌∷◌, [], ℕ, zero, suc, List, Option, Some, None, Vec, ap, arith, inl, inr, length, length-append, refl, slice_get, subst, sym}
use Rattle.std.specs.declared.alloc.Global.{Global}
use Rattle.bag_digest.proofs.EachLemmas.{at_last}
use Rattle.bag_digest.proofs.ListLemmas.{stands}
use Rattle.bag_digest.proofs.Progress.{all_known}
use Rattle.bag_digest.specs.Reading.{AreSums}
use Rattle.bag_digest.specs.Streams.{HaveEnded}
use Rattle.bag_digest.specs.declared.buffers.TheConstants.{FRONT}
use Rattle.bag_digest.specs.declared.streams.Stream.{Stream}
use Rattle.bag_digest.specs.declared.sums.Sums.{Sums}
use Rattle.bag_rules.specs.declared.batch_reading.BatchReading.{BatchReading}
use Rattle.bag_rules.specs.declared.file_batch.FileBatch.{FileBatch}
use Rattle.bag_rules.specs.declared.file_batch.FileSums.{FileSums}
use Rattle.bag_rules.specs.declared.file_batch.FileSums.TheVariants.{Streamed, Waiting}
use Rattle.bag_rules.specs.declared.limits.TheConstants.{LARGEST_FILE}
use Rattle.bag_rules.specs.declared.tag_sums.TagSums.{TagSums}
use Rattle.bag_rules.specs.BatchReading.{AreOpen, AreSumsIn, HoldsFront}
use Rattle.bag_rules.specs.FileBatchInside.{AddsHeld, AddsSums, AreRead, CompletesBatch, HasSumsAt, IsKnownOf, IsReadFor, next_of}
use Rattle.bag_rules.specs.OctetsRead.{AreKnown, Extends, IsBagBy, IsKeptAt, IsStreamIn, KnownOctets, KnowsFrom, MayBe}
use Rattle.bag_rules.proofs.AddingLemmas.{known_reading}
use Rattle.bag_rules.proofs.BatchLemmas.{adds_grows, held_is, holds_grows, or_left, or_right, readings_more, readings_same}
use Rattle.bag_rules.proofs.EndedLemmas.{some_and}
use Rattle.bag_rules.proofs.FileReadLemmas.{push_at, push_before}
use Rattle.bag_rules.proofs.OctetsLemmas.{extends_on, held_file, knows_later, less_known, own_path, tell, tell_here, tell_more, tell_other}
use Rattle.bag_rules.proofs.Words.{AlgSet, Bag, cases_lt, has, HasFileAt, octets_in, paths_in, Requirements, same_Some, Shown, shown_of, slice_get_within}

-- no file yet
pub none_known : {F : Type 0} (place : F → ℕ) (shown : Shown) (kept : TagSums) (wants : Requirements) (known : KnownOctets) (gathered : BatchReading F) → gathered.batch.read.items ≡ [] → gathered.streams.items ≡ []
    → KnowsFrom gathered.batch.first shown kept known → AreKnown place shown kept wants known gathered
none_known {F} place shown kept wants known gathered read streams knows = record {
  knows = knows_later gathered.batch.first (next_of gathered.batch) (omega arith) knows;
  readings = λ bag is i reading there. absurd (let e : ◌≡◌ {A = Option FileSums} None (Some reading) = subst (λ xs. slice_get xs i ≡ Some reading) read there in cc);
  out = λ k stream there. absurd (let e : ◌≡◌ {A = Option (Stream F)} None (Some stream) = subst (λ xs. slice_get xs k ≡ Some stream) streams there in cc);
}

-- ONE FILE MORE

module _ {F : Type 0} (place : F → ℕ) (shown : Shown) (kept : TagSums) (wants : Requirements) (known : KnownOctets) (old new : BatchReading F) (are : AreKnown place shown kept wants known old) where
  -- one that isn't opened
  pub known_next : (sums : FileSums) → AddsSums old.batch new.batch sums → new.streams ≡ old.streams → new.set ≡ old.set
      → ((bag : Bag) → IsBagBy shown known bag → (path octets : List ℕ) → HasFileAt (shown_of bag) (next_of old.batch) path octets → IsKnownOf wants path octets sums)
      → AreKnown place shown kept wants known new
  known_next sums adds streams set here = record {
    knows = knows_later (next_of old.batch) (next_of new.batch) (omega (arith, adds.first, ap length adds.read, length-append old.batch.read.items (sums ∷ []))) are.knows;
    readings = λ bag is. readings_more (shown_of bag) wants old.batch new.batch (IsStreamIn place wants old.set old.streams.items bag) (IsStreamIn place wants new.set new.streams.items bag) sums
        (are.readings bag is) (adds_grows old.batch new.batch sums adds) (λ k path octets stream. rw (streams, set) stream) adds.read
        (λ path octets at. (known_reading new.batch (IsStreamIn place wants new.set new.streams.items bag) wants path octets sums (here bag is path octets at)).0);
    out = λ k stream there. are.out k stream (rw (← streams) there);
  }

  module _ (unkept : ¬ IsKeptAt kept (next_of old.batch)) (wanted : AlgSet) (read : (path : List ℕ) → slice_get (paths_in shown) (next_of old.batch) ≡ Some path → IsReadFor wants path wanted) where
    unread_here : known (next_of old.batch) ≡ octets_in shown (next_of old.batch)
    unread_here = are.knows.unread (next_of old.batch) (omega arith) unkept

    own_read : (bag : Bag) → IsBagBy shown known bag → (path octets : List ℕ) → HasFileAt (shown_of bag) (next_of old.batch) path octets → IsReadFor wants path wanted
    own_read bag is path octets at = read path (own_path bag is.files (next_of old.batch) path octets at)

    -- one that ends within the buffer
    pub known_whole : (content : List ℕ) → AddsHeld old.batch new.batch wanted content → new.streams ≡ old.streams → new.set ≡ old.set
        → ((k : ℕ) (stream : Stream F) → slice_get old.streams.items k ≡ Some stream → place stream.source < next_of old.batch) → MayBe (octets_in shown (next_of old.batch)) content → length content ≤ LARGEST_FILE
        → (found : KnownOctets) × Extends known found × AreKnown place shown kept wants found new
    known_whole content holds streams set before may within =
        let next = next_of old.batch in
        let found = tell known next content in
        let more = tell_more known next content (λ own is. may own (sym unread_here ∙ is)) in
        let one : next_of new.batch ≡ next + 1 = omega (arith, holds.first, ap length holds.read, length-append old.batch.read.items (Waiting (length old.batch.held.contents.items) ∷ [])) in (
          found,
          more,
          record {
            knows = record {
              more = extends_on (octets_in shown) known found are.knows.more more;
              are_kept = λ bag is. are.knows.are_kept bag (less_known more is);
              unread = λ i from not. tell_other known next content i (λ same. omega (arith, same, from, one)) ∙ are.knows.unread i (omega (arith, from, one)) not;
            };
            readings = λ bag is. readings_more (shown_of bag) wants old.batch new.batch (IsStreamIn place wants old.set old.streams.items bag) (IsStreamIn place wants new.set new.streams.items bag)
                (Waiting (length old.batch.held.contents.items))
                (are.readings bag (less_known more is)) (holds_grows old.batch new.batch wanted content holds) (λ k path octets stream. rw (streams, set) stream) holds.read
                (λ path octets at.
                let same : octets ≡ content = is.octets next path octets (held_file bag next path octets at) content (tell_here known next content) in
                let reads = own_read bag (less_known more is) path octets at in
                held_is old.batch new.batch wants path octets wanted content holds reads.0 reads.1 (sym same) (omega (arith, within, ap length same)));
            out = λ k stream there.
                let was : slice_get old.streams.items k ≡ Some stream = rw (← streams) there in
                let below = before k stream was in
                tell_other known next content (place stream.source) (λ same. omega (arith, same, below)) ∙ are.out k stream was;
          },
        )

    -- one that is longer, and stays out
    pub known_front : (front : List ℕ) (file : F) → HoldsFront old new wanted front file → place file ≡ next_of old.batch → AreKnown place shown kept wants known new
    known_front front file holds placed =
        let many = length old.streams.items in
        let own_place : place holds.stream.source ≡ next_of old.batch = ap place holds.source ∙ placed in
        let last : slice_get new.streams.items many ≡ Some holds.stream = ap (λ xs. slice_get xs many) holds.streams ∙ push_at old.streams.items holds.stream in
        record {
          knows = knows_later (next_of old.batch) (next_of new.batch) (omega (arith, holds.batch.first, ap length holds.batch.read, length-append old.batch.read.items (Streamed many ∷ []))) are.knows;
          readings = λ bag is. readings_more (shown_of bag) wants old.batch new.batch (IsStreamIn place wants old.set old.streams.items bag) (IsStreamIn place wants new.set new.streams.items bag) (Streamed many)
              (are.readings bag is) (adds_grows old.batch new.batch (Streamed many) holds.batch)
              (λ k path octets stream. record {
                read = (stream.read.0, λ alg listed. holds.set alg ∙ or_left (has old.set alg) (has wanted alg) (stream.read.1 alg listed));
                stream = stream.stream;
                there = ap (λ xs. slice_get xs k) holds.streams ∙ push_before old.streams.items holds.stream k (slice_get_within old.streams.items k stream.stream stream.there) ∙ stream.there;
                file = stream.file;
              })
              holds.batch.read
              (λ path octets at.
              let reads = own_read bag is path octets at in record {
                read = (reads.0, λ alg listed. holds.set alg ∙ or_right (has old.set alg) (has wanted alg) (reads.1 alg listed));
                stream = holds.stream;
                there = last;
                file = subst (λ n. HasFileAt (shown_of bag) n path octets) (sym own_place) at;
              });
          out = λ k stream there. at_last old.streams.items holds.stream (λ n (s : Stream F). known (place s.source) ≡ octets_in shown (place s.source)) are.out
              (subst (λ n. known n ≡ octets_in shown n) (sym own_place) unread_here)
              k stream (subst (λ xs. slice_get xs k ≡ Some stream) holds.streams there);
        }

-- STREAMS THAT HAVE ENDED

module _ {F : Type 0} (place : F → ℕ) (remaining : F → Option (List ℕ)) (failures : F → ℕ) (ready : F → Type 0) (keeps : F → F → Type 0) (shown : Shown) (gathered : BatchReading F) (new : List (Stream F)) (sums : List Sums)
    (same : length new ≡ length gathered.streams.items) (open_are : AreOpen place remaining failures shown gathered)
    (ended : HaveEnded remaining failures ready keeps gathered.set LARGEST_FILE gathered.streams.items new) (sums_are : AreSumsIn new sums) where
  -- a stream gave these octets, and these are their sums
  record Gave (k : ℕ) (octets : List ℕ) : Type 0 where
    pub found : Sums
    pub there : slice_get sums k ≡ Some found
    pub sums_of : AreSums found gathered.set octets
    pub within : length octets ≤ LARGEST_FILE

  gave_at : (k : ℕ) (stream : Stream F) → slice_get gathered.streams.items k ≡ Some stream → (octets : List ℕ) × MayBe (octets_in shown (place stream.source)) octets × Gave k octets
  gave_at k stream at =
      let inside = slice_get_within gathered.streams.items k stream at in
      let after = stands new k (omega (arith, inside, same)) in
      let is = (ended k stream after.0 (omega arith) inside at after.1).0 in
      let found = some_and after.0.sums (λ found. AreSums found gathered.set (stream.piece.items ++ is.more)) is.sums in
      let out = open_are.each k stream at in (
        stream.piece.items ++ is.more,
        λ own known.
            let rest = out.known own known in
            let all = all_known rest.rest is.more _ _ (LARGEST_FILE - FRONT) rest.left is.gave in
            ap (λ xs. stream.piece.items ++ xs) all.0 ∙ sym rest.octets_are,
        record {
          found = found.0;
          there = sums_are.each k after.0 found.0 after.1 found.1;
          sums_of = found.2;
          within = omega (arith, is.gave.within, out.fresh.room, length-append stream.piece.items is.more);
        },
      )

  module _ (kept : TagSums) (wants : Requirements) (known : KnownOctets) (are : AreKnown place shown kept wants known gathered) where
    -- the octets of the first n streams are known as well
    record KnowsFirst (n : ℕ) (found : KnownOctets) : Type 0 where
      pub more : Extends known found
      pub streams : (k : ℕ) (stream : Stream F) → k < n → slice_get gathered.streams.items k ≡ Some stream → (octets : List ℕ) × (found (place stream.source) ≡ Some octets) × Gave k octets
      pub others : (i : ℕ) → ((k : ℕ) (stream : Stream F) → k < n → slice_get gathered.streams.items k ≡ Some stream → i ≢ place stream.source) → found i ≡ known i

    first_known : (n : ℕ) → n ≤ length gathered.streams.items → (found : KnownOctets) × KnowsFirst n found
    first_known zero most = (
      known,
      record { more = λ i octets is. is; streams = λ k stream below. absurd (omega (arith, below)); others = λ i other. refl },
    )
    first_known (suc n) most =
        let before = first_known n (omega (arith, most)) in
        let here = stands gathered.streams.items n (omega (arith, most)) in
        let at = place here.0.source in
        let gave = gave_at n here.0 here.1 in
        let unread : before.0 at ≡ octets_in shown at =
        before.1.others at (λ k stream below there is. (let less = open_are.by_place k n stream here.0 below there here.1 in omega (arith, less, is))) ∙ are.out n here.0 here.1 in
        let more = tell_more before.0 at gave.0 (λ own is. gave.1 own (sym unread ∙ is)) in (
          tell before.0 at gave.0,
          record {
            more = extends_on known before.0 (tell before.0 at gave.0) before.1.more more;
            streams = λ k stream below there. elim (cases_lt k n) [
              | inl less ↦ (let was = before.1.streams k stream less there in (was.0, more (place stream.source) was.0 was.1, was.2))
              | inr above ↦
                  let e : k ≡ n = omega (arith, below, above) in
                  let own : here.0 ≡ stream = same_Some here.0 stream (sym here.1 ∙ ap (slice_get gathered.streams.items) (sym e) ∙ there) in
                  (gave.0, ap (λ (s : Stream F). tell before.0 at gave.0 (place s.source)) (sym own) ∙ tell_here before.0 at gave.0, subst (λ i. Gave i gave.0) (sym e) gave.2)
            ];
            others = λ i other. tell_other before.0 at gave.0 i (other n here.0 (omega arith) here.1) ∙ before.1.others i (λ k stream below there. other k stream (omega (arith, below)) there);
          },
        )

    -- the batch is complete
    pub known_ended : (batch : FileBatch) → CompletesBatch gathered.batch batch sums
        → (found : KnownOctets) × Extends known found × KnowsFrom (next_of batch) shown kept found × ((bag : Bag) → IsBagBy shown found bag → AreRead (shown_of bag) wants batch)
    known_ended batch complete =
        let all = first_known (length gathered.streams.items) (omega arith) in
        let next : next_of batch ≡ next_of gathered.batch = ap (λ first. first + length batch.read.items) complete.first ∙ ap (λ (read : Vec FileSums Global). gathered.batch.first + length read.items) complete.read in (
          all.0,
          all.1.more,
          record {
            more = extends_on (octets_in shown) known all.0 are.knows.more all.1.more;
            are_kept = λ bag is. are.knows.are_kept bag (less_known all.1.more is);
            unread = λ i from not.
                all.1.others i (λ k stream below there is. (let before = (open_are.each k stream there).before in omega (arith, before, is, from, next)))
                ∙ are.knows.unread i (omega (arith, from, next)) not;
          },
          λ bag is. record {
            readings = readings_same (shown_of bag) wants gathered.batch batch (IsStreamIn place wants gathered.set gathered.streams.items bag) (HasSumsAt wants batch) complete.first complete.read complete.held
                (λ k path octets stream.
                let gave = all.1.streams k stream.stream (slice_get_within gathered.streams.items k stream.stream stream.there) stream.there in
                let own : octets ≡ gave.0 = is.octets (place stream.stream.source) path octets (held_file bag (place stream.stream.source) path octets stream.file) gave.0 gave.1 in (
                  gave.2.found,
                  ap (λ xs. slice_get xs k) complete.streamed ∙ gave.2.there,
                  record {
                    read = stream.read.0;
                    set = gathered.set;
                    sums = record {
                      sums = record { taken = gathered.set; sums = subst (AreSums gave.2.found gathered.set) (sym own) gave.2.sums_of; covers = λ alg h. h };
                      within = omega (arith, gave.2.within, ap length own);
                    };
                    covers = stream.read.1;
                  },
                ))
                (are.readings bag (less_known all.1.more is));
            sums = complete.waiting;
          },
        )
