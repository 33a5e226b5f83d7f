-- What is gathered of the files of a batch, while some of them are out.
use Rattle.std.proofs.Common.{◌≡◌, ◌∙◌, ◌+◌, ◌≤◌, ◌<◌, ◌++◌, ◌∷◌, [], ℕ, List, Option, Some, None, ap, arith, length, length-append, refl, slice_get, subst, sym, take}
use Rattle.bag_digest.proofs.EachLemmas.{at_last}
use Rattle.std.specs.Io.KnownBytes.{Consumes, IsAtEnd}
use Rattle.std.proofs.lemmas.List.{length-take-le}
use Rattle.bag_digest.specs.declared.streams.Stream.{Stream}
use Rattle.bag_digest.specs.declared.buffers.TheConstants.{FRONT}
use Rattle.bag_digest.specs.Reading.{GavePiece}
use Rattle.bag_digest.proofs.Filling.{filled_whole}
use Rattle.bag_digest.proofs.Progress.{all_known}
use Rattle.bag_rules.specs.declared.file_batch.FileSums.{FileSums}
use Rattle.bag_rules.specs.declared.file_batch.FileSums.TheVariants.{Streamed}
use Rattle.bag_rules.specs.declared.batch_reading.BatchReading.{BatchReading}
use Rattle.bag_rules.specs.declared.limits.TheConstants.{LARGEST_FILE}
use Rattle.bag_rules.specs.FileBatchInside.{IsReadFor, IsReadingOf, next_of}
use Rattle.bag_rules.specs.BatchReading.{AreGathered, AreOpen, AreReady, AreWithin, HasRest, HoldsFront, IsFront, IsOut, IsStreamOf}
use Rattle.bag_rules.proofs.BatchLemmas.{Grows, adds_grows, or_left, or_right, readings_more}
use Rattle.bag_rules.proofs.FileReadLemmas.{push_at, push_before}
use Rattle.bag_rules.proofs.LimitLemmas.{none_more}
use Rattle.bag_rules.proofs.TreeLemmas.{file_at, same_count}
use Rattle.bag_rules.proofs.Words.{AlgSet, Bag, CheckFault, has, HasFileAt, IsBagOf, IsLongRead, NoneStopsBefore, octets_in, paths_in, Shown, slice_get_within, Requirements}
use Rattle.bag_digest.proofs.ListLemmas.{stands}

module _ {F : Type 0} (place : F → ℕ) (remaining : F → Option (List ℕ)) (shown : Shown) (wants : Requirements) (old new : BatchReading F) where
  -- one file more, which is no stream
  pub gathered_next : (reading : FileSums) → AreGathered place remaining shown wants old → Grows old.batch new.batch → new.batch.read.items ≡ old.batch.read.items ++ reading ∷ []
      → new.streams ≡ old.streams → new.set ≡ old.set → next_of old.batch < length (paths_in shown)
      → ((path octets : List ℕ) → HasFileAt shown (next_of old.batch) path octets
      → IsReadingOf new.batch (IsStreamOf remaining wants new.set new.streams.items) wants path octets reading × ((fault : CheckFault) → ¬ IsLongRead wants.manifests.now path octets fault))
      → AreGathered place remaining shown wants new
  gathered_next reading are grows more streams set inside here =
      let so : (k : ℕ) (path octets : List ℕ) → IsStreamOf remaining wants old.set old.streams.items k path octets → IsStreamOf remaining wants new.set new.streams.items k path octets = λ k path octets is. rw (streams, set) is in
      record {
        readings = readings_more shown wants old.batch new.batch (IsStreamOf remaining wants old.set old.streams.items) (IsStreamOf remaining wants new.set new.streams.items) reading are.readings grows so more (λ path octets at. (here path octets at).0);
        files = λ k stream there path octets at. so k path octets (are.files k stream (rw (← streams) there) path octets at);
        none_at = λ bag is none k stream there within. are.none_at bag is (rw (← grows.first) none) k stream (rw (← streams) there) (rw (← streams) within);
        none = λ bag is none within.
            let next = next_of old.batch in
            let before : NoneStopsBefore next bag (IsLongRead wants.manifests.now) = are.none bag is (rw (← grows.first) none) (rw (← streams) within) in
            let file = stands bag.files next (subst (λ n. next < n) (same_count bag is) inside) in
            let at = file_at bag is next file.0.0 file.0.1 file.1 in
            subst (λ n. NoneStopsBefore n bag (IsLongRead wants.manifests.now)) (omega (arith, grows.first, ap length more, length-append old.batch.read.items (reading ∷ [])))
            (none_more bag (IsLongRead wants.manifests.now) next file.0.0 file.0.1 file.1 (here file.0.0 file.0.1 at).1 before);
      }

  -- one stream more
  pub gathered_front : (wanted : AlgSet) (front : List ℕ) (file : F) → AreGathered place remaining shown wants old → HoldsFront old new wanted front file
      → place file ≡ next_of old.batch → next_of old.batch < length (paths_in shown)
      → ((path octets : List ℕ) → HasFileAt shown (next_of old.batch) path octets → IsReadFor wants path wanted × HasRest remaining octets front file)
      → AreGathered place remaining shown wants new
  gathered_front wanted front file are holds placed inside known =
      let next = next_of old.batch in
      let many = length old.streams.items in
      let stops = IsLongRead wants.manifests.now in
      let own_place : place holds.stream.source ≡ next = ap place holds.source ∙ placed in
      let stays : (k : ℕ) → k < many → slice_get new.streams.items k ≡ slice_get old.streams.items k = λ k below.
      ap (λ xs. slice_get xs k) holds.streams ∙ push_before old.streams.items holds.stream k below in
      let last : slice_get new.streams.items many ≡ Some holds.stream = ap (λ xs. slice_get xs many) holds.streams ∙ push_at old.streams.items holds.stream in
      let so : (k : ℕ) (path octets : List ℕ) → IsStreamOf remaining wants old.set old.streams.items k path octets → IsStreamOf remaining wants new.set new.streams.items k path octets = λ k path octets is. record {
        read = (is.read.0, λ alg listed. holds.set alg ∙ or_left (has old.set alg) (has wanted alg) (is.read.1 alg listed));
        stream = is.stream;
        there = stays k (slice_get_within old.streams.items k is.stream is.there) ∙ is.there;
        rest = is.rest;
      } in
      let here : (path octets : List ℕ) → HasFileAt shown next path octets → IsStreamOf remaining wants new.set new.streams.items many path octets = λ path octets at.
      let is = known path octets at in record {
        read = (is.0.0, λ alg listed. holds.set alg ∙ or_right (has old.set alg) (has wanted alg) (is.0.1 alg listed));
        stream = holds.stream;
        there = last;
        rest = record {
          rest = is.1.rest;
          left = ap remaining holds.source ∙ is.1.left;
          octets_are = is.1.octets_are ∙ ap (λ xs. xs ++ is.1.rest) (sym holds.piece);
        };
      } in
      let grows = adds_grows old.batch new.batch (Streamed many) holds.batch in
      let within_old : (n : ℕ) → n ≤ many → AreWithin remaining new.streams.items n → AreWithin remaining old.streams.items n = λ n most within k stream rest below there left.
      within k stream rest below (stays k (omega (arith, below, most)) ∙ there) left in
      let from : (bag : Bag) → NoneStopsBefore new.batch.first bag stops → NoneStopsBefore old.batch.first bag stops = λ bag none. subst (λ n. NoneStopsBefore n bag stops) holds.batch.first none in
      let before : (bag : Bag) → IsBagOf shown bag → NoneStopsBefore new.batch.first bag stops → AreWithin remaining old.streams.items many → NoneStopsBefore next bag stops = λ bag is none within.
      are.none bag is (from bag none) within in
      record {
        readings = readings_more shown wants old.batch new.batch (IsStreamOf remaining wants old.set old.streams.items) (IsStreamOf remaining wants new.set new.streams.items) (Streamed many) are.readings grows so holds.batch.read
            (λ path octets at. here path octets at);
        files = λ k stream there. at_last old.streams.items holds.stream
            (λ n (s : Stream F). (path octets : List ℕ) → HasFileAt shown (place s.source) path octets → IsStreamOf remaining wants new.set new.streams.items n path octets)
            (λ n s at path octets file_is. so n path octets (are.files n s at path octets file_is))
            (λ path octets at. here path octets (subst (λ n. HasFileAt shown n path octets) own_place at))
            k stream (subst (λ xs. slice_get xs k ≡ Some stream) holds.streams there);
        none_at = λ bag is none k stream there. at_last old.streams.items holds.stream
            (λ n (s : Stream F). AreWithin remaining new.streams.items n → NoneStopsBefore (place s.source) bag stops)
            (λ n s at within. are.none_at bag is (from bag none) n s at (within_old n (let below = slice_get_within old.streams.items n s at in omega (arith, below)) within))
            (λ within. subst (λ n. NoneStopsBefore n bag stops) (sym own_place) (before bag is none (within_old many (omega arith) within)))
            k stream (subst (λ xs. slice_get xs k ≡ Some stream) holds.streams there);
        none = λ bag is none within.
            let file = stands bag.files next (subst (λ n. next < n) (same_count bag is) inside) in
            let at = file_at bag is next file.0.0 file.0.1 file.1 in
            let own = known file.0.0 file.0.1 at in
            let more = length-append old.streams.items (holds.stream ∷ []) in
            let count = ap length holds.streams in
            let most : length (holds.stream.piece.items ++ own.1.rest) ≤ LARGEST_FILE = within many holds.stream own.1.rest (omega (arith, more, count)) last (ap remaining holds.source ∙ own.1.left) in
            let same : file.0.1 ≡ holds.stream.piece.items ++ own.1.rest = own.1.octets_are ∙ ap (λ xs. xs ++ own.1.rest) (sym holds.piece) in
            subst (λ n. NoneStopsBefore n bag stops) (omega (arith, holds.batch.first, ap length holds.batch.read, length-append old.batch.read.items (Streamed many ∷ [])))
            (none_more bag stops next file.0.0 file.0.1 file.1 (λ fault long. let past = long.1.0 in omega (arith, past, ap length same, most))
            (before bag is none (λ k stream rest below there left. within k stream rest (omega (arith, below, more, count)) (stays k below ∙ there) left)));
      }

-- no file yet
no_stream : {F : Type 0} (streams : List (Stream F)) (k : ℕ) (stream : Stream F) → streams ≡ [] → slice_get streams k ≡ Some stream → ⊥
no_stream {F} streams k stream none there = let e : ◌≡◌ {A = Option (Stream F)} None (Some stream) = subst (λ xs. slice_get xs k ≡ Some stream) none there in cc

pub none_gathered : {F : Type 0} (place : F → ℕ) (remaining : F → Option (List ℕ)) (shown : Shown) (wants : Requirements) (gathered : BatchReading F) → gathered.batch.read.items ≡ [] → gathered.streams.items ≡ []
    → AreGathered place remaining shown wants gathered
none_gathered place remaining shown wants gathered read streams = record {
  readings = λ i reading there. absurd (let e : ◌≡◌ {A = Option FileSums} None (Some reading) = subst (λ xs. slice_get xs i ≡ Some reading) read there in cc);
  files = λ k stream there. absurd (no_stream gathered.streams.items k stream streams there);
  none_at = λ bag is none k stream there. absurd (no_stream gathered.streams.items k stream streams there);
  none = λ bag is none within. subst (λ n. NoneStopsBefore n bag (IsLongRead wants.manifests.now)) (omega (arith, ap length read)) none;
}

-- OPEN FILES

pub none_open : {F : Type 0} (place : F → ℕ) (remaining : F → Option (List ℕ)) (failures : F → ℕ) (shown : Shown) (gathered : BatchReading F) → gathered.streams.items ≡ [] → AreOpen place remaining failures shown gathered
none_open place remaining failures shown gathered none = record {
  each = λ k stream there. absurd (no_stream gathered.streams.items k stream none there);
  by_place = λ j k a b less at. absurd (no_stream gathered.streams.items j a none at);
}

pub none_ready : {F : Type 0} (ready : F → Type 0) (streams : List (Stream F)) → streams ≡ [] → AreReady ready streams
none_ready ready streams none k stream there = absurd (no_stream streams k stream none there)

module _ {F : Type 0} (place : F → ℕ) (remaining : F → Option (List ℕ)) (failures : F → ℕ) (shown : Shown) where
  later : (next more : ℕ) (stream : Stream F) → next ≤ more → IsOut place remaining failures shown next stream → IsOut place remaining failures shown more stream
  later next more stream grows is = record {
    before = let below = is.before in omega (arith, below, grows);
    inside = is.inside;
    fresh = is.fresh;
    unfailed = is.unfailed;
    known = is.known;
  }

  -- the same streams, with more files before the next
  pub open_next : (old new : BatchReading F) → new.streams ≡ old.streams → next_of old.batch ≤ next_of new.batch → AreOpen place remaining failures shown old → AreOpen place remaining failures shown new
  open_next old new streams grows are = record {
    each = λ k stream at. later (next_of old.batch) (next_of new.batch) stream grows (are.each k stream (rw (← streams) at));
    by_place = rw streams are.by_place;
  }

  -- one stream more
  pub open_more : (old new : BatchReading F) (wanted : AlgSet) (front : List ℕ) (file : F) → HoldsFront old new wanted front file → place file ≡ next_of old.batch → next_of old.batch < length (paths_in shown)
      → length front ≡ FRONT → failures file ≡ 0 → ((octets : List ℕ) → octets_in shown (next_of old.batch) ≡ Some octets → HasRest remaining octets front file)
      → AreOpen place remaining failures shown old → AreOpen place remaining failures shown new
  open_more old new wanted front file holds placed inside room unfailed known are =
      let many = length old.streams.items in
      let own_place : place holds.stream.source ≡ next_of old.batch = ap place holds.source ∙ placed in
      let grows : next_of new.batch ≡ next_of old.batch + 1 = omega (arith, holds.batch.first, ap length holds.batch.read, length-append old.batch.read.items (Streamed many ∷ [])) in
      record {
        each = λ k stream at. at_last old.streams.items holds.stream
            (λ n (s : Stream F). IsOut place remaining failures shown (next_of new.batch) s)
            (λ n s there. later (next_of old.batch) (next_of new.batch) s (omega (arith, grows)) (are.each n s there))
            record {
              before = omega (arith, own_place, grows);
              inside = omega (arith, own_place, inside);
              fresh = record { room = ap length holds.piece ∙ room; sums = holds.sums };
              unfailed = ap failures holds.source ∙ unfailed;
              known = λ octets is.
                  let rest = known octets (subst (λ n. octets_in shown n ≡ Some octets) own_place is) in
                  record {
                    rest = rest.rest;
                    left = ap remaining holds.source ∙ rest.left;
                    octets_are = rest.octets_are ∙ ap (λ xs. xs ++ rest.rest) (sym holds.piece);
                  };
            }
            k stream (subst (λ xs. slice_get xs k ≡ Some stream) holds.streams at);
        by_place = λ j k a b less at to. at_last old.streams.items holds.stream
            (λ n (s : Stream F). j < n → place a.source < place s.source)
            (λ n s there below. are.by_place j n a s below (earlier j a at (let most = slice_get_within old.streams.items n s there in omega (arith, below, most))) there)
            (λ below. let before = (are.each j a (earlier j a at below)).before in omega (arith, before, own_place))
            k b (subst (λ xs. slice_get xs k ≡ Some b) holds.streams to) less;
      } where
        earlier : (j : ℕ) (a : Stream F) → slice_get new.streams.items j ≡ Some a → j < length old.streams.items → slice_get old.streams.items j ≡ Some a
        earlier j a at below = sym (push_before old.streams.items holds.stream j below) ∙ ap (λ xs. slice_get xs j) (sym holds.streams) ∙ at

pub ready_same : {F : Type 0} (ready : F → Type 0) (old new : BatchReading F) → new.streams ≡ old.streams → AreReady ready old.streams.items → AreReady ready new.streams.items
ready_same ready old new streams are = rw streams are

pub ready_more : {F : Type 0} (ready : F → Type 0) (old new : BatchReading F) (wanted : AlgSet) (front : List ℕ) (file : F) → HoldsFront old new wanted front file → ready file
    → AreReady ready old.streams.items → AreReady ready new.streams.items
ready_more {F} ready old new wanted front file holds here are k stream at =
    at_last old.streams.items holds.stream (λ n (s : Stream F). ready s.source) are (subst ready (sym holds.source) here)
    k stream (subst (λ xs. slice_get xs k ≡ Some stream) holds.streams at)

-- THE FRONT OF A FILE

consumed : {F : Type 0} (remaining : F → Option (List ℕ)) (file : F) (octets given : List ℕ) (new : Option (List ℕ)) → remaining file ≡ new → Consumes (Some octets) new given → HasRest remaining octets given file
consumed remaining file octets given None is gave = absurd gave
consumed remaining file octets given (Some rest) is gave = record { rest = rest; left = is; octets_are = gave }

pub front_is : {F : Type 0} (remaining : F → Option (List ℕ)) (file : F) (octets buffer : List ℕ) (n : ℕ) (old : Option (List ℕ)) → old ≡ Some octets → GavePiece old (remaining file) LARGEST_FILE n buffer
    → (n < length buffer → IsAtEnd (remaining file)) → IsFront remaining octets buffer n file
front_is remaining file octets buffer n old known piece end = record {
  whole = λ below. all_known octets (take n buffer) old (remaining file) LARGEST_FILE known
      (record { gave = piece.gave; none_left = end below; within = omega (arith, piece.within, length-take-le n buffer piece.bound) });
  more = λ full.
      let whole = filled_whole old (remaining file) LARGEST_FILE n buffer piece full in
      consumed remaining file octets buffer (remaining file) refl (subst (λ o. Consumes o (remaining file) buffer) known whole.gave);
}
