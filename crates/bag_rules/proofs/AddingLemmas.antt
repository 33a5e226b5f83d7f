-- One file more is gathered.
use Rattle.std.proofs.Common.{◌≡◌, ◌+◌, ◌≤◌, ◌<◌, ◌∷◌, [], ℕ, List, Option, Some, ap, arith, length, length-append, refl}
use Rattle.bag_digest.specs.declared.buffers.TheConstants.{FRONT}
use Rattle.bag_rules.specs.declared.file_batch.FileBatch.{FileBatch}
use Rattle.bag_rules.specs.declared.file_batch.FileSums.{FileSums}
use Rattle.bag_rules.specs.declared.file_batch.FileSums.TheVariants.{Streamed, Taken, Unread, Waiting}
use Rattle.bag_rules.specs.declared.batch_reading.FrontFault.{FrontFault}
use Rattle.bag_rules.specs.declared.batch_reading.FrontFault.TheVariants.{Memory, Stopped}
use Rattle.bag_rules.specs.declared.batch_reading.BatchReading.{BatchReading}
use Rattle.bag_rules.specs.declared.limits.TheConstants.{LARGEST_FILE}
use Rattle.bag_rules.specs.FileBatchInside.{AddsSums, AddsHeld, IsKnownOf, IsReadFor, IsReadingOf, StreamFact, next_of}
use Rattle.bag_rules.specs.BatchReading.{AddsFile, AddsNone, AreOpen, HasRest, HoldsFront, IfStopped, IsStreamOf}
use Rattle.bag_rules.proofs.BatchLemmas.{adds_grows, held_is, holds_grows}
use Rattle.bag_rules.proofs.GatheringLemmas.{gathered_front, gathered_next, open_more, open_next, ready_more, ready_same}
use Rattle.bag_rules.proofs.TreeLemmas.{octets_shown}
use Rattle.bag_rules.proofs.Words.{AlgSet, CheckFault, HasFileAt, IsLongRead, octets_in, paths_in, Shown, Requirements}

-- nothing was done
pub adds_nothing : {F : Type 0} (gathered : BatchReading F) (fault : FrontFault F) → AddsNone gathered gathered fault
adds_nothing gathered Memory = refl
adds_nothing gathered (Stopped fault file) = refl

pub if_stopped : {F : Type 0} (fault : FrontFault F) (fact : Type 0) → fact → IfStopped fault fact
if_stopped Memory fact is = tt
if_stopped (Stopped reason file) fact is = is

-- what is known of a file before it is opened was read of it, and it is not too long
pub known_reading : (batch : FileBatch) (is_stream : StreamFact) (wants : Requirements) (path octets : List ℕ) (sums : FileSums) → IsKnownOf wants path octets sums
    → IsReadingOf batch is_stream wants path octets sums × ((fault : CheckFault) → ¬ IsLongRead wants.manifests.now path octets fault)
known_reading batch is_stream wants path octets Unread is = (is, λ fault long. is long.0)
known_reading batch is_stream wants path octets (Taken sums) is = (is, λ fault long. let most = is.sums.within in let past = long.1.0 in omega (arith, most, past))
known_reading batch is_stream wants path octets (Waiting place) is = absurd is
known_reading batch is_stream wants path octets (Streamed place) is = absurd is

module _ {F : Type 0} (place : F → ℕ) (remaining : F → Option (List ℕ)) (failures : F → ℕ) (ready : F → Type 0) (shown : Shown) (sure : Type 0) (wants : Requirements) (old new : BatchReading F)
    (inside : next_of old.batch < length (paths_in shown)) (are_open : AreOpen place remaining failures shown old) where
  -- one that isn't opened
  pub adds_known : (sums : FileSums) → AddsSums old.batch new.batch sums → new.streams ≡ old.streams → new.set ≡ old.set
      → ((path octets : List ℕ) → HasFileAt shown (next_of old.batch) path octets → IsKnownOf wants path octets sums)
      → AddsFile place remaining failures ready shown sure wants old new
  adds_known sums adds streams set known =
      let more : next_of new.batch ≡ next_of old.batch + 1 = omega (arith, adds.first, ap length adds.read, length-append old.batch.read.items (sums ∷ [])) in
      record {
        first = adds.first;
        next = more;
        are_open = open_next place remaining failures shown old new streams (omega (arith, more)) are_open;
        are_ready = λ s are. ready_same ready old new streams are;
        gathered = λ are. gathered_next place remaining shown wants old new sums are (adds_grows old.batch new.batch sums adds) adds.read streams set inside
            (λ path octets at. known_reading new.batch (IsStreamOf remaining wants new.set new.streams.items) wants path octets sums (known path octets at));
      }

  -- one that ends within the buffer
  pub adds_whole : (wanted : AlgSet) (held : List ℕ) → AddsHeld old.batch new.batch wanted held → new.streams ≡ old.streams → new.set ≡ old.set
      → ((path octets : List ℕ) → HasFileAt shown (next_of old.batch) path octets → IsReadFor wants path wanted × (held ≡ octets) × (length octets ≤ LARGEST_FILE))
      → AddsFile place remaining failures ready shown sure wants old new
  adds_whole wanted held holds streams set known =
      let reading = Waiting (length old.batch.held.contents.items) in
      let more : next_of new.batch ≡ next_of old.batch + 1 = omega (arith, holds.first, ap length holds.read, length-append old.batch.read.items (reading ∷ [])) in
      record {
        first = holds.first;
        next = more;
        are_open = open_next place remaining failures shown old new streams (omega (arith, more)) are_open;
        are_ready = λ s are. ready_same ready old new streams are;
        gathered = λ are. gathered_next place remaining shown wants old new reading are (holds_grows old.batch new.batch wanted held holds) holds.read streams set inside
            (λ path octets at.
            let is = known path octets at in (
              held_is old.batch new.batch wants path octets wanted held holds is.0.0 is.0.1 is.1 is.2,
              λ fault long. let past = long.1.0 in let most = is.2 in omega (arith, past, most),
            ));
      }

  -- one that is longer, and stays out
  pub adds_front : (wanted : AlgSet) (front : List ℕ) (file : F) → HoldsFront old new wanted front file → place file ≡ next_of old.batch → length front ≡ FRONT → failures file ≡ 0 → (sure → ready file)
      → ((path octets : List ℕ) → HasFileAt shown (next_of old.batch) path octets → IsReadFor wants path wanted)
      → ((octets : List ℕ) → octets_in shown (next_of old.batch) ≡ Some octets → HasRest remaining octets front file)
      → AddsFile place remaining failures ready shown sure wants old new
  adds_front wanted front file holds placed room unfailed is_ready read rest = record {
    first = holds.batch.first;
    next = omega (arith, holds.batch.first, ap length holds.batch.read, length-append old.batch.read.items (Streamed (length old.streams.items) ∷ []));
    are_open = open_more place remaining failures shown old new wanted front file holds placed inside room unfailed rest are_open;
    are_ready = λ s are. ready_more ready old new wanted front file holds (is_ready s) are;
    gathered = λ are. gathered_front place remaining shown wants old new wanted front file are holds placed inside
        (λ path octets at. (read path octets at, rest octets (octets_shown at)));
  }
