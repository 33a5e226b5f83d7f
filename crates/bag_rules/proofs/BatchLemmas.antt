-- What is read of the files of a batch.
use Rattle.std.proofs.Common.{◌≡◌, ◌∙◌, ◌+◌, ◌-◌, ◌≤◌, ◌++◌, ◌∷◌, ◌||◌, [], ℕ, Bool, true, false, List, OnOk, Option, Some, None, Result, Ok, Err, MatchOption, Vec, ap, arith, inl, length, refl, slice_get, subst, sym}
use Rattle.std.specs.declared.alloc.Global.{Global}
use Rattle.bag_digest.proofs.EachLemmas.{at_last}
use Rattle.bag_digest.specs.declared.short_contents.ShortContents.{ShortContents}
use Rattle.bag_digest.specs.declared.sums.Sums.{Sums}
use Rattle.bag_rules.specs.declared.file_batch.FileBatch.{FileBatch}
use Rattle.bag_rules.specs.declared.file_batch.FileSums.{FileSums}
use Rattle.bag_rules.specs.declared.file_batch.FileSums.TheVariants.{Streamed, Taken, Unread, Waiting}
use Rattle.bag_rules.specs.declared.limits.TheConstants.{LARGEST_FILE}
use Rattle.bag_digest.specs.Reading.{AreSums}
use Rattle.bag_digest.specs.ShortContents.{AreSumsOfEach}
use Rattle.bag_rules.specs.Wants.{CoversListed}
use Rattle.bag_rules.specs.FileBatchInside.{AddsSums, AreAlgsOf, AreRead, AreReadings, AreSumsRead, IsSumsOf, Covers, HasSumsAt, AddsHeld, IsHeldFor, IsReadingOf, StreamFact}
use Rattle.bag_rules.proofs.FileReadLemmas.{push_at, push_before}
use Rattle.bag_rules.proofs.Words.{Alg, AlgSet, CheckFault, has, HasFileAt, IsLongRead, is_payload, IsReadBy, same_Some, Shown, slice_get_within, Requirements}
use Rattle.bag_digest.proofs.ListLemmas.{stands}

-- what is held of a batch grows
pub record Grows (old new : FileBatch) : Type 0 where
  pub first : new.first ≡ old.first
  pub contents : (i : ℕ) (content : Vec ℕ Global) → slice_get old.held.contents.items i ≡ Some content → slice_get new.held.contents.items i ≡ Some content
  pub set : (alg : Alg) → has old.held.set alg ≡ true → has new.held.set alg ≡ true

still : (old new : FileBatch) (P Q : StreamFact) (wants : Requirements) (path octets : List ℕ) (reading : FileSums) → Grows old new → ((k : ℕ) (path octets : List ℕ) → P k path octets → Q k path octets)
    → IsReadingOf old P wants path octets reading → IsReadingOf new Q wants path octets reading
still old new P Q wants path octets Unread grows so is = is
still old new P Q wants path octets (Taken sums) grows so is = is
still old new P Q wants path octets (Waiting place) grows so is = record {
  read = is.read;
  content = is.content;
  there = grows.contents place is.content is.there;
  octets_are = is.octets_are;
  within = is.within;
  covers = λ alg listed. grows.set alg (is.covers alg listed);
}
still old new P Q wants path octets (Streamed place) grows so is = so place path octets is

-- one more file
pub readings_more : (shown : Shown) (wants : Requirements) (old new : FileBatch) (P Q : StreamFact) (reading : FileSums) → AreReadings shown wants old P → Grows old new
    → ((k : ℕ) (path octets : List ℕ) → P k path octets → Q k path octets) → new.read.items ≡ old.read.items ++ reading ∷ []
    → ((path octets : List ℕ) → HasFileAt shown (old.first + length old.read.items) path octets → IsReadingOf new Q wants path octets reading)
    → AreReadings shown wants new Q
readings_more shown wants old new P Q reading are grows so more here i other there path octets file =
    at_last old.read.items reading
    (λ n (r : FileSums). (path octets : List ℕ) → HasFileAt shown (old.first + n) path octets → IsReadingOf new Q wants path octets r)
    (λ n r at p o f. still old new P Q wants p o r grows so (are n r at p o f))
    here i other (subst (λ rs. slice_get rs i ≡ Some other) more there)
    path octets (subst (λ k. HasFileAt shown (k + i) path octets) grows.first file)

pub adds_grows : (old new : FileBatch) (sums : FileSums) → AddsSums old new sums → Grows old new
adds_grows old new sums adds = record {
  first = adds.first;
  contents = λ i content at. ap (λ (held : ShortContents Unit). slice_get held.contents.items i) adds.held ∙ at;
  set = λ alg h. ap (λ (held : ShortContents Unit). has held.set alg) adds.held ∙ h;
}

pub or_left : (a b : Bool) → a ≡ true → (a || b) ≡ true
or_left true b h = refl
or_left false b h = cc

pub or_right : (a b : Bool) → b ≡ true → (a || b) ≡ true
or_right true b h = refl
or_right false b h = h

-- a file whose octets are held
pub holds_grows : (old new : FileBatch) (set : AlgSet) (held : List ℕ) → AddsHeld old new set held → Grows old new
holds_grows old new set held holds = record {
  first = holds.first;
  contents = λ i content at. ap (λ cs. slice_get cs i) holds.contents ∙ push_before old.held.contents.items holds.content i (slice_get_within old.held.contents.items i content at) ∙ at;
  set = λ alg h. holds.algs alg ∙ or_left (has old.held.set alg) (has set alg) h;
}

pub held_is : (old new : FileBatch) (wants : Requirements) (path octets : List ℕ) (set : AlgSet) (held : List ℕ) → AddsHeld old new set held
    → IsReadBy wants.manifests.now path → CoversListed wants.manifests.now path set → held ≡ octets → length octets ≤ LARGEST_FILE
    → IsHeldFor new wants path octets (length old.held.contents.items)
held_is old new wants path octets set held holds read covers same within = record {
  read = read;
  content = holds.content;
  there = ap (λ cs. slice_get cs (length old.held.contents.items)) holds.contents ∙ push_at old.held.contents.items holds.content;
  octets_are = holds.octets_are ∙ same;
  within = within;
  covers = λ alg listed. holds.algs alg ∙ or_right (has old.held.set alg) (has set alg) (covers alg listed);
}

-- what was read of a file of the batch
pub reading_at : (shown : Shown) (wants : Requirements) (batch : FileBatch) (place : ℕ) (path octets : List ℕ) (reading : FileSums) → AreRead shown wants batch → Covers batch place → HasFileAt shown place path octets
    → slice_get batch.read.items (place - batch.first) ≡ Some reading → IsReadingOf batch (HasSumsAt wants batch) wants path octets reading
reading_at shown wants batch place path octets reading are covers file there =
    are.readings (place - batch.first) reading there path octets (subst (λ k. HasFileAt shown k path octets) (omega (arith, covers.0)) file)

-- the length and the digests of what is held
held_sums : (batch : FileBatch) (wants : Requirements) (path octets : List ℕ) (place : ℕ) (sums : Sums) → AreSumsOfEach batch.held.set batch.held.contents.items batch.waiting.items
    → IsHeldFor batch wants path octets place → slice_get batch.waiting.items place ≡ Some sums → AreSumsRead wants path octets sums
held_sums batch wants path octets place sums each is at = record {
  read = is.read;
  set = batch.held.set;
  sums = record {
    sums = record {
      taken = batch.held.set;
      sums = subst (λ o. AreSums sums batch.held.set o) is.octets_are (each.sums place is.content sums is.there at);
      covers = λ alg h. h;
    };
    within = is.within;
  };
  covers = is.covers;
}

pub held_at : (batch : FileBatch) (wants : Requirements) (path octets : List ℕ) (place : ℕ) (found : Option Sums) → AreSumsOfEach batch.held.set batch.held.contents.items batch.waiting.items
    → IsHeldFor batch wants path octets place → MatchOption found (length batch.waiting.items ≤ place) (λ sums. slice_get batch.waiting.items place ≡ Some sums) → IsSumsOf wants path octets found
held_at batch wants path octets place None each is past =
    let inside = slice_get_within batch.held.contents.items place is.content is.there in
    absurd (omega (arith, inside, each.count, past))
held_at batch wants path octets place (Some sums) each is at = held_sums batch wants path octets place sums each is at

-- those of a stream
pub streamed_at : (batch : FileBatch) (wants : Requirements) (path octets : List ℕ) (place : ℕ) (found : Option Sums) → HasSumsAt wants batch place path octets
    → MatchOption found (length batch.streamed.items ≤ place) (λ sums. slice_get batch.streamed.items place ≡ Some sums) → IsSumsOf wants path octets found
streamed_at batch wants path octets place None is past =
    let inside = slice_get_within batch.streamed.items place is.0 is.1 in
    absurd (omega (arith, inside, past))
streamed_at batch wants path octets place (Some sums) is at = subst (AreSumsRead wants path octets) (same_Some is.0 sums (sym is.1 ∙ at)) is.2

pub on_ok_so : {A E P Q : Type 0} (r : Result A E) → OnOk r P → (P → Q) → OnOk r Q
on_ok_so (Ok a) h so = so h
on_ok_so (Err e) h so = h

-- a file that isn't read
pub none_of : (wants : Requirements) (path : List ℕ) (set : Option AlgSet) → ((some : AlgSet) → ¬ (set ≡ Some some)) → AreAlgsOf wants path set → ¬ IsReadBy wants.manifests.now path
none_of wants path None not is = is
none_of wants path (Some set) not is = absurd (not set refl)

-- the same files, whatever digests were taken
pub readings_same : (shown : Shown) (wants : Requirements) (old new : FileBatch) (P Q : StreamFact) → new.first ≡ old.first → new.read ≡ old.read → new.held ≡ old.held
    → ((k : ℕ) (path octets : List ℕ) → P k path octets → Q k path octets) → AreReadings shown wants old P → AreReadings shown wants new Q
readings_same shown wants old new P Q first read held so are i reading there path octets file =
    still old new P Q wants path octets reading
    record {
      first = first;
      contents = λ k content at. ap (λ (held : ShortContents Unit). slice_get held.contents.items k) held ∙ at;
      set = λ alg h. ap (λ (held : ShortContents Unit). has held.set alg) held ∙ h;
    }
    so
    (are i reading (ap (λ (rs : Vec FileSums Global). slice_get rs.items i) (sym read) ∙ there) path octets (subst (λ k. HasFileAt shown (k + i) path octets) first file))

-- a file that isn't read is no payload file
pub unread_tag : (wants : Requirements) (path : List ℕ) → ¬ IsReadBy wants.manifests.now path → is_payload path ≡ false
unread_tag wants path unread = tag_of (is_payload path) (λ payload. unread (inl payload)) where
  tag_of : (b : Bool) → ¬ (b ≡ true) → b ≡ false
  tag_of true not = absurd (not refl)
  tag_of false not = refl

within_read : (batch : FileBatch) (wants : Requirements) (path octets : List ℕ) (reading : FileSums) (fault : CheckFault) → IsReadingOf batch (HasSumsAt wants batch) wants path octets reading → ¬ IsLongRead wants.manifests.now path octets fault
within_read batch wants path octets Unread fault is long = is long.0
within_read batch wants path octets (Taken sums) fault is long = let most = is.sums.within in let past = long.1.0 in omega (arith, most, past)
within_read batch wants path octets (Waiting place) fault is long = let most = is.within in let past = long.1.0 in omega (arith, most, past)
within_read batch wants path octets (Streamed place) fault is long = let most = is.2.sums.within in let past = long.1.0 in omega (arith, most, past)

-- no file of the batch is too long
pub batch_within : (shown : Shown) (wants : Requirements) (batch : FileBatch) (place : ℕ) (path octets : List ℕ) (fault : CheckFault) → AreRead shown wants batch → Covers batch place → HasFileAt shown place path octets
    → ¬ IsLongRead wants.manifests.now path octets fault
batch_within shown wants batch place path octets fault are covers file =
    let found = stands batch.read.items (place - batch.first) (omega (arith, covers.0, covers.1)) in
    within_read batch wants path octets found.0 fault (reading_at shown wants batch place path octets found.0 are covers file found.1)
