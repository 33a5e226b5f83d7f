-- What is promised where several files are written side by side. Private functions alone cite these.
use Rattle.std.specs.Prelude.{◌≡◌, ◌≢◌, ◌+◌, ◌++◌, ◌∷◌, [], ℕ, Bool, true, false, List, Result, IfErr, IsErrOf, MatchResult, length}
use Rattle.bag_digest.specs.declared.algorithm.AlgSet.{AlgSet}
use Rattle.bag_rules.specs.Returning.{LeavesOut, TakesAllBack}
use Rattle.bag_rules.specs.Trees.{Shown}
use Rattle.bag_writer.specs.Copying.{AreFresh, KeepPlaces, Sides, Work}
use Rattle.bag_writer.specs.Finishing.{AreCompleted, AreFinished, CanEnd, EndsCopies, HasStoppedIn, IsCutAt, places_of}
use Rattle.bag_writer.specs.Pending.{AddsCopy, CanBegin, IsBeginFault, copies_with, files_with, work_of}
use Rattle.bag_writer.specs.Returned.{LeavesCopies}
use Rattle.bag_writer.specs.declared.copying.Copying.{Copying}
use Rattle.bag_writer.specs.declared.copying.CopyStop.{CopyStop}
use Rattle.bag_writer.specs.declared.items.Items.{Items}
use Rattle.bag_writer.specs.declared.payload.CopyFault.TheVariants as copy
use Rattle.bag_writer.specs.declared.payload_beside.NotBegun.{NotBegun}
use Rattle.bag_writer.specs.declared.sink.Sink.{Ghosts as SinkOf}
use Rattle.bag_writer.specs.declared.write_fault.WriteFault.{WriteFault}
use Rattle.bag_writer.specs.declared.write_fault.WriteFault.TheVariants.{Sink, Tree}

-- what is known of a tree, of a sink, and of the files that they give out, by the ghost members of their traits
pub record Devices (T S F G : Type 0) : Type 1 where
  pub shown : T → Shown
  pub failures : T → ℕ
  pub sure : T → Type 0
  pub sink : SinkOf S
  pub files : Sides F G

abbrev pub devices : {T S F G : Type 0} → (T → Shown) → (T → ℕ) → (T → Type 0) → SinkOf S
    → Sides F G → Devices T S F G
devices shown failures sure sink files = record {
  shown = shown;
  failures = failures;
  sure = sure;
  sink = sink;
  files = files;
}

-- the next file was begun and is out with its copy, or what comes with the fault is
pub record BeginsNext {T S F G : Type 0} (d : Devices T S F G) (i : ℕ)
    (old new : List (Copying F G)) (tree_old tree_new : T) (sink_old sink_new : S)
    (result : Result (Unit {0}) (NotBegun F G)) : Type 0 where
  pub begun : (tree_sure sink_sure : Bool) → (tree_sure ≡ true → d.sure tree_old)
      → (sink_sure ≡ true → CanBegin (d.sink.sure sink_old) (d.sink.is_open sink_old)
      (d.sink.stored sink_old) (d.shown tree_old) i)
      → MatchResult result
      (λ done. AddsCopy d.files (work_of (d.shown tree_old) tree_sure sink_sure) i old new)
      (λ fault. (new ≡ old)
      × IsBeginFault d.files (work_of (d.shown tree_old) tree_sure sink_sure) i fault)
  pub tree : (n : ℕ) → MatchResult result
      (λ done. LeavesOut d.shown d.failures d.sure n (n + 1) tree_old tree_new)
      (λ fault. LeavesOut d.shown d.failures d.sure n (n + files_with fault) tree_old tree_new)
  pub sink : (n : ℕ) → MatchResult result
      (λ done. LeavesCopies d.sink.stored d.sink.is_open d.sink.failures d.sink.sure n (n + 1)
      sink_old sink_new)
      (λ fault. LeavesCopies d.sink.stored d.sink.is_open d.sink.failures d.sink.sure n
      (n + copies_with fault) sink_old sink_new)

-- All files were copied to their ends and their copies ended, or until one stopped. What is out stays out.
pub record Completes {S F G : Type 0} (s : Sides F G) (sink : SinkOf S) (set : AlgSet)
    (old new : List (Copying F G)) (before after : S) (result : Result (Unit {0}) CopyStop)
    : Type 0 where
  pub written : (work : Work) → AreFresh s work set 0 (length old) old → MatchResult result
      (λ done. AreCompleted s work.shown set new (sink.stored before) (sink.stored after))
      (HasStoppedIn s work.shown new (sink.stored before) (sink.stored after))
  pub calm : (work : Work) → AreFresh s work set 0 (length old) old → IfErr result (λ stop.
      (work.tree_sure ≡ true → stop.fault ≢ copy.Tree)
      × (work.sink_sure ≡ true → CanEnd (sink.sure before) (sink.is_open before)
      (sink.stored before) work.shown (places_of s.place old) → stop.fault ≢ copy.Sink))
  pub places : KeepPlaces s.place s.copy_place old new
  pub counted : sink.failures after ≡ sink.failures before
  pub as_open : sink.is_open after ≡ sink.is_open before
  pub stays_sure : sink.sure before → sink.sure after

-- Where this holds of the files too: that the tree failed isn't told if it is sure, and that the sink did isn't if it
-- is sure and can end the files.
abbrev pub TellsTruly : {T S F G : Type 0} → Devices T S F G → AlgSet → List (Copying F G) → T → S
    → (Work → Type 0) → Type 0 → Type 0 → Type 0
TellsTruly d set copies tree sink Too tree_failed sink_failed = (tree_sure sink_sure : Bool)
    → AreFresh d.files (work_of (d.shown tree) tree_sure sink_sure) set 0 (length copies) copies
    → Too (work_of (d.shown tree) tree_sure sink_sure)
    → (tree_sure ≡ true → ¬ tree_failed)
    × (sink_sure ≡ true → CanEnd (d.sink.sure sink) (d.sink.is_open sink) (d.sink.stored sink)
    (d.shown tree) (places_of d.files.place copies) → ¬ sink_failed)

-- files that are under way were written whole and have their items, or one has stopped; all are taken back
pub record Finishes {T S F G : Type 0} (d : Devices T S F G) (set : AlgSet)
    (copies : List (Copying F G)) (items : Items) (tree_old tree_new : T) (sink_old sink_new : S)
    (result : Result Items WriteFault) : Type 0 where
  pub written : MatchResult result
      (λ more. AreFinished set (d.shown tree_old) (places_of d.files.place copies) items more
      (d.sink.stored sink_old) (d.sink.stored sink_new))
      (IsCutAt (d.shown tree_old) (places_of d.files.place copies)
      (d.sink.stored sink_old) (d.sink.stored sink_new))
  pub calm : TellsTruly d set copies tree_old sink_old (λ work. Unit {0})
      (IsErrOf result Tree) (IsErrOf result Sink)
  pub tree : TakesAllBack d.shown d.failures d.sure (length copies) (IsErrOf result Tree)
      tree_old tree_new
  pub sink : EndsCopies d.sink.is_open d.sink.failures d.sink.sure (length copies)
      (IsErrOf result Sink) sink_old sink_new

-- Files that are under way were ended, or one has stopped, before what stopped the next one is told. Of that so many
-- files and copies are out too, and this holds. Part of the files at these places was written, and all are taken back.
pub record Stops {T S F G : Type 0} (d : Devices T S F G) (set : AlgSet)
    (copies : List (Copying F G)) (Next : Work → Type 0) (places : List ℕ) (files out : ℕ)
    (tree_old tree_new : T) (sink_old sink_new : S) (told : WriteFault) : Type 0 where
  pub written : IsCutAt (d.shown tree_old) places (d.sink.stored sink_old)
      (d.sink.stored sink_new) told
  pub calm : TellsTruly d set copies tree_old sink_old Next (told ≡ Tree) (told ≡ Sink)
  pub tree : TakesAllBack d.shown d.failures d.sure (length copies + files) (told ≡ Tree)
      tree_old tree_new
  pub sink : EndsCopies d.sink.is_open d.sink.failures d.sink.sure (length copies + out)
      (told ≡ Sink) sink_old sink_new

-- the same where what stopped is how the next file, that at some place, was to be begun
abbrev pub StopsBegun : {T S F G : Type 0} → Devices T S F G → AlgSet → List (Copying F G)
    → NotBegun F G → T → T → S → S → WriteFault → Type 0
StopsBegun d set copies fault tree_old tree_new sink_old sink_new told = (i : ℕ)
    → IsBeginFault d.files (work_of (d.shown tree_old) false false) i fault
    → Stops d set copies (λ work. IsBeginFault d.files work i fault)
    (places_of d.files.place copies ++ i ∷ []) (files_with fault) (copies_with fault)
    tree_old tree_new sink_old sink_new told
