use Rattle.std.proofs.Common.{◌≡◌, ◌+◌, ◌<◌, ◌∙◌, ℕ, Err, IsErrOf, Some, Vec, ap, arith, length, refl, rules, slice_get, subst, sym}
use Rattle.std.specs.declared.alloc.Global.{Global}
use Rattle.bag_digest.specs.declared.streams.Stream.{Stream}
use Rattle.bag_rules.specs.FileBatchInside.{AreRead, next_of}
use Rattle.bag_rules.specs.BatchReading.{AddsNone, AreGathered, AreOpen, AreReady, IfStopped, IsFrontFault, IsReadAt, files_with}
use Rattle.bag_rules.specs.KeptInside.{AreKept}
use Rattle.bag_rules.specs.OctetsRead.{AreKnown, IsBagBy, KeepsListed, KnowsFrom}
use Rattle.bag_rules.specs.Returning.{IsStopped, LeavesOut, TakesAllBack}
use Rattle.bag_rules.specs.declared.batch_reading.BatchReading.{BatchReading}
use Rattle.bag_rules.proofs.GatheringLemmas.{none_gathered, none_open, none_ready}
use Rattle.bag_rules.proofs.KnownFiles.{none_known}
use Rattle.bag_rules.proofs.OctetsLemmas.{extends_on}
use Rattle.bag_rules.proofs.ReturningLemmas.{back_none, back_on, back_so, keeps_same, leaves_on, leaves_same, used_by}
use Rattle.bag_rules.proofs.Words.{CheckFault, IfOk-weaker, IsLongRead, NoneStopsBefore, paths_in, Shown, UsesTree}
use Rattle.bag_rules.proofs.file_batch.read_batch.Goals as goal

-- all files that were out were taken back, and none has failed
closed : {T : Type 0} {shown : T → Shown} {failures : T → ℕ} {sure : T → Type 0} {F : Type 0} {a b c d : T} (m n k : ℕ) → LeavesOut shown failures sure 0 m a b → LeavesOut shown failures sure m n b c
    → LeavesOut shown failures sure k 0 c d → n ≡ k → ¬ F → UsesTree shown failures sure a d F
closed {T} {shown} {failures} {sure} {F} {a} {b} {c} {d} m n k p q r same not =
    used_by (back_none 0 (leaves_on 0 m 0 p (leaves_on m n 0 q (subst (λ i. LeavesOut shown failures sure i 0 c d) (sym same) r))) not) (λ s. not)

-- all files that were out were taken back, and what is told says whether one has failed
told_back : {T : Type 0} {shown : T → Shown} {failures : T → ℕ} {sure : T → Type 0} {F G : Type 0} {a b c d : T} (m n k : ℕ) → LeavesOut shown failures sure 0 m a b → LeavesOut shown failures sure m n b c
    → TakesAllBack shown failures sure k F c d → n ≡ k → (F → G) → (G → F) → (sure a → ¬ F) → UsesTree shown failures sure a d G
told_back {T} {shown} {failures} {sure} {F} {G} {a} {b} {c} {d} m n k p q r same there back not =
    used_by (back_so 0 (back_on 0 n (leaves_on 0 m n p q) (subst (λ i. TakesAllBack shown failures sure i F c d) (sym same) r)) there back) (λ s h. not s (back h))

same_told : {A : Type 0} {x y : CheckFault} → IsErrOf {T = A} (Err x) y → x ≡ y
same_told e = cc

pub files-init : goal.files-init
files-init g c =
    let file = g.T.File in
    let streams = c.new-gathered.ensures.streams in
    let batch = c.new-gathered.ensures.batch in
    record {
      first = batch.0;
      next = omega (arith, batch.0, ap length batch.1);
      are_open = none_open file.OpenFile.place file.Source.remaining file.Source.failures _ c.new-gathered.result streams;
      ready = λ sure. none_ready file.Source.ready c.new-gathered.result.streams.items streams;
      gathered = none_gathered file.OpenFile.place file.Source.remaining _ c.args.wants.now c.new-gathered.result batch.1 streams;
      known = λ known knows listed. (
        known,
        λ i octets is. is,
        none_known file.OpenFile.place (g.T.Paths.shown c.args.tree.now) c.args.kept.now c.args.wants.now known c.new-gathered.result batch.1 streams
            (subst (λ n. KnowsFrom n (g.T.Paths.shown c.args.tree.now) c.args.kept.now known) (sym batch.0) knows),
      );
      count = c.count-count.ensures.files;
      inside = c.requires.inside;
      out = subst (λ n. LeavesOut g.T.Paths.shown g.T.Source.failures g.T.Tree.sure 0 n c.args.tree.now c.args.tree.now) (sym (ap length streams)) (leaves_same 0 keeps_same refl);
      room = refl;
    }

pub read_next-requires : goal.read_next-requires
read_next-requires g c =
    let inv = c.files.invariant in
    let file = g.T.File in
    let same = inv.out.kept.same in
    record {
      can_read = record {
        room = inv.room ∙ c.requires.room;
        inside = subst (λ s. c.files.place < length (paths_in s)) (sym same) inv.inside;
        are_kept = subst (λ s. AreKept s c.args.kept.now) (sym same) c.requires.are_kept;
      };
      streams = (subst (λ s. AreOpen file.OpenFile.place file.Source.remaining file.Source.failures s c.files.gathered) (sym same) inv.are_open, inv.next);
    }

pub files-preserved : goal.files-preserved
files-preserved g c =
    let inv = c.files.invariant in
    let file = g.T.File in
    let same = inv.out.kept.same in
    let wants = c.args.wants.now in
    let done = c.in-Ok.ensures in
    let next = c.read_next.new.gathered in
    record {
      first = done.added.first ∙ inv.first;
      next = omega (arith, done.added.next, inv.next);
      are_open = subst (λ s. AreOpen file.OpenFile.place file.Source.remaining file.Source.failures s next) same done.added.are_open;
      ready = λ sure. done.added.are_ready (inv.out.kept.stays_sure sure) (inv.ready sure);
      gathered = subst (λ s. AreGathered file.OpenFile.place file.Source.remaining s wants next) same
          (done.added.gathered (subst (λ s. AreGathered file.OpenFile.place file.Source.remaining s wants c.files.gathered) (sym same) inv.gathered));
      known = λ known knows listed.
          let was = inv.known known knows listed in
          let on = done.some was.0 (subst (λ s. AreKnown file.OpenFile.place s c.args.kept.now wants was.0 c.files.gathered) (sym same) was.2) (subst (λ s. KeepsListed s wants.manifests.now c.args.kept.now) (sym same) listed) in
          (on.0, extends_on known was.0 on.0 was.1 on.1, subst (λ s. AreKnown file.OpenFile.place s c.args.kept.now wants on.0 next) same on.2);
      count = inv.count;
      inside = omega (arith, inv.inside, inv.count, c.if-place-count.false);
      out = leaves_on 0 (length c.files.gathered.streams.items) (length next.streams.items) inv.out done.tree;
      room = search rules;
    }

pub close_all-requires : goal.close_all-requires
close_all-requires g c = λ k stream at.
    let none : c.read_next.new.gathered.streams.items ≡ c.files.gathered.streams.items = subst (AddsNone c.files.gathered c.read_next.new.gathered) c.in-Err-Memory.field-0-is c.in-Err-Memory.ensures.stopped.0 in
    let there : slice_get c.files.gathered.streams.items k ≡ Some stream = ap (λ streams. slice_get streams k) (sym none) ∙ ap (λ (streams : Vec (Stream _) Global). slice_get streams.items k) (sym c.into_streams.ensures) ∙ at in
    (c.files.invariant.are_open.each k stream there).unfailed

pub returns-in-Err-Memory-clause-tree : goal.returns-in-Err-Memory-clause-tree
returns-in-Err-Memory-clause-tree g c =
    let many = length c.files.gathered.streams.items in
    let none : c.read_next.new.gathered.streams.items ≡ c.files.gathered.streams.items = subst (AddsNone c.files.gathered c.read_next.new.gathered) c.in-Err-Memory.field-0-is c.in-Err-Memory.ensures.stopped.0 in
    let zero : files_with c.in-Err-Memory.field-0 ≡ 0 = ap files_with c.in-Err-Memory.field-0-is in
    let count : length c.into_streams.result.items ≡ many = ap (λ (streams : Vec (Stream _) Global). length streams.items) c.into_streams.ensures ∙ ap length none in
    closed many (many + files_with c.in-Err-Memory.field-0) (0 + length c.into_streams.result.items) c.files.invariant.out c.in-Err-Memory.ensures.tree (c.close_all.ensures 0) (omega (arith, zero, count)) (λ e. cc e)

pub stop-requires : goal.stop-requires
stop-requires g c =
    let inv = c.files.invariant in
    let file = g.T.File in
    let bad = c.in-Err-Stopped in
    let new = c.read_next.new.gathered in
    let none : new ≡ c.files.gathered = subst (AddsNone c.files.gathered new) bad.field-0-is bad.ensures.stopped.0 in
    let front = subst (IsFrontFault file.OpenFile.place file.Source.failures (g.T.Paths.shown c.files.tree) (g.T.Tree.sure c.files.tree) c.files.place) bad.field-0-is bad.ensures.stopped.1 in
    let moved = bad.ensures.tree.kept.same in
    record {
      streams = (
        subst (λ s. AreOpen file.OpenFile.place file.Source.remaining file.Source.failures s new) (sym (moved ∙ inv.out.kept.same))
            (subst (AreOpen file.OpenFile.place file.Source.remaining file.Source.failures (g.T.Paths.shown c.args.tree.now)) (sym none) inv.are_open),
        rw bad.field-0-is (front.0 ∙ inv.next ∙ ap (λ (gathered : BatchReading _). next_of gathered.batch) (sym none)),
      );
      stopped = rw bad.field-0-is (subst (λ s. IsStopped file.OpenFile.place file.Source.failures s bad.fault bad.file) (sym moved) front.1);
    }

pub returns-in-Err-Stopped-clause-limits : goal.returns-in-Err-Stopped-clause-limits
returns-in-Err-Stopped-clause-limits g c = λ bag is none_stops.
    let inv = c.files.invariant in
    let file = g.T.File in
    let wants = c.args.wants.now in
    let bad = c.in-Err-Stopped in
    let new = c.read_next.new.gathered in
    let none : new ≡ c.files.gathered = subst (AddsNone c.files.gathered new) bad.field-0-is bad.ensures.stopped.0 in
    let front = subst (IsFrontFault file.OpenFile.place file.Source.failures (g.T.Paths.shown c.files.tree) (g.T.Tree.sure c.files.tree) c.files.place) bad.field-0-is bad.ensures.stopped.1 in
    let read : IsReadAt (g.T.Paths.shown c.files.tree) wants c.files.place = subst (λ f. IfStopped f (IsReadAt (g.T.Paths.shown c.files.tree) wants c.files.place)) bad.field-0-is bad.ensures.stopped.2 in
    let moved = bad.ensures.tree.kept.same in
    let all = moved ∙ inv.out.kept.same in
    let first : new.batch.first ≡ c.args.first = ap (λ (gathered : BatchReading _). gathered.batch.first) none ∙ inv.first in
    let here : IsReadAt (g.T.Paths.shown c.read_next.new.tree) wants (file.OpenFile.place bad.file) =
    subst (λ s. IsReadAt s wants (file.OpenFile.place bad.file)) (sym moved) (subst (IsReadAt (g.T.Paths.shown c.files.tree) wants) (sym front.0) read) in
    c.stop.ensures.limits wants
    (subst (λ s. AreGathered file.OpenFile.place file.Source.remaining s wants new) (sym all) (subst (AreGathered file.OpenFile.place file.Source.remaining (g.T.Paths.shown c.args.tree.now) wants) (sym none) inv.gathered))
    (rw bad.field-0-is here) bag (all ∙ is) (subst (λ n. NoneStopsBefore n bag (IsLongRead wants.manifests.now)) (sym first) none_stops)

pub returns-in-Err-Stopped-clause-tree : goal.returns-in-Err-Stopped-clause-tree
returns-in-Err-Stopped-clause-tree g c =
    let inv = c.files.invariant in
    let file = g.T.File in
    let bad = c.in-Err-Stopped in
    let new = c.read_next.new.gathered in
    let many = length c.files.gathered.streams.items in
    let none : new ≡ c.files.gathered = subst (AddsNone c.files.gathered new) bad.field-0-is bad.ensures.stopped.0 in
    let front = subst (IsFrontFault file.OpenFile.place file.Source.failures (g.T.Paths.shown c.files.tree) (g.T.Tree.sure c.files.tree) c.files.place) bad.field-0-is bad.ensures.stopped.1 in
    let one : files_with bad.field-0 ≡ 1 = ap files_with bad.field-0-is in
    let count : length new.streams.items ≡ many = ap (λ (gathered : BatchReading _). length gathered.streams.items) none in
    told_back many (many + files_with bad.field-0) (length new.streams.items + 1) inv.out bad.ensures.tree c.stop.ensures.tree (omega (arith, one, count)) (λ e. ap Err e) same_told
    (λ sure. c.stop.ensures.ready (subst (λ (gathered : BatchReading _). AreReady file.Source.ready gathered.streams.items) (sym none) (inv.ready sure)) (rw bad.field-0-is (front.2 (inv.out.kept.stays_sure sure))))

pub returns-then-place-count-clause-read : goal.returns-then-place-count-clause-read
returns-then-place-count-clause-read g c =
    let inv = c.files.invariant in
    let file = g.T.File in
    let wants = c.args.wants.now in
    let done = c.in-Ok.ensures in
    let next = c.read_next.new.gathered in
    let moved = done.tree.kept.same in
    let gathered = subst (λ s. AreGathered file.OpenFile.place file.Source.remaining s wants next) (sym moved)
    (done.added.gathered (subst (λ s. AreGathered file.OpenFile.place file.Source.remaining s wants c.files.gathered) (sym inv.out.kept.same) inv.gathered)) in
    IfOk-weaker c.finish.result _ _ (λ batch read. (
      subst (λ s. AreRead s wants batch) (moved ∙ inv.out.kept.same) read.0,
      (
        omega (arith, read.1, done.added.first, inv.first),
        omega (arith, read.1, ap (λ (files : Vec _ Global). length files.items) read.2, done.added.first, done.added.next, inv.first, inv.next),
      ),
    ))
    (c.finish.ensures.read wants gathered)

pub returns-then-place-count-clause-some : goal.returns-then-place-count-clause-some
returns-then-place-count-clause-some g c = λ known knows listed.
    let inv = c.files.invariant in
    let file = g.T.File in
    let wants = c.args.wants.now in
    let kept = c.args.kept.now in
    let done = c.in-Ok.ensures in
    let next = c.read_next.new.gathered in
    let same = inv.out.kept.same in
    let moved = done.tree.kept.same in
    let all = moved ∙ same in
    let was = inv.known known knows listed in
    let on = done.some was.0 (subst (λ s. AreKnown file.OpenFile.place s kept wants was.0 c.files.gathered) (sym same) was.2) (subst (λ s. KeepsListed s wants.manifests.now kept) (sym same) listed) in
    IfOk-weaker c.finish.result _ _ (λ batch some. (
      some.0,
      extends_on known on.0 some.0 (extends_on known was.0 on.0 was.1 on.1) some.1,
      subst (λ s. KnowsFrom (next_of batch) s kept some.0) all some.2,
      λ bag is. some.3 bag (subst (λ s. IsBagBy s some.0 bag) (sym all) is),
    ))
    (c.finish.ensures.some kept wants on.0 (subst (λ s. AreKnown file.OpenFile.place s kept wants on.0 next) (sym moved) on.2))

pub returns-then-place-count-clause-limits : goal.returns-then-place-count-clause-limits
returns-then-place-count-clause-limits g c = λ bag is none_stops.
    let inv = c.files.invariant in
    let file = g.T.File in
    let wants = c.args.wants.now in
    let done = c.in-Ok.ensures in
    let next = c.read_next.new.gathered in
    let moved = done.tree.kept.same in
    let gathered = subst (λ s. AreGathered file.OpenFile.place file.Source.remaining s wants next) (sym moved)
    (done.added.gathered (subst (λ s. AreGathered file.OpenFile.place file.Source.remaining s wants c.files.gathered) (sym inv.out.kept.same) inv.gathered)) in
    let first : next.batch.first ≡ c.args.first = done.added.first ∙ inv.first in
    c.finish.ensures.limits wants gathered bag (moved ∙ inv.out.kept.same ∙ is) (subst (λ n. NoneStopsBefore n bag (IsLongRead wants.manifests.now)) (sym first) none_stops)

pub returns-then-place-count-clause-tree : goal.returns-then-place-count-clause-tree
returns-then-place-count-clause-tree g c =
    let inv = c.files.invariant in
    let done = c.in-Ok.ensures in
    let many = length c.read_next.new.gathered.streams.items in
    told_back (length c.files.gathered.streams.items) many many inv.out done.tree c.finish.ensures.tree refl (λ e. e) (λ e. e)
    (λ sure. c.finish.ensures.ready (done.added.are_ready (inv.out.kept.stays_sure sure) (inv.ready sure)))
