use Rattle.std.proofs.Common.{◌≡◌, ◌<◌, ◌+◌, ◌∙◌, Some, None, ℕ, ap, sym, subst, arith, rules, length, take, refl}
use Rattle.bag_rules.proofs.Words.{err_from_is_err_and, FirstStops, IsFileFault, IsLongRead, IsSizeOf, NoneStopsBefore, paths_in, PayloadSize, same_Some, shown_of, Stopped, take-length}
use Rattle.bag_rules.specs.FileBatchInside.{AreRead, next_of}
use Rattle.bag_rules.specs.OctetsRead.{IsBagBy, KeepsListed, KnowsFrom}
use Rattle.bag_rules.proofs.AddsLemmas.{adds_so}
use Rattle.bag_rules.proofs.BatchLemmas.{batch_within}
use Rattle.bag_rules.proofs.FileReadLemmas.{IsFaultBefore, all_faults, all_faults_back, file_faults_more, no_faults}
use Rattle.bag_rules.proofs.LimitLemmas.{none_more, stopped_memory}
use Rattle.bag_rules.proofs.OctetsLemmas.{count_as, extends_on, file_as, knows_later, less_known, own_paths}
use Rattle.bag_rules.proofs.PayloadLemmas.{no_octets, size_by}
use Rattle.bag_rules.proofs.TreeLemmas.{file_at, same_count}
use Rattle.bag_rules.proofs.TreeUses.{uses_kept, uses_on}
use Rattle.bag_rules.proofs.file_faults.read_files.Goals as goal
use Rattle.bag_rules.proofs.file_faults.read_files.Goals.{in-Some, in_default}
use Rattle.bag_digest.proofs.ListLemmas.{stands}

pub loop-i-init : goal.loop-i-init
loop-i-init g c = record {
  size = λ bag is. (no_octets, refl);
  added = λ bag is. no_faults bag c.args.wants.now c.args.faults.now.items;
  none = λ bag is i path octets fault below. absurd (omega (arith, below));
  some = λ known knows listed. (
    known,
    λ i octets is. is,
    knows_later 0 (next_of c.new-batch.result) (omega arith) knows,
    λ bag is. ((no_octets, refl), no_faults bag c.args.wants.now c.args.faults.now.items, c.new-batch.ensures.read (shown_of bag) c.args.wants.now),
  );
  first = omega (arith, c.new-batch.ensures.first.0);
  used = search rules;
  read = c.new-batch.ensures.read (g.T.Paths.shown c.args.tree.now) c.args.wants.now;
  few = omega arith;
  small = omega arith;
  all = c.count-i-end.ensures.files;
  room = refl;
}

pub loop-i-preserved : goal.loop-i-preserved
loop-i-preserved g c =
    let before = c.loop-i.invariant in
    let inside : c.loop-i.i < length (paths_in (g.T.Paths.shown c.args.tree.now)) = omega (arith, before.all, c.loop-i-test.true) in
    let grows : (k : ℕ) → c.in_ok-length.field-0 ≡ Some k → (c.match-branch-3.size.octets ≡ c.loop-i.size.octets + k) × (c.match-branch-3.size.streams ≡ c.loop-i.size.streams + 1) = λ k e. elim c.match-branch-3.branch [
      | in-Some w ↦ (let same : w.in-Some.length ≡ k = same_Some w.in-Some.length k (sym w.in-Some.is ∙ e) in (ap (λ (s : PayloadSize). s.octets) w.size-is ∙ omega (arith, same, w.from.ensures), ap (λ (s : PayloadSize). s.streams) w.size-is))
      | in_default w ↦ absurd (let k : None ≡ Some k = search rules in cc)
    ] in
    let stays : c.in_ok-length.field-0 ≡ None → c.match-branch-3.size ≡ c.loop-i.size = λ e. elim c.match-branch-3.branch [
      | in-Some w ↦ absurd (let k : Some w.in-Some.length ≡ None = sym w.in-Some.is ∙ e in cc)
      | in_default w ↦ w.size-is
    ] in
    let shown = g.T.Paths.shown in
    let wants = c.args.wants.now in
    let moved = c.in_ok-batch.ensures.tree.same in
    let same = moved ∙ before.used.same in
    let read = subst (λ s. AreRead s wants c.in_ok-batch.batch) (sym moved) c.in_ok-batch.ensures.read.0 in
    record {
      size = λ bag is.
          let f = stands bag.files c.loop-i.i (subst (λ n. c.loop-i.i < n) (same_count bag is) inside) in
          let at = file_at bag (same ∙ is) c.loop-i.i f.0.0 f.0.1 f.1 in
          size_by bag.files c.loop-i.i f.0.0 f.0.1 f.1 c.loop-i.size (before.size bag is) c.in_ok-length.field-0 c.match-branch-3.size (c.in_ok-length.ensures (shown c.batch_at.new.tree) refl read f.0.0 f.0.1 at).0 grows stays;
      added = λ bag is.
          let f = stands bag.files c.loop-i.i (subst (λ n. c.loop-i.i < n) (same_count bag is) inside) in
          let at = file_at bag (same ∙ is) c.loop-i.i f.0.0 f.0.1 f.1 in
          file_faults_more bag wants c.loop-i.i f.0.0 f.0.1 _ _ _ f.1 (before.added bag is) (c.in_ok-length.ensures (shown c.batch_at.new.tree) refl read f.0.0 f.0.1 at).1;
      none = λ bag is.
          let f = stands bag.files c.loop-i.i (subst (λ n. c.loop-i.i < n) (same_count bag is) inside) in
          let at = file_at bag (same ∙ is) c.loop-i.i f.0.0 f.0.1 f.1 in
          none_more bag (IsLongRead wants.manifests.now) c.loop-i.i f.0.0 f.0.1 f.1 (λ fault. batch_within (shown c.batch_at.new.tree) wants c.in_ok-batch.batch c.loop-i.i f.0.0 f.0.1 fault read c.in_ok-batch.ensures.read.1 at) (before.none bag is);
      some = λ known knows listed.
          let was = before.some known knows listed in
          let now = before.used.same in
          let kept = c.args.kept.now in
          let on = c.in_ok-batch.ensures.some was.0 before.first
          (subst (λ s. KnowsFrom (next_of c.loop-i.batch) s kept was.0) (sym now) was.2)
          (subst (λ s. KeepsListed s wants.manifests.now kept) (sym now) listed)
          (λ bag is. (was.3 bag (subst (λ s. IsBagBy s was.0 bag) now is)).2) in
          let here = stands (paths_in (shown c.args.tree.now)) c.loop-i.i inside in (
            on.0,
            extends_on known was.0 on.0 was.1 on.1,
            subst (λ s. KnowsFrom (next_of c.in_ok-batch.batch) s kept on.0) now on.2,
            λ bag is.
                let before_here = was.3 bag (less_known on.1 is) in
                let file = file_as bag is.files c.loop-i.i here.0 here.1 in
                let batch_read = on.3 bag (subst (λ s. IsBagBy s on.0 bag) (sym now) is) in
                let reading = c.in_ok-length.ensures (shown_of bag) (own_paths bag is.files ∙ ap paths_in (sym same)) batch_read here.0 file.0
                (file_at {shown = shown_of bag} bag refl c.loop-i.i here.0 file.0 file.1) in (
                  size_by bag.files c.loop-i.i here.0 file.0 file.1 c.loop-i.size before_here.0 c.in_ok-length.field-0 c.match-branch-3.size reading.0 grows stays,
                  file_faults_more bag wants c.loop-i.i here.0 file.0 _ _ _ file.1 before_here.1 reading.1,
                  batch_read,
                ),
          );
      first = omega (arith, c.in_ok-batch.ensures.read.1.0);
      used = uses_kept (uses_on before.used (λ no. no) c.in_ok-batch.ensures.tree) (λ e. cc e) (λ no. no);
      read = subst (λ s. AreRead s wants c.in_ok-batch.batch) same read;
      few = elim c.match-branch-3.branch [ in-Some w ↦ rw w.size-is (omega (arith, before.few)) | in_default w ↦ rw w.size-is (omega (arith, before.few)) ];
      small = elim c.match-branch-3.branch [ in-Some w ↦ rw w.size-is (omega (arith, before.small, w.from.ensures)) | in_default w ↦ rw w.size-is (omega (arith, before.small)) ];
      all = before.all;
      room = search rules;
    }

pub returns-in_err-batch-clause-limits : goal.returns-in_err-batch-clause-limits
returns-in_err-batch-clause-limits g c = λ bag is.
    let before = c.loop-i.invariant in
    let stopped = c.in_err-batch.ensures.limits bag (before.used.same ∙ is) (before.none bag is) in
    let p = err_from_is_err_and c.from_residual.result c.from_residual.ensures.1 in
    rw p.1 (subst (Stopped (FirstStops bag (IsLongRead c.args.wants.now.manifests.now))) (sym p.2) stopped)

pub returns-in_err-length-clause-limits : goal.returns-in_err-length-clause-limits
returns-in_err-length-clause-limits g c = λ bag is.
    let p = err_from_is_err_and c.from_residual-in_err-length.result c.from_residual-in_err-length.ensures.1 in
    rw p.1 (stopped_memory (FirstStops bag (IsLongRead c.args.wants.now.manifests.now)) p.0 p.2)

pub returns-clause-read : goal.returns-clause-read
returns-clause-read g c = λ bag is.
    let wants = c.args.wants.now in
    let end : c.loop-i.i ≡ length bag.files = (let n : c.loop-i.i ≡ length (paths_in (g.T.Paths.shown c.args.tree.now)) = omega (arith, c.loop-i.invariant.all) in n ∙ same_count bag is) in (
      subst (λ fs. IsSizeOf fs c.loop-i.size) (ap (λ k. take k bag.files) end ∙ take-length bag.files) (c.loop-i.invariant.size bag is),
      adds_so _ _ (IsFaultBefore c.loop-i.i bag wants) (IsFileFault bag wants)
          (λ f h. all_faults bag wants f (subst (λ k. IsFaultBefore k bag wants f) end h))
          (λ f h. subst (λ k. IsFaultBefore k bag wants f) (sym end) (all_faults_back bag wants f h))
          (c.loop-i.invariant.added bag is),
    )

pub returns-clause-some : goal.returns-clause-some
returns-clause-some g c = λ known knows listed.
    let wants = c.args.wants.now in
    let some = c.loop-i.invariant.some known knows listed in (
      some.0,
      some.1,
      λ bag is.
          let all = some.3 bag is in
          let end : c.loop-i.i ≡ length bag.files = omega (arith, c.loop-i.invariant.all, count_as bag is.files) in (
            subst (λ fs. IsSizeOf fs c.loop-i.size) (ap (λ k. take k bag.files) end ∙ take-length bag.files) all.0,
            adds_so _ _ (IsFaultBefore c.loop-i.i bag wants) (IsFileFault bag wants)
                (λ f h. all_faults bag wants f (subst (λ k. IsFaultBefore k bag wants f) end h))
                (λ f h. subst (λ k. IsFaultBefore k bag wants f) (sym end) (all_faults_back bag wants f h))
                all.1,
          ),
    )

pub returns-clause-limits : goal.returns-clause-limits
returns-clause-limits g c = λ bag is.
    let n : c.loop-i.i ≡ length (paths_in (g.T.Paths.shown c.args.tree.now)) = omega (arith, c.loop-i.invariant.all) in
    subst (λ k. NoneStopsBefore k bag (IsLongRead c.args.wants.now.manifests.now)) (n ∙ same_count bag is) (c.loop-i.invariant.none bag is)

pub returns-clause-tree : goal.returns-clause-tree
returns-clause-tree g c = uses_kept c.loop-i.invariant.used (λ no. no) (λ e. cc e)
