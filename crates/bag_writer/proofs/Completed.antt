-- What is known once files that are under way were completed, or one of them has stopped.
use Rattle.std.proofs.Common.{◌≡◌, ◌≢◌, ◌∙◌, ◌+◌, ◌<◌, ◌++◌, ℕ, Bool, true, false, List, Option, Some, Result, Ok, Err, ap, arith, drop, length, refl, slice_get, subst, sym, take}
use Rattle.std.specs.Prelude.{get_or}
use Rattle.std.proofs.lemmas.Option.{slice_get_read}
use Rattle.bag_digest.specs.declared.algorithm.AlgSet.{AlgSet}
use Rattle.bag_rules.specs.Returning.{LeavesOut, TakesAllBack}
use Rattle.bag_rules.proofs.Words.{Shown}
use Rattle.bag_writer.specs.Copying.{AreFresh, AreFull, KeepPlaces, Sides, Work}
use Rattle.bag_writer.specs.Finishing.{AreBefore, AreCompleted, AreFilesAt, AreUnderWay, CanEnd, EndsCopies, HasStoppedIn, IsCutAt, places_of}
use Rattle.bag_writer.specs.Pending.{work_of}
use Rattle.bag_writer.specs.Returned.{AreUnfailed, HasStoppedFirst, IsStoppedAt, IsToldOf, LeavesCopies, TakesCopiesBack}
use Rattle.bag_writer.specs.SideBySide.{Completes, Devices, Finishes, Stops}
use Rattle.bag_writer.specs.Sinks.{Stored}
use Rattle.bag_writer.specs.declared.copying.Copying.{Copying}
use Rattle.bag_writer.specs.declared.copying.CopyStop.{CopyStop}
use Rattle.bag_writer.specs.declared.items.Items.{Items}
use Rattle.bag_writer.specs.declared.sink.Sink.{Ghosts as SinkOf}
use Rattle.bag_writer.specs.declared.write_fault.WriteFault.{WriteFault}
use Rattle.bag_writer.specs.declared.write_fault.WriteFault.TheVariants.{Sink, Tree}
use Rattle.bag_writer.proofs.Batches.{ends_so}
use Rattle.bag_writer.proofs.Completing.{zip_places}
use Rattle.bag_writer.proofs.Cutting.{before_kept, ends_back, places_same_of, stopped_first, stopped_told}
use Rattle.bag_writer.proofs.FilesOut.{sink_back}
use Rattle.bag_writer.proofs.SinkKept.{same_told}
use Rattle.bag_digest.proofs.ListLemmas.{stands, refilled}
use Rattle.bag_rules.proofs.ReturningLemmas.{back_on, back_so}

-- THE FILES, whose slice was changed in place: what is read of their vector then
abbrev pub put : {X : Type 0} → ℕ → List X → List X → List X
put n xs zs = take n (zs ++ drop (length zs) xs)

module _ {F G : Type 0} {s : Sides F G} {shown : Shown} {set : AlgSet} {xs ws : List (Copying F G)} (begun : AreUnderWay s shown set xs) (slice : ws ≡ xs) where
  there : (work : Work) → AreFresh s work set 0 (length xs) xs → AreFresh s work set 0 (length ws) ws
  there work fresh = subst (λ ls. AreFresh s work set 0 (length ls) ls) (sym slice) fresh

  pub can_complete : AreFull 0 (length ws) ws × (work : Work) × AreFresh s work set 0 (length ws) ws
  can_complete = (subst (λ ls. AreFull 0 (length ls) ls) (sym slice) begun.full, work_of shown false false, there (work_of shown false false) begun.fresh)

  module _ {S : Type 0} {of : SinkOf S} {zs : List (Copying F G)} {before after : S} {n : ℕ} (count_is : n ≡ length xs) where
    module _ {r : Result (Unit {0}) CopyStop} (completes : Completes s of set ws zs before after r) where
      pub keep : KeepPlaces s.place s.copy_place xs zs
      keep = subst (λ ls. KeepPlaces s.place s.copy_place ls zs) slice completes.places

      pub all_back : put n xs zs ≡ zs
      all_back = refilled n xs zs count_is keep.count

      pub count : length (put n xs zs) ≡ length xs
      count = ap length all_back ∙ keep.count

      pub ends : {Failed : Type 0} (m : ℕ) {last : S} → TakesCopiesBack of.stored of.is_open of.failures of.sure m Failed after last → EndsCopies of.is_open of.failures of.sure m Failed before last
      ends m back = ends_back m completes.counted completes.as_open completes.stays_sure back

    -- ALL WERE COMPLETED

    module _ {done : Unit {0}} (all : Completes s of set ws zs before after (Ok done)) where
      pub completed : AreCompleted s shown set zs (of.stored before) (of.stored after)
      completed = all.written (work_of shown false false) (there (work_of shown false false) begun.fresh)

      pub unfailed : AreUnfailed s.failures s.copy_failures (put n xs zs)
      unfailed k each at = completed.unfailed k each (subst (λ ls. slice_get ls k ≡ Some each) (all_back all) at)

      pub are : AreFilesAt shown (places_of s.place xs) completed.files
      are = subst (λ places. AreFilesAt shown places completed.files) (places_same_of s shown xs zs (keep all)) (zip_places s (work_of shown false false) set zs completed.files completed.taken)

    -- ONE HAS STOPPED

    module _ {stop : CopyStop} (part : Completes s of set ws zs before after (Err stop)) where
      pub stopped : HasStoppedIn s shown zs (of.stored before) (of.stored after) stop
      stopped = part.written (work_of shown false false) (there (work_of shown false false) begun.fresh)

      pub inside : stop.place < n
      inside = let low = stopped.inside in let same = (keep part).count in omega (arith, low, same, count_is)

      pub first : {now : Shown} → now ≡ shown → HasStoppedFirst s.place s.failures s.copy_place s.copy_failures now (put n xs zs) stop
      first {now} same = subst (λ ls. HasStoppedFirst s.place s.failures s.copy_place s.copy_failures now ls stop) (sym (all_back part))
          (subst (λ sh. HasStoppedFirst s.place s.failures s.copy_place s.copy_failures sh zs stop) (sym same) (stopped_first s shown xs zs (keep part) (of.stored before) (of.stored after) stop begun.by_place stopped))

      -- it is at its place
      module _ (here : Copying F G) (is : here ≡ get_or (put n xs zs) stop.place here) where
        here_at : slice_get zs stop.place ≡ Some here
        here_at = subst (λ ls. slice_get ls stop.place ≡ Some here) (all_back part)
            (slice_get_read (put n xs zs) (length (put n xs zs)) stop.place here refl (let low = inside in let all = count part in omega (arith, low, all, count_is)) is)

        pub has_stopped : IsStoppedAt s.place s.failures s.copy_place s.copy_failures shown stop.fault here
        has_stopped = (stopped.here here here_at).0

        pub is_before : (i : ℕ) → AreBefore s.place xs i → s.place here.source < i
        is_before i others = before_kept s shown xs zs (keep part) i others stop.place here here_at

      -- how it is told
      module _ {told : WriteFault} {now : Shown} (same : now ≡ shown) (tells : (each : Copying F G) → slice_get (put n xs zs) stop.place ≡ Some each → IsToldOf now (s.place each.source) stop.fault told) where
        tells_of : (each : Copying F G) → slice_get zs stop.place ≡ Some each → IsToldOf shown (s.place each.source) stop.fault told
        tells_of each at = subst (λ sh. IsToldOf sh (s.place each.source) stop.fault told) same (tells each (subst (λ ls. slice_get ls stop.place ≡ Some each) (sym (all_back part)) at))

        pub cut : IsCutAt shown (places_of s.place xs) (of.stored before) (of.stored after) told
        cut = stopped_told s shown xs zs (keep part) (of.stored before) (of.stored after) stop told stopped tells_of

        pub truly : (tree_sure sink_sure : Bool) → AreFresh s (work_of shown tree_sure sink_sure) set 0 (length xs) xs
            → (tree_sure ≡ true → told ≢ Tree) × (sink_sure ≡ true → CanEnd (of.sure before) (of.is_open before) (of.stored before) shown (places_of s.place xs) → told ≢ Sink)
        truly tree_sure sink_sure fresh =
            let one = stands zs stop.place stopped.inside in
            let is = tells_of one.0 one.1 in
            let calm = part.calm (work_of shown tree_sure sink_sure) (there (work_of shown tree_sure sink_sure) fresh) in (
              λ e failed. calm.0 e (is.tree.0 failed),
              λ e can failed. calm.1 e (subst (λ ls. CanEnd (of.sure before) (of.is_open before) (of.stored before) shown (places_of s.place ls)) (sym slice) can) (is.sink.0 failed),
            )

-- The files behind the one that stopped were taken back, and what came with the next one.
module _ {T S F G : Type 0} (d : Devices T S F G) {set : AlgSet} {xs ws zs : List (Copying F G)} {t0 t1 t2 : T} {before after mid end : S} {n : ℕ} {stop : CopyStop} {told : WriteFault} where
  pub stops_first : (begun : AreUnderWay d.files (d.shown t0) set xs) (slice : ws ≡ xs) (count_is : n ≡ length xs) (part : Completes d.files d.sink set ws zs before after (Err stop)) (files out : ℕ)
      → LeavesOut d.shown d.failures d.sure (length xs + files) (length xs) t0 t1 → LeavesCopies d.sink.stored d.sink.is_open d.sink.failures d.sink.sure (length xs + out) (length xs) after mid
      → ((each : Copying F G) → slice_get (put n xs zs) stop.place ≡ Some each → IsToldOf (d.shown t1) (d.files.place each.source) stop.fault told)
      → TakesAllBack d.shown d.failures d.sure (length (put n xs zs)) (told ≡ Tree) t1 t2 → TakesCopiesBack d.sink.stored d.sink.is_open d.sink.failures d.sink.sure (length (put n xs zs)) (told ≡ Sink) mid end
      → {Next : Work → Type 0} {places : List ℕ} → ((new : Option Stored) → IsCutAt (d.shown t0) (places_of d.files.place xs) (d.sink.stored before) new told → IsCutAt (d.shown t0) places (d.sink.stored before) new told)
      → Stops d set xs Next places files out t0 t2 before end told
  stops_first begun slice count_is part files out gave gave_out tells back copies_back cuts = record {
    written = cuts (d.sink.stored end) (subst (λ new. IsCutAt (d.shown t0) (places_of d.files.place xs) (d.sink.stored before) new told) (sym (copies_back.held ∙ gave_out.held)) (cut begun slice count_is part gave.kept.same tells));
    calm = λ tree_sure sink_sure fresh too. truly begun slice count_is part gave.kept.same tells tree_sure sink_sure fresh;
    tree = back_on _ (length xs) gave (subst (λ m. TakesAllBack d.shown d.failures d.sure m (told ≡ Tree) t1 t2) (count begun slice count_is part) back);
    sink = ends begun slice count_is part (length xs + out) (sink_back (length xs + out) (length xs) gave_out
        (subst (λ m. TakesCopiesBack d.sink.stored d.sink.is_open d.sink.failures d.sink.sure m (told ≡ Sink) mid end) (count begun slice count_is part) copies_back));
  }

-- the same where more is known of the next one, or other places are told of
module _ {T S F G : Type 0} (d : Devices T S F G) {set : AlgSet} {xs : List (Copying F G)} {t0 t2 : T} {before end : S} {told : WriteFault} where
  pub stops_so : {Next Other : Work → Type 0} {places others : List ℕ} {files out : ℕ} → ((work : Work) → Other work → Next work) → (IsCutAt (d.shown t0) places (d.sink.stored before) (d.sink.stored end) told → IsCutAt (d.shown t0) others (d.sink.stored before) (d.sink.stored end) told)
      → Stops d set xs Next places files out t0 t2 before end told → Stops d set xs Other others files out t0 t2 before end told
  stops_so so cuts stops = record {
    written = cuts stops.written;
    calm = λ tree_sure sink_sure fresh too. stops.calm tree_sure sink_sure fresh (so _ too);
    tree = stops.tree;
    sink = stops.sink;
  }

  -- the same where there is no next one
  pub finishes : {items : Items} → Stops d set xs (λ work. Unit {0}) (places_of d.files.place xs) 0 0 t0 t2 before end told → Finishes d set xs items t0 t2 before end (Err told)
  finishes stops =
      let none : length xs + 0 ≡ length xs = omega arith in
      record {
        written = stops.written;
        calm = λ tree_sure sink_sure fresh too. (let calm = stops.calm tree_sure sink_sure fresh too in (λ e failed. calm.0 e (same_told failed), λ e can failed. calm.1 e can (same_told failed)));
        tree = back_so (length xs) (subst (λ m. TakesAllBack d.shown d.failures d.sure m (told ≡ Tree) t0 t2) none stops.tree) (λ e. ap Err e) (λ e. same_told e);
        sink = ends_so (length xs) (subst (λ m. EndsCopies d.sink.is_open d.sink.failures d.sink.sure m (told ≡ Sink) before end) none stops.sink) (λ e. ap Err e) (λ e. same_told e);
      }
