-- What is known while files are written side by side, and what follows where that ends.
use Rattle.std.proofs.Common.{◌≡◌, ◌∙◌, ◌+◌, ◌<◌, ◌≤◌, ◌++◌, ◌∷◌, [], ℕ, Bool, false, true, List, Some, Result, Ok, Err, ap, length, refl, slice_get, subst, sym}
use Rattle.std.specs.Prelude.{IfErr, IfOk, OnOk, Vec}
use Rattle.std.specs.declared.alloc.Global.{Global}
use Rattle.bag_rules.specs.Returning.{LeavesOut}
use Rattle.bag_rules.proofs.Words.{AreRising, Files, is_payload, paths_in, payload_of}
use Rattle.bag_writer.specs.Copying.{AreFresh}
use Rattle.bag_writer.specs.Finishing.{AreBefore, AreFinished, AreUnderWay, CanEnd, IsCutAt, places_of}
use Rattle.bag_writer.specs.HeldFiles.{AreItemsSoFar}
use Rattle.bag_writer.specs.Pending.{AddsCopy, CanBegin, IsBeginFault, copies_with, files_with, work_of}
use Rattle.bag_writer.specs.PayloadSteps.{WritesPayload}
use Rattle.bag_writer.specs.Returned.{LeavesCopies}
use Rattle.bag_writer.specs.SideBySide.{BeginsNext, Devices, Finishes, Stops, StopsBegun}
use Rattle.bag_writer.specs.Steps.{AreItemsOf, HasNoFile}
use Rattle.bag_writer.specs.Writing.{payload_paths}
use Rattle.bag_writer.specs.declared.copying.Copying.{Copying}
use Rattle.bag_writer.specs.declared.item.Item.{Item}
use Rattle.bag_writer.specs.declared.items.Items.{Items}
use Rattle.bag_writer.specs.declared.payload_beside.NotBegun.{NotBegun}
use Rattle.bag_writer.specs.declared.spec.Spec.{Spec}
use Rattle.bag_writer.specs.declared.write_fault.WriteFault.{WriteFault}
use Rattle.bag_writer.specs.declared.write_fault.WriteFault.TheVariants.{Memory}
use Rattle.bag_writer.proofs.Batches.{HasOut, InHand, adds_count, copies_ends, ends_so, hand_before, hand_can_begin, hand_can_end, hand_cut, hand_cut_next, hand_finished, hand_next, hand_passed, hand_settled, hand_some, hand_under_way, none_left, none_more, out_on, sink_used, tree_used}
use Rattle.bag_writer.proofs.FilesOut.{sink_same, tree_same}
use Rattle.bag_writer.proofs.PayloadLists.{ShownFile}
use Rattle.bag_writer.proofs.PayloadSoFar.{all_finished, none_at, shown_at}
use Rattle.bag_writer.proofs.SinkKept.{err_again, met_memory, not_sink, not_tree, same_told}
use Rattle.bag_rules.proofs.ReturningLemmas.{back_on, back_none, leaves_on, back_so}

not_ever : {A : Type 0} → (false ≡ true) → A
not_ever e = let k : false ≡ true = e in cc

on_ok : {X P : Type 0} (r : Result X WriteFault) → P → OnOk r P
on_ok (Ok x) is = is
on_ok (Err fault) is = tt

-- a sink is sure, and nothing was begun or written yet
abbrev pub Calm : {T S F G : Type 0} → Devices T S F G → S → Type 0
Calm d start = d.sink.sure start × (d.sink.is_open start ≡ false) × HasNoFile (d.sink.stored start)

-- The files of a tree were gone through up to this place: these copies are under way, and they and their files are out.
pub record IsAt {T S F G : Type 0} (d : Devices T S F G) (spec : Spec) (first tree : T) (start sink : S) (i : ℕ) (items : Items) (copies : List (Copying F G)) : Type 0 where
  pub hand : InHand d.files spec (d.shown first) (d.sure first) (Calm d start) (d.sink.stored start) (d.sink.stored sink) i items copies
  pub out : LeavesOut d.shown d.failures d.sure 0 (length copies) first tree
  pub copies_out : HasOut d.sink.is_open d.sink.failures d.sink.sure (length copies) start sink
  pub unread : payload_paths (d.shown first) ≡ [] → tree ≡ first

module _ {T S F G : Type 0} {d : Devices T S F G} {spec : Spec} {first tree : T} {start sink : S} {i : ℕ} {items : Items} {copies : List (Copying F G)} (at : IsAt d spec first tree start sink i items copies) where
  pub under_way : AreUnderWay d.files (d.shown tree) spec.algs copies
  under_way = subst (λ sh. AreUnderWay d.files sh spec.algs copies) (sym at.out.kept.same) (hand_under_way d.files spec (d.shown first) (d.sure first) (Calm d start) (d.sink.stored start) (d.sink.stored sink) i items copies at.hand)

  -- the file at this place
  pub file_here : (b : Bool) (path : List ℕ) → slice_get (paths_in (d.shown tree)) i ≡ Some path → is_payload path ≡ b → (file : ShownFile) × (slice_get (d.shown first).files i ≡ Some file) × (is_payload file.0 ≡ b)
  file_here b path there is =
      let place = shown_at (d.shown first) (d.shown tree) at.out.kept.same i path there in
      (place.0, place.1.0, ap is_payload place.1.1 ∙ is)

  pub is_read : (file : ShownFile) × (slice_get (d.shown first).files i ≡ Some file) × (is_payload file.0 ≡ true) → payload_paths (d.shown first) ≡ [] → ⊥
  is_read here none = none_at (d.shown first).files i here.0 here.1 here.2 none

  pub passed : (file : ShownFile) × (slice_get (d.shown first).files i ≡ Some file) × (is_payload file.0 ≡ false) → IsAt d spec first tree start sink (i + 1) items copies
  passed here = record {
    hand = hand_passed d.files spec (d.shown first) (d.sure first) (Calm d start) (d.sink.stored start) (d.sink.stored sink) i items copies at.hand here.0 here.1 here.2;
    out = at.out;
    copies_out = at.copies_out;
    unread = at.unread;
  }

  can_begin : AreRising (paths_in (d.shown first)) → Calm d start → CanBegin (d.sink.sure sink) (d.sink.is_open sink) (d.sink.stored sink) (d.shown tree) i
  can_begin rising calm = subst (λ sh. CanBegin (d.sink.sure sink) (d.sink.is_open sink) (d.sink.stored sink) sh i) (sym at.out.kept.same)
      (hand_can_begin d.files spec (d.shown first) (d.sure first) (Calm d start) (d.sink.stored start) (d.sink.stored sink) i items copies at.hand rising calm.2 (d.sink.sure sink) (d.sink.is_open sink) (at.copies_out.stays_sure calm.0) (at.copies_out.as_open ∙ calm.1))

  module _ (rising : AreRising (paths_in (d.shown first))) {more : List (Copying F G)} {tree_new : T} {sink_new : S} where
    -- THE NEXT FILE WAS BEGUN
    pub begun : {done : Unit {0}} → BeginsNext d i copies more tree tree_new sink sink_new (Ok done) → (file : ShownFile) × (slice_get (d.shown first).files i ≡ Some file) × (is_payload file.0 ≡ true) → IsAt d spec first tree_new start sink_new (i + 1) items more
    begun begins here =
        let shown = d.shown first in
        let adds = λ (ts ss : Bool) (a : ts ≡ true → d.sure first) (b : ss ≡ true → Calm d start).
        subst (λ sh. AddsCopy d.files (work_of sh ts ss) i copies more) at.out.kept.same (begins.begun ts ss (λ t. at.out.kept.stays_sure (a t)) (λ t. can_begin rising (b t))) in
        let one = sym (adds_count d.files (work_of shown false false) i copies more (adds false false (λ f. not_ever f) (λ f. not_ever f))) in
        let n = length copies in
        record {
          hand = subst (λ st. InHand d.files spec shown (d.sure first) (Calm d start) (d.sink.stored start) st (i + 1) items more) (sym (begins.sink 0).held)
              (hand_next d.files spec shown (d.sure first) (Calm d start) (d.sink.stored start) (d.sink.stored sink) i items copies at.hand here.0 here.1 here.2 more adds);
          out = leaves_on 0 n (length more) at.out (subst (λ m. LeavesOut d.shown d.failures d.sure n m tree tree_new) one (begins.tree n));
          copies_out = out_on n (length more) at.copies_out (subst (λ m. LeavesCopies d.sink.stored d.sink.is_open d.sink.failures d.sink.sure n m sink sink_new) one (begins.sink n));
          unread = λ none. absurd (is_read here none);
        }

    -- IT WASN'T BEGUN
    module _ {fault : NotBegun F G} (begins : BeginsNext d i copies more tree tree_new sink sink_new (Err fault)) where
      moved : d.shown tree_new ≡ d.shown first
      moved = (begins.tree 0).kept.same ∙ at.out.kept.same

      fault_is : (ts ss : Bool) → (ts ≡ true → d.sure first) → (ss ≡ true → Calm d start) → (more ≡ copies) × IsBeginFault d.files (work_of (d.shown tree_new) ts ss) i fault
      fault_is ts ss a b = subst (λ sh. (more ≡ copies) × IsBeginFault d.files (work_of sh ts ss) i fault) (sym (begins.tree 0).kept.same) (begins.begun ts ss (λ t. at.out.kept.stays_sure (a t)) (λ t. can_begin rising (b t)))

      same : more ≡ copies
      same = (fault_is false false (λ f. not_ever f) (λ f. not_ever f)).0

      pub can_stop : AreUnderWay d.files (d.shown tree_new) spec.algs more × (j : ℕ) × AreBefore d.files.place more j × IsBeginFault d.files (work_of (d.shown tree_new) false false) j fault
      can_stop = (
        subst (λ sh. AreUnderWay d.files sh spec.algs more) (sym (begins.tree 0).kept.same) (subst (λ ls. AreUnderWay d.files (d.shown tree) spec.algs ls) (sym same) under_way),
        i,
        subst (λ ls. AreBefore d.files.place ls i) (sym same) (hand_before d.files spec (d.shown first) (d.sure first) (Calm d start) (d.sink.stored start) (d.sink.stored sink) i items copies at.hand),
        (fault_is false false (λ f. not_ever f) (λ f. not_ever f)).1,
      )

      pub has_stopped : {tree_end : T} {sink_end : S} {told : WriteFault} → spec.holes.items ≡ [] → StopsBegun d spec.algs more fault tree_new tree_end sink_new sink_end told → (file : ShownFile) × (slice_get (d.shown first).files i ≡ Some file) × (is_payload file.0 ≡ true)
          → WritesPayload d.shown d.failures d.sure d.sink spec first tree_end start sink_end (Err told)
      has_stopped {tree_end} {sink_end} {told} none stops here =
          let s = d.files in
          let shown = d.shown first in
          let old = d.sink.stored start in
          let now = d.sink.stored sink_new in
          let n = length copies in
          let hand = subst (λ st. InHand s spec shown (d.sure first) (Calm d start) old st i items copies) (sym (begins.sink 0).held) at.hand in
          let all = subst (λ ls. Stops d spec.algs ls (λ work. IsBeginFault s work i fault) (places_of s.place ls ++ i ∷ []) (files_with fault) (copies_with fault) tree_new tree_end sink_new sink_end told) same (stops i (fault_is false false (λ f. not_ever f) (λ f. not_ever f)).1) in
          let fresh = λ (ts ss : Bool) (a : ts ≡ true → d.sure first) (b : ss ≡ true → Calm d start). subst (λ sh. AreFresh s (work_of sh ts ss) spec.algs 0 n copies) (sym moved) (hand.fresh ts ss a b) in
          let left = begins.sink n in
          record {
            written = hand_cut_next s spec shown (d.sure first) (Calm d start) old now i items copies hand here.0 here.1 none here.2 (d.sink.stored sink_end) told
                (subst (λ sh. IsCutAt sh (places_of s.place copies ++ i ∷ []) now (d.sink.stored sink_end) told) moved all.written);
            err = all.written.met;
            tree = record {
              uses = tree_used n at.out (back_so n (back_on n (n + files_with fault) (begins.tree n) all.tree) (λ f. ap Err f) (λ f. same_told f))
                  (λ sure f. (all.calm true false (fresh true false (λ t. sure) (λ t. not_ever t)) (fault_is true false (λ t. sure) (λ t. not_ever t)).1).0 refl (same_told f));
              unread = λ empty. absurd (is_read here empty);
            };
            sink = record {
              uses = sink_used (n + copies_with fault) (out_on n (n + copies_with fault) at.copies_out left) (ends_so (n + copies_with fault) all.sink (λ f. ap Err f) (λ f. same_told f))
                  (λ sure order f. (all.calm false true (fresh false true (λ t. not_ever t) (λ t. (sure, order.0, order.1))) (fault_is false true (λ t. not_ever t) (λ t. (sure, order.0, order.1))).1).1 refl
                  (subst (λ sh. CanEnd (d.sink.sure sink_new) (d.sink.is_open sink_new) now sh (places_of s.place copies)) (sym moved)
                  (hand_can_end s spec shown (d.sure first) (Calm d start) old now i items copies hand none rising order.1 (d.sink.sure sink_new) (d.sink.is_open sink_new) (left.stays_sure (at.copies_out.stays_sure sure)) (left.as_open ∙ at.copies_out.as_open ∙ order.0)))
                  (same_told f));
              closed = λ h. tt;
            };
          }

  -- THOSE UNDER WAY WERE FINISHED, or one of them has stopped

  pub some_read : 0 < length copies → payload_paths (d.shown first) ≡ [] → ⊥
  some_read some = hand_some d.files spec (d.shown first) (d.sure first) (Calm d start) (d.sink.stored start) (d.sink.stored sink) i items copies at.hand some

  module _ (none : spec.holes.items ≡ []) (read : payload_paths (d.shown first) ≡ [] → ⊥) {tree_new : T} {sink_new : S} where
    pub finished : {more : Items} → Finishes d spec.algs copies items tree tree_new sink sink_new (Ok more) → IsAt d spec first tree_new start sink_new i more []
    finished {more} done = record {
      hand = hand_finished d.files spec (d.shown first) (d.sure first) (Calm d start) (d.sink.stored start) (d.sink.stored sink) i items copies at.hand none (d.sink.stored sink_new) more
          (subst (λ sh. AreFinished spec.algs sh (places_of d.files.place copies) items more (d.sink.stored sink) (d.sink.stored sink_new)) at.out.kept.same done.written);
      out = none_left (length copies) at.out done.tree (λ f. cc f);
      copies_out = none_more (length copies) at.copies_out done.sink (λ f. cc f);
      unread = λ empty. absurd (read empty);
    }

    pub failed : AreRising (paths_in (d.shown first)) → {fault : WriteFault} → Finishes d spec.algs copies items tree tree_new sink sink_new (Err fault) → WritesPayload d.shown d.failures d.sure d.sink spec first tree_new start sink_new (Err fault)
    failed rising {fault} bad =
        let s = d.files in
        let shown = d.shown first in
        let old = d.sink.stored start in
        let now = d.sink.stored sink in
        let n = length copies in
        let fresh = λ (ts ss : Bool) (a : ts ≡ true → d.sure first) (b : ss ≡ true → Calm d start). subst (λ sh. AreFresh s (work_of sh ts ss) spec.algs 0 n copies) (sym at.out.kept.same) (at.hand.fresh ts ss a b) in
        record {
          written = hand_cut s spec shown (d.sure first) (Calm d start) old now i items copies at.hand none (d.sink.stored sink_new) fault
              (subst (λ sh. IsCutAt sh (places_of s.place copies) now (d.sink.stored sink_new) fault) at.out.kept.same bad.written);
          err = bad.written.met;
          tree = record {
            uses = tree_used n at.out (back_so n bad.tree (λ f. err_again f) (λ f. err_again f)) (λ sure f. (bad.calm true false (fresh true false (λ t. sure) (λ t. not_ever t)) tt).0 refl (err_again f));
            unread = λ empty. absurd (read empty);
          };
          sink = record {
            uses = sink_used n at.copies_out (ends_so n bad.sink (λ f. err_again f) (λ f. err_again f)) (λ sure order f. (bad.calm false true (fresh false true (λ t. not_ever t) (λ t. (sure, order.0, order.1))) tt).1 refl
                (subst (λ sh. CanEnd (d.sink.sure sink) (d.sink.is_open sink) now sh (places_of s.place copies)) (sym at.out.kept.same)
                (hand_can_end s spec shown (d.sure first) (Calm d start) old now i items copies at.hand none rising order.1 (d.sink.sure sink) (d.sink.is_open sink) (at.copies_out.stays_sure sure) (at.copies_out.as_open ∙ order.0)))
                (err_again f));
            closed = λ h. tt;
          };
        }

  -- all files were gone through, and the items are given out
  pub all_written : spec.holes.items ≡ [] → copies ≡ [] → length (d.shown first).files ≤ i → (result : Result (Vec Item Global) WriteFault) → ((files : Files) → AreItemsSoFar spec.algs items files → IfOk result (λ all. AreItemsOf spec.algs all.items files)) → IfErr result (λ fault. fault ≡ Memory)
      → WritesPayload d.shown d.failures d.sure d.sink spec first tree start sink result
  all_written none empty last result given refused =
      let shown = d.shown first in
      let n : length copies ≡ 0 = ap length empty in
      let all = hand_settled d.files spec shown (d.sure first) (Calm d start) (d.sink.stored start) (d.sink.stored sink) i items copies at.hand none empty in
      record {
        written = all_finished spec shown i (d.sink.stored start) (d.sink.stored sink) items all.0 all.1 last result (given (payload_of all.0) all.1.items_are) refused;
        err = met_memory result refused;
        tree = record {
          uses = tree_used (length copies) at.out (back_none (length copies) (subst (λ m. LeavesOut d.shown d.failures d.sure m 0 tree tree) (sym n) (tree_same 0)) (not_tree result refused)) (λ sure f. not_tree result refused f);
          unread = at.unread;
        };
        sink = record {
          uses = sink_used (length copies) at.copies_out
              (copies_ends (length copies) (subst (λ m. LeavesCopies d.sink.stored d.sink.is_open d.sink.failures d.sink.sure m 0 sink sink) (sym n) (sink_same 0)) (not_sink result refused)) (λ sure order f. not_sink result refused f);
          closed = λ h. on_ok result (at.copies_out.as_open ∙ h);
        };
      }
