use Rattle.std.proofs.Common.{◌≡◌, ◌∙◌, ◌+◌, ◌<◌, ◌≤◌, ℕ, List, Option, arith, false, length, refl, rules, subst, sym, true}
use Rattle.std.proofs.lemmas.Bool.{eqb-false, eqb-true}
use Rattle.std.proofs.lemmas.List.{length-map, nil_from_length}
use Rattle.std.proofs.lemmas.Result.{err_from_is_err_and}
use Rattle.bag_rules.proofs.Words.{paths_in, Shown}
use Rattle.bag_writer.specs.Copying.{sides}
use Rattle.bag_writer.specs.SideBySide.{devices}
use Rattle.bag_writer.proofs.Batches.{hand_first, none_out}
use Rattle.bag_writer.proofs.FilesOut.{tree_same}
use Rattle.bag_writer.proofs.Underway.{Calm, IsAt, all_written, begun, can_stop, failed, file_here, finished, has_stopped, is_read, passed, some_read, under_way}
use Rattle.bag_writer.proofs.payload_beside.write_beside.Goals as goal

pub loop-i-init : goal.loop-i-init
loop-i-init g c =
    let d = devices g.T.Paths.shown g.T.Source.failures g.T.Tree.sure g.S.Sink (sides g.T.File.OpenFile.place g.T.File.Source g.S.File.SinkFile) in
    let sure = g.T.Tree.sure c.args.tree.now in
    record {
      room = refl;
      at = subst (λ ls. IsAt d c.args.spec.now c.args.tree.now c.args.tree.now c.args.sink.now c.args.sink.now 0 c.none-items.result ls) (sym c.new-copies.ensures.items) (record {
        hand = hand_first d.files c.args.spec.now (g.T.Paths.shown c.args.tree.now) sure (Calm d c.args.sink.now) (g.S.Sink.stored c.args.sink.now) c.none-items.result c.none-items.ensures;
        out = tree_same 0;
        copies_out = none_out;
        unread = λ none. refl;
      });
    }

pub path-requires : goal.path-requires
path-requires g c =
    subst (λ (sh : Shown). c.loop-i.i < length (paths_in sh)) (sym c.loop-i.invariant.at.out.kept.same) (omega (arith, c.count-i-end.ensures.files, c.loop-i-test.true))

pub begin_next-requires : goal.begin_next-requires
begin_next-requires g c =
    let inv = c.loop-i.invariant in (
      inv.room ∙ c.requires.0,
      subst (λ (sh : Shown). c.loop-i.i < length (paths_in sh)) (sym inv.at.out.kept.same) (omega (arith, c.count-i-end.ensures.files, c.loop-i-test.true)),
    )

pub loop-i-preserved-then-not-is_payload : goal.loop-i-preserved-then-not-is_payload
loop-i-preserved-then-not-is_payload g c =
    let inv = c.loop-i.invariant in
    let told : c.is_payload.result ≡ false = search rules in
    record { room = inv.room; at = passed inv.at (file_here inv.at false c.path.result.now c.path.ensures (sym c.is_payload.ensures ∙ told)) }

pub stop_begun-requires : goal.stop_begun-requires
stop_begun-requires g c = can_stop c.loop-i.invariant.at c.count-i-end.ensures.rising c.in-Err.ensures

pub returns-in-Err : goal.returns-in-Err
returns-in-Err g c =
    let at = c.loop-i.invariant.at in
    let told : c.is_payload.result ≡ true = search rules in
    has_stopped at c.count-i-end.ensures.rising c.in-Err.ensures c.requires.1 c.stop_begun.ensures (file_here at true c.path.result.now c.path.ensures (sym c.is_payload.ensures ∙ told))

pub loop-i-preserved-then-len-lt-MOST_COPIED : goal.loop-i-preserved-then-len-lt-MOST_COPIED
loop-i-preserved-then-len-lt-MOST_COPIED g c =
    let inv = c.loop-i.invariant in
    let told : c.is_payload.result ≡ true = search rules in
    record {
      room = c.begin_next.auto.buffer ∙ inv.room;
      at = begun inv.at c.count-i-end.ensures.rising c.in-Ok.ensures (file_here inv.at true c.path.result.now c.path.ensures (sym c.is_payload.ensures ∙ told));
    }

pub finish-requires : goal.finish-requires
finish-requires g c =
    let at = c.loop-i.invariant.at in
    let told : c.is_payload.result ≡ true = search rules in
    under_way (begun at c.count-i-end.ensures.rising c.in-Ok.ensures (file_here at true c.path.result.now c.path.ensures (sym c.is_payload.ensures ∙ told)))

pub returns-in_err-items : goal.returns-in_err-items
returns-in_err-items g c =
    let at = c.loop-i.invariant.at in
    let told : c.is_payload.result ≡ true = search rules in
    let here = file_here at true c.path.result.now c.path.ensures (sym c.is_payload.ensures ∙ told) in
    let p = err_from_is_err_and c.from_residual.result c.from_residual.ensures.1 in
    rw (p.1, p.2) (failed (begun at c.count-i-end.ensures.rising c.in-Ok.ensures here) c.requires.1 (is_read at here) c.count-i-end.ensures.rising c.in_err-items.ensures)

pub loop-i-preserved : goal.loop-i-preserved
loop-i-preserved g c =
    let d = devices g.T.Paths.shown g.T.Source.failures g.T.Tree.sure g.S.Sink (sides g.T.File.OpenFile.place g.T.File.Source g.S.File.SinkFile) in
    let inv = c.loop-i.invariant in
    let told : c.is_payload.result ≡ true = search rules in
    let here = file_here inv.at true c.path.result.now c.path.ensures (sym c.is_payload.ensures ∙ told) in
    record {
      room = c.begin_next.auto.buffer ∙ inv.room;
      at = subst (λ ls. IsAt d c.args.spec.now c.args.tree.now c.finish.new.tree c.args.sink.now c.finish.new.sink (c.loop-i.i + 1) c.in_ok-items.items ls) (sym c.new-copies-in-loop-i.ensures.items)
          (finished (begun inv.at c.count-i-end.ensures.rising c.in-Ok.ensures here) c.requires.1 (is_read inv.at here) c.in_ok-items.ensures);
    }

pub returns-then-is_empty : goal.returns-then-is_empty
returns-then-is_empty g c =
    let shown = g.T.Paths.shown c.args.tree.now in
    let last : length shown.files ≤ c.loop-i.i = omega (arith, c.count-i-end.ensures.files, c.loop-i-test.false, length-map shown.files (λ (f : List ℕ × Option (List ℕ)). f.0)) in
    let zero : c.loop-i.copies.len ≡ 0 = eqb-true c.loop-i.copies.len 0 (sym c.is_empty.ensures ∙ c.if-is_empty.true) in
    let many : length c.loop-i.copies.items ≡ 0 = omega (arith, zero, c.loop-i.copies.ok.0) in
    all_written c.loop-i.invariant.at c.requires.1 (nil_from_length c.loop-i.copies.items many) last c.finish-then-is_empty.result (c.finish-then-is_empty.ensures.all c.args.spec.now.algs) c.finish-then-is_empty.ensures.err

pub finish-requires-2 : goal.finish-requires-2
finish-requires-2 g c = under_way c.loop-i.invariant.at

pub returns-in_err-items-2 : goal.returns-in_err-items-2
returns-in_err-items-2 g c =
    let at = c.loop-i.invariant.at in
    let some : 0 < length c.loop-i.copies.items = (let not : c.loop-i.copies.len ≡ 0 → ⊥ = eqb-false c.loop-i.copies.len 0 (sym c.is_empty.ensures ∙ c.if-is_empty.false) in omega (arith, not, c.loop-i.copies.ok.0)) in
    let p = err_from_is_err_and c.from_residual-in_err-items-2.result c.from_residual-in_err-items-2.ensures.1 in
    rw (p.1, p.2) (failed at c.requires.1 (some_read at some) c.count-i-end.ensures.rising c.in_err-items-2.ensures)

pub returns : goal.returns
returns g c =
    let at = c.loop-i.invariant.at in
    let shown = g.T.Paths.shown c.args.tree.now in
    let last : length shown.files ≤ c.loop-i.i = omega (arith, c.count-i-end.ensures.files, c.loop-i-test.false, length-map shown.files (λ (f : List ℕ × Option (List ℕ)). f.0)) in
    let some : 0 < length c.loop-i.copies.items = (let not : c.loop-i.copies.len ≡ 0 → ⊥ = eqb-false c.loop-i.copies.len 0 (sym c.is_empty.ensures ∙ c.if-is_empty.false) in omega (arith, not, c.loop-i.copies.ok.0)) in
    all_written (finished at c.requires.1 (some_read at some) c.in_ok-items-2.ensures) c.requires.1 refl last c.finish-3.result (c.finish-3.ensures.all c.args.spec.now.algs) c.finish-3.ensures.err
