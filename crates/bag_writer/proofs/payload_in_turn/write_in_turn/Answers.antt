use Rattle.std.proofs.Common.{◌≡◌, ◌∙◌, ◌≤◌, ap, arith, false, length, ◌++◌, ◌∷◌, [], List, ℕ, Option, rules, slice_get, Some, subst, sym, true}
use Rattle.std.proofs.lemmas.List.{length-map}
use Rattle.std.proofs.lemmas.Result.{err_from_is_err_and}
use Rattle.bag_rules.proofs.TreeUses.{uses_kept, uses_on}
use Rattle.bag_rules.proofs.Words.{is_payload, paths_in, payload_of, Shown}
use Rattle.bag_writer.specs.declared.write_fault.WriteFault.TheVariants.{Memory}
use Rattle.bag_writer.proofs.FileSteps.{cut_after, within_of}
use Rattle.bag_writer.proofs.PayloadSoFar.{all_finished, free_next, marked_at, none_at, one_more, passed, shown_at, stopped_in}
use Rattle.bag_writer.proofs.SinkKept.{err_again, sink_kept}
use Rattle.bag_writer.proofs.SinkUses.{sink_on, sink_so}
use Rattle.bag_writer.proofs.payload_in_turn.write_in_turn.Goals as goal

pub loop-i-preserved-then-not-is_payload : goal.loop-i-preserved-then-not-is_payload
loop-i-preserved-then-not-is_payload g c =
    let inv = c.loop-i.invariant in
    let tree = g.T.Paths.shown c.args.tree.now in
    let place = shown_at tree (g.T.Paths.shown c.loop-i.tree) inv.read.same c.loop-i.i c.path.result.now c.path.ensures in
    let told : c.is_payload.result ≡ false = search rules in
    let other : is_payload place.0.0 ≡ false = ap is_payload place.1.1 ∙ sym c.is_payload.ensures ∙ told in
    record {
      written = passed c.args.spec.now tree c.loop-i.i _ _ c.loop-i.items inv.written.0 inv.written.1 place.0 place.1.0 other;
      read = inv.read;
      unread = inv.unread;
      closed = inv.closed;
      used = inv.used;
    }

pub loop-i-preserved : goal.loop-i-preserved
loop-i-preserved g c =
    let inv = c.loop-i.invariant in
    let tree = g.T.Paths.shown c.args.tree.now in
    let place = shown_at tree (g.T.Paths.shown c.loop-i.tree) inv.read.same c.loop-i.i c.path.result.now c.path.ensures in
    let told : c.is_payload.result ≡ true = search rules in
    let is : is_payload place.0.0 ≡ true = ap is_payload place.1.1 ∙ sym c.is_payload.ensures ∙ told in
    let marked = marked_at c.args.spec.now tree c.args.marks.now c.loop-i.i place.0 c.requires.1 place.1.0 in
    let taken = c.in_ok-path.ensures.taken place.0 (ap (λ (s : Shown). slice_get s.files c.loop-i.i) inv.read.same ∙ place.1.0) in
    let more = one_more c.args.spec.now tree c.loop-i.i _ _ c.loop-i.items inv.written.0 inv.written.1 place.0 place.1.0 _ taken.0 is marked taken.1 _ _ c.in_ok-path.path c.in_ok-path.found c.in_ok-items.items taken.2 (c.in_ok-items.ensures.added c.args.spec.now.algs taken.0.1 taken.2.found_is) in
    record {
      written = (inv.written.0 ++ taken.0 ∷ [], more);
      read = uses_kept (uses_on inv.read (λ no. no) c.in_ok-path.ensures.tree) (λ e. cc) (λ no. no);
      unread = λ none. absurd (none_at tree.files c.loop-i.i place.0 place.1.0 is none);
      closed = λ h. c.in_ok-path.ensures.sink.closed (inv.closed h);
      used = sink_on inv.used (λ no. no) (sink_kept c.in_ok-path.ensures.sink.uses (λ e. cc)) (λ h. h);
    }

pub add-requires-clause-within : goal.add-requires-clause-within
add-requires-clause-within g c =
    let inv = c.loop-i.invariant in
    let tree = g.T.Paths.shown c.args.tree.now in
    let place = shown_at tree (g.T.Paths.shown c.loop-i.tree) inv.read.same c.loop-i.i c.path.result.now c.path.ensures in
    let taken = c.in_ok-path.ensures.taken place.0 (ap (λ (s : Shown). slice_get s.files c.loop-i.i) inv.read.same ∙ place.1.0) in
    within_of c.args.spec.now.algs _ c.in_ok-path.found taken.0.1 taken.2.found_is

pub returns-in_err-path : goal.returns-in_err-path
returns-in_err-path g c =
    let p = err_from_is_err_and c.from_residual.result c.from_residual.ensures.1 in
    let inv = c.loop-i.invariant in
    let tree = g.T.Paths.shown c.args.tree.now in
    let place = shown_at tree (g.T.Paths.shown c.loop-i.tree) inv.read.same c.loop-i.i c.path.result.now c.path.ensures in
    let told : c.is_payload.result ≡ true = search rules in
    let is : is_payload place.0.0 ≡ true = ap is_payload place.1.1 ∙ sym c.is_payload.ensures ∙ told in
    let marked = marked_at c.args.spec.now tree c.args.marks.now c.loop-i.i place.0 c.requires.1 place.1.0 in
    let taken = c.in_err-path.ensures.taken place.0 (ap (λ (s : Shown). slice_get s.files c.loop-i.i) inv.read.same ∙ place.1.0) in
    record {
      written = rw (p.1, p.2) (stopped_in c.args.spec.now tree c.loop-i.i _ _ c.loop-i.items inv.written.0 inv.written.1 place.0 place.1.0 _ taken.0 is marked taken.1 _ c.in_err-path.field-0.0 taken.2);
      err = search rules;
      tree = record { uses = search rules; unread = λ none. absurd (none_at tree.files c.loop-i.i place.0 place.1.0 is none) };
      sink = rw (p.1, p.2) (record {
        uses = sink_so
            (sink_on (sink_kept inv.used (λ no. no)) (λ no. no) c.in_err-path.ensures.sink.uses (λ order. (
              inv.closed order.0,
              λ path here.
                  free_next c.args.spec.now tree c.loop-i.i _ _ c.loop-i.items inv.written.0 inv.written.1 c.count-i-end.ensures.rising path (subst (λ (s : Shown). slice_get (paths_in s) c.loop-i.i ≡ Some path) inv.read.same here) order.1,
            )))
            (λ e. err_again e) (λ e. err_again e);
        closed = λ h. tt;
      });
    }

pub returns-in_err-items : goal.returns-in_err-items
returns-in_err-items g c =
    let p = err_from_is_err_and c.from_residual-in_err-items.result c.from_residual-in_err-items.ensures.1 in
    let inv = c.loop-i.invariant in
    let tree = g.T.Paths.shown c.args.tree.now in
    let place = shown_at tree (g.T.Paths.shown c.loop-i.tree) inv.read.same c.loop-i.i c.path.result.now c.path.ensures in
    let told : c.is_payload.result ≡ true = search rules in
    let is : is_payload place.0.0 ≡ true = ap is_payload place.1.1 ∙ sym c.is_payload.ensures ∙ told in
    let marked = marked_at c.args.spec.now tree c.args.marks.now c.loop-i.i place.0 c.requires.1 place.1.0 in
    let taken = c.in_ok-path.ensures.taken place.0 (ap (λ (s : Shown). slice_get s.files c.loop-i.i) inv.read.same ∙ place.1.0) in
    let refused : c.in_err-items.field-0.0 ≡ Memory = c.in_err-items.ensures.err in
    record {
      written = rw (p.1, p.2, refused) (stopped_in c.args.spec.now tree c.loop-i.i _ _ c.loop-i.items inv.written.0 inv.written.1 place.0 place.1.0 _ taken.0 is marked taken.1 _ Memory (cut_after _ _ _ _ _ _ _ Memory taken.2 (λ large e. cc)));
      err = search rules;
      tree = record { uses = search rules; unread = λ none. absurd (none_at tree.files c.loop-i.i place.0 place.1.0 is none) };
      sink = search rules;
    }

pub returns : goal.returns
returns g c =
    let inv = c.loop-i.invariant in
    let tree = g.T.Paths.shown c.args.tree.now in
    let end : length tree.files ≤ c.loop-i.i = omega (arith, c.count-i-end.ensures.files, c.loop-i-test.false, length-map tree.files (λ (s : List ℕ × Option (List ℕ)). s.0)) in
    record {
      written = all_finished c.args.spec.now tree c.loop-i.i _ _ c.loop-i.items inv.written.0 inv.written.1 end c.finish.result (c.finish.ensures.all c.args.spec.now.algs (payload_of inv.written.0) inv.written.1.items_are) c.finish.ensures.err;
      err = search rules;
      tree = search rules;
      sink = search rules;
    }
