use Rattle.std.proofs.Common.{◌≡◌, ◌∙◌, ◌<◌, Some, ap, arith, length, refl, rules, slice_index_or, subst, sym}
use Rattle.std.proofs.lemmas.List.{take_all}
use Rattle.std.proofs.lemmas.Option.{same_Some, slice_get_read}
use Rattle.bag_writer.specs.Steps.{AreWhole}
use Rattle.bag_writer.specs.declared.copying.Copying.{Copying}
use Rattle.bag_writer.proofs.Ending.{file_there, next_free, read_set, unfailed_before, unfailed_next, whole_next, read_same}
use Rattle.bag_writer.proofs.StepLemmas.{whole_none}
use Rattle.bag_writer.proofs.payload_beside.end_each.Goals as goal
use Rattle.bag_digest.proofs.ListLemmas.{set_here, set_there}

pub returns-in_default-clause-calm : goal.returns-in_default-clause-calm
returns-in_default-clause-calm g c = λ files hold can failed.
    let inv = c.loop-k.invariant in
    let xs = c.loop-k.copies in
    let k = c.loop-k.k in
    let below = c.loop-k-test.true in
    let inside : k < length xs = omega (arith, below, c.requires.0, inv.count) in
    let there = slice_get_read xs (length xs) k c.index-copies-k.result refl inside c.index-copies-k.is ∙ ap Some c.index-copies-k.is in
    let was = sym (inv.later k (omega arith)) ∙ there in
    let file = file_there g.S.File.SinkFile.holds c.args.end c.args.copies.now files hold k below in
    let free = next_free (g.S.Sink.stored c.loop-k.sink) (g.S.Sink.stored c.loop-k.sink) files k file.0 file.1 (inv.calm files hold can) in
    c.in_default.ensures.sure.ends (inv.stays_sure can.is_sure) (can.sure_each k _ below was) (inv.as_open ∙ can.closed) file.0.0 file.0.1 (hold.each k _ file.0 below was file.1) free.0 failed

pub returns-in_default-clause-copies : goal.returns-in_default-clause-copies
returns-in_default-clause-copies g c =
    let inv = c.loop-k.invariant in
    let xs = c.loop-k.copies in
    let k = c.loop-k.k in
    let below = c.loop-k-test.true in
    let inside : k < length xs = omega (arith, below, c.requires.0, inv.count) in
    let old : Copying _ _ = slice_index_or xs k c.index-copies-k.result in
    let new : Copying _ _ = record { source = old.source; target = c.end_file.new.file; piece = old.piece; found = old.found } in
    let there = slice_get_read xs (length xs) k c.index-copies-k.result refl inside c.index-copies-k.is ∙ ap Some c.index-copies-k.is in
    record {
      count = search rules;
      read = read_set g.S.File.SinkFile.place c.args.copies.now xs _ k old new there (set_here xs k new inside) (λ j apart. set_there xs k j new apart) refl refl refl c.in_default.ensures.place inv.read;
      later = λ j from. set_there xs k j new (λ e. omega (arith, e, from, below)) ∙ inv.later j (omega (arith, from, below));
      ended = (
        below,
        refl,
        unfailed_before g.S.File.SinkFile.failures k xs _ (λ j apart. set_there xs k j new apart) inv.unfailed,
        λ each at. (
            let own : new ≡ each = same_Some new each (sym (set_here xs k new inside) ∙ at) in
            let rose = c.in_default.ensures.counted.rises refl in
            omega (arith, rose, ap (λ (e : Copying _ _). g.S.File.SinkFile.failures e.target) own)),
      );
    }

pub loop-k-preserved : goal.loop-k-preserved
loop-k-preserved g c =
    let inv = c.loop-k.invariant in
    let xs = c.loop-k.copies in
    let k = c.loop-k.k in
    let below = c.loop-k-test.true in
    let inside : k < length xs = omega (arith, below, c.requires.0, inv.count) in
    let old : Copying _ _ = slice_index_or xs k c.index-copies-k.result in
    let new : Copying _ _ = record { source = old.source; target = c.end_file.new.file; piece = old.piece; found = old.found } in
    let there = slice_get_read xs (length xs) k c.index-copies-k.result refl inside c.index-copies-k.is ∙ ap Some c.index-copies-k.is in
    let was = sym (inv.later k (omega arith)) ∙ there in
    let done = c.in-Ok.ensures in
    let zero = c.requires.1 k old below was in
    record {
      count = search rules;
      later = λ j from. set_there xs k j new (λ e. omega (arith, e, from)) ∙ inv.later j (omega (arith, from));
      read = read_set g.S.File.SinkFile.place c.args.copies.now xs _ k old new there (set_here xs k new inside) (λ j apart. set_there xs k j new apart) refl refl refl done.place inv.read;
      unfailed = unfailed_next g.S.File.SinkFile.failures k xs _ new (set_here xs k new inside) (λ j apart. set_there xs k j new apart) (done.counted.stays (λ e. cc e) ∙ zero) inv.unfailed;
      ended = λ files hold.
          let file = file_there g.S.File.SinkFile.holds c.args.end c.args.copies.now files hold k below in
          whole_next (g.S.Sink.stored c.args.sink.now) (g.S.Sink.stored c.loop-k.sink) (g.S.Sink.stored c.end_file.new.self) files k file.0 file.1 (inv.ended files hold) (done.ended file.0.0 file.0.1 (hold.each k old file.0 below was file.1));
      calm = λ files hold can.
          let file = file_there g.S.File.SinkFile.holds c.args.end c.args.copies.now files hold k below in
          (next_free (g.S.Sink.stored c.loop-k.sink) (g.S.Sink.stored c.end_file.new.self) files k file.0 file.1 (inv.calm files hold can)).1 (done.ended file.0.0 file.0.1 (hold.each k old file.0 below was file.1));
      counted = done.sink.0 ∙ inv.counted;
      as_open = done.sink.1 ∙ inv.as_open;
      stays_sure = λ s. done.sure.stays_sure (inv.stays_sure s);
    }

pub loop-k-init : goal.loop-k-init
loop-k-init g c = record {
  count = refl;
  later = λ j from. refl;
  read = read_same g.S.File.SinkFile.place c.args.copies.now;
  unfailed = λ j each below at. absurd (omega (arith, below));
  ended = λ files hold. whole_none (g.S.Sink.stored c.args.sink.now);
  calm = λ files hold can. can.free;
  counted = refl;
  as_open = refl;
  stays_sure = λ s. s;
}

pub returns-clause-ended : goal.returns-clause-ended
returns-clause-ended g c = λ files hold.
    subst (λ list. AreWhole list (g.S.Sink.stored c.args.sink.now) (g.S.Sink.stored c.loop-k.sink)) (take_all c.loop-k.k files (let many = hold.count in omega (arith, many, c.loop-k-test.false))) (c.loop-k.invariant.ended files hold)
