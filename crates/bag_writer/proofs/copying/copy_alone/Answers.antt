use Rattle.std.proofs.Common.{◌≡◌, ◌∙◌, ◌++◌, [], ap, arith, length, length-append, refl, rules, subst, sym, take}
use Rattle.std.proofs.lemmas.List.{length-take-le}
use Rattle.std.proofs.lemmas.Result.{err_from_is_err_and}
use Rattle.bag_digest.specs.Hash.{Holds}
use Rattle.bag_writer.specs.Copying.{CopiesPiece, sides}
use Rattle.bag_writer.proofs.CopyLemmas.{ended_on}
use Rattle.bag_writer.proofs.copying.copy_alone.Goals as goal
use Rattle.bag_digest.proofs.ListLemmas.{refilled}

pub pieces-init : goal.pieces-init
pieces-init g c = record {
  room = c.requires.full.0;
  goes_on = c.requires.full.1;
  within = omega arith;
  copied = λ work copied. (
    c.args.copy.now.piece.items,
    copied,
    sym c.requires.full.0,
    subst (Holds c.update.new.self c.args.set) c.as_slice.ensures.value (c.update.ensures c.args.set [] c.new-multi.ensures),
  );
  same = refl;
  beside = refl;
}

pub returns-in_err-n-clause-copied : goal.returns-in_err-n-clause-copied
returns-in_err-n-clause-copied g c = λ work copied.
    let p = err_from_is_err_and c.from_residual.result c.from_residual.ensures.1 in
    let so_far = c.pieces.invariant.copied work copied in
    rw (p.1, p.2) (c.in_err-n.ensures.copied work so_far.0 so_far.1 so_far.2)

pub pieces-preserved : goal.pieces-preserved
pieces-preserved g c =
    let inv = c.pieces.invariant in
    let old = c.pieces.copy in
    let buffer = c.copy_piece.new.buffer in
    let n = c.in_ok-n.n in
    let same : length buffer ≡ length old.piece.items = search rules in
    let filled = refilled old.piece.len old.piece.items buffer old.piece.ok.0 same in
    record {
      room = ap length filled ∙ same ∙ inv.room;
      goes_on = inv.goes_on;
      within = c.in_ok-n.ensures.bound.1;
      copied = λ work copied.
          let so_far = inv.copied work copied in (
            so_far.0 ++ take n buffer,
            (c.in_ok-n.ensures.copied work so_far.0 so_far.1 so_far.2).copied,
            omega (arith, so_far.2, length-append so_far.0 (take n buffer), length-take-le n buffer c.in_ok-n.ensures.bound.0),
            subst (λ xs. Holds c.update-in-pieces.new.self c.args.set (so_far.0 ++ take n xs)) (c.deref.ensures.value ∙ filled) (c.update-in-pieces.ensures c.args.set so_far.0 so_far.3),
          );
      same = c.in_ok-n.ensures.places.0 ∙ inv.same;
      beside = c.in_ok-n.ensures.places.1 ∙ inv.beside;
    }

pub returns-then-n-len-clause-copied : goal.returns-then-n-len-clause-copied
returns-then-n-len-clause-copied g c = λ work copied.
    let s = sides g.F.OpenFile.place g.F.Source g.G.SinkFile in
    let so_far = c.pieces.invariant.copied work copied in
    let old = c.pieces.copy in
    let buffer = c.copy_piece.new.buffer in
    let n = c.in_ok-n.n in
    let same : length buffer ≡ length old.piece.items = search rules in
    let filled = refilled old.piece.len old.piece.items buffer old.piece.ok.0 same in
    ended_on s work c.args.set so_far.0 c.pieces.total n c.finish.result _ so_far.2
    (subst (λ xs. CopiesPiece s work so_far.0 xs c.copy_piece.new.source c.copy_piece.new.target n) (sym filled) (c.in_ok-n.ensures.copied work so_far.0 so_far.1 so_far.2))
    (omega (arith, c.if-n-len.true, same, ap length filled)) (omega (arith, same, ap length filled, c.pieces.invariant.room)) refl
    (c.finish.ensures c.args.set _ (subst (λ xs. Holds c.update-in-pieces.new.self c.args.set (so_far.0 ++ take n xs)) c.deref.ensures.value (c.update-in-pieces.ensures c.args.set so_far.0 so_far.3)))
