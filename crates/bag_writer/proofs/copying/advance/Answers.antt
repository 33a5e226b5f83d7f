use Rattle.std.proofs.Common.{◌≡◌, ◌∙◌, ◌++◌, arith, length, refl, rules, subst, take}
use Rattle.std.proofs.lemmas.Result.{err_from_is_err_and}
use Rattle.bag_digest.specs.Hash.{AreDigests}
use Rattle.bag_writer.specs.Copying.{sides}
use Rattle.bag_writer.proofs.CopyLemmas.{advance_ended, advance_going, going_of, plain}
use Rattle.bag_writer.proofs.copying.advance.Goals as goal
use Rattle.bag_digest.proofs.ListLemmas.{refilled}

pub returns-in_err-n-clause-advanced : goal.returns-in_err-n-clause-advanced
returns-in_err-n-clause-advanced g c = λ work set under.
    let p = err_from_is_err_and c.from_residual.result c.from_residual.ensures.1 in
    let s = sides g.F.OpenFile.place g.F.Source g.G.SinkFile in
    let old = c.args.copy.now in
    let going = going_of s work old under c.requires.3 in
    rw (p.1, p.2) (c.in_err-n.ensures.copied work going.taken (plain s work old going) going.count)

pub returns-then-n-len-clause-advanced : goal.returns-then-n-len-clause-advanced
returns-then-n-len-clause-advanced g c = λ work set under.
    let s = sides g.F.OpenFile.place g.F.Source g.G.SinkFile in
    let old = c.args.copy.now in
    let same : length c.copy_piece.new.buffer ≡ length old.piece.items = search rules in
    let filled = refilled old.piece.len old.piece.items c.copy_piece.new.buffer old.piece.ok.0 same in
    advance_ended s work c.args.multi.now set c.args.i c.args.hashed old _ c.copy_piece.new.buffer c.in_ok-n.n filled under c.requires.3 (c.in_ok-n.ensures.copied work) c.finish-digests.new.self c.finish-digests.result
    (omega (arith, c.if-n-len.true, same)) (omega (arith, same, c.requires.2)) refl
    (λ octets holds. subst (λ xs. AreDigests c.finish-digests.result set (octets ++ take c.in_ok-n.n xs)) (c.deref.ensures.value ∙ filled) (c.finish-digests.ensures.digests set octets holds))

pub returns-else-n-len-clause-advanced : goal.returns-else-n-len-clause-advanced
returns-else-n-len-clause-advanced g c = λ work set under.
    let s = sides g.F.OpenFile.place g.F.Source g.G.SinkFile in
    let old = c.args.copy.now in
    let same : length c.copy_piece.new.buffer ≡ length old.piece.items = search rules in
    advance_going s work c.args.multi.now set c.args.i c.args.hashed old _ c.copy_piece.new.buffer c.in_ok-n.n (refilled old.piece.len old.piece.items c.copy_piece.new.buffer old.piece.ok.0 same) under c.requires.3 (c.in_ok-n.ensures.copied work)
    (omega (arith, c.if-n-len.false, same)) c.requires.3
