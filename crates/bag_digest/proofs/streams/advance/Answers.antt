use Rattle.std.proofs.Common.{◌≡◌, ◌∙◌, ◌++◌, arith, length, refl, rules, subst, take}
use Rattle.std.proofs.lemmas.Result.{err_from_is_err_and}
use Rattle.bag_digest.specs.Hash.{AreDigests}
use Rattle.bag_digest.proofs.StreamLemmas.{advance_ended, advance_going, advance_stopped, uses_err, uses_ok}
use Rattle.bag_digest.proofs.streams.advance.Goals as goal
use Rattle.bag_digest.proofs.ListLemmas.{refilled}

pub returns-in_err-n-clause-advanced : goal.returns-in_err-n-clause-advanced
returns-in_err-n-clause-advanced g c = λ set start under.
    let p = err_from_is_err_and c.from_residual.result c.from_residual.ensures.1 in
    let s = g.S.Source in
    let old = c.args.stream.now in
    let same : length c.fill.new.buffer ≡ length old.piece.items = search rules in
    let fault = c.in_err-n.field-0.0 in
    rw (p.1, p.2) (advance_stopped s.remaining s.failures s.ready s.keeps start old _ c.fill.new.buffer (g.met.S.Source.keeps_on start.source old.source c.fill.new.reader) under c.requires.stream.1
    (refilled old.piece.len old.piece.items c.fill.new.buffer old.piece.ok.0 same) (same ∙ c.requires.stream.0) fault c.in_err-n.ensures.stopped
    (uses_err s.failures s.ready s.keeps old.source c.fill.new.reader fault c.in_err-n.ensures.uses))

pub returns-then-n-len-clause-advanced : goal.returns-then-n-len-clause-advanced
returns-then-n-len-clause-advanced g c = λ set start under.
    let s = g.S.Source in
    let old = c.args.stream.now in
    let same : length c.fill.new.buffer ≡ length old.piece.items = search rules in
    advance_ended s.remaining s.failures s.ready s.keeps start old _ c.fill.new.buffer (g.met.S.Source.keeps_on start.source old.source c.fill.new.reader) under c.requires.stream.1
    (refilled old.piece.len old.piece.items c.fill.new.buffer old.piece.ok.0 same) (same ∙ c.requires.stream.0) c.finish-digests.new.self c.in_ok-n.n c.finish-digests.result c.in_ok-n.ensures.piece
    (c.in_ok-n.ensures.short (omega (arith, c.if-n-len.true, same))) refl
    (λ octets holds. subst (λ xs. AreDigests c.finish-digests.result set (octets ++ take c.in_ok-n.n xs)) (c.deref.ensures.value ∙ refilled old.piece.len old.piece.items c.fill.new.buffer old.piece.ok.0 same) (c.finish-digests.ensures.digests set octets holds))
    (uses_ok s.failures s.ready s.keeps old.source c.fill.new.reader c.in_ok-n.n c.in_ok-n.ensures.uses)

pub returns-else-n-len-clause-advanced : goal.returns-else-n-len-clause-advanced
returns-else-n-len-clause-advanced g c = λ set start under.
    let s = g.S.Source in
    let old = c.args.stream.now in
    let same : length c.fill.new.buffer ≡ length old.piece.items = search rules in
    advance_going s.remaining s.failures s.ready s.keeps start old _ c.fill.new.buffer (g.met.S.Source.keeps_on start.source old.source c.fill.new.reader) under c.requires.stream.1
    (refilled old.piece.len old.piece.items c.fill.new.buffer old.piece.ok.0 same) (same ∙ c.requires.stream.0) c.in_ok-n.n c.in_ok-n.ensures.piece
    (omega (arith, c.if-n-len.false, same)) c.requires.stream.1
    (uses_ok s.failures s.ready s.keeps old.source c.fill.new.reader c.in_ok-n.n c.in_ok-n.ensures.uses)
