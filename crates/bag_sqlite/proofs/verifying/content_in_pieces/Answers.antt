use Rattle.std.proofs.Common.{FitsSigned, to_z, ap, subst, sym, [], ◌∷◌, ◌≡◌, ◌<◌, ◌≤◌, ◌^◌, ◌+◌, ◌∙◌, arith, length, pos, rules, w64, inl, inr, min, ◌-◌}
use mir.Val.{of_z}
use Rattle.bag_sqlite.proofs.Words.{concat, count_text, err_from_is_err_and, HasCleanDisk, Int, IsHeld, PIECE, piece_text, ShowsOctets, state, Tells, TellsOne, to_z-of_z, to_z_pos}
use Rattle.bag_sqlite.proofs.AdoptingLemmas.{reads_same, reads_then, stands_still}
use Rattle.bag_sqlite.proofs.PiecesRead.{nothing_taken, one_taken}
use Rattle.bag_sqlite.proofs.verifying.content_in_pieces.Goals as goal

pub loop-taken-init : goal.loop-taken-init
loop-taken-init g c =
    record {
      reads = reads_same c.requires.0;
      within = omega arith;
      few = omega arith;
      held = c.none-content.ensures.held;
      pieces = λ clean db stands. nothing_taken g.S.Store db _ c.args.set c.none-content.result c.args.size c.none-content.ensures.taken;
    }

pub loop-taken-preserved : goal.loop-taken-preserved
loop-taken-preserved g c =
    let old = state g.S.Store c.args.connection.now in
    let mid = state g.S.Store c.loop-taken.connection in
    let new = state g.S.Store c.take_piece.new.connection in
    let before = λ (clean : HasCleanDisk new). let early : HasCleanDisk mid = omega (arith, clean, c.take_piece.ensures.reads.survives.clean) in early in
    let taken = c.loop-taken.taken in
    let so_far = c.loop-taken.invariant in
    let octets = c.min-octets.result in
    let some : 0 < octets = omega (arith, c.min-octets.ensures, c.loop-taken-test.true) in
    let fits : taken + octets ≤ c.args.size = omega (arith, c.min-octets.ensures, c.loop-taken-test.true) in
    let low : c.loop-taken.n < 2 ^ 63 = omega (arith, so_far.few, so_far.within, c.requires.1) in
    record {
      reads = reads_then so_far.reads c.take_piece.ensures.reads;
      within = fits;
      few = omega (arith, so_far.few, some);
      held = c.in_ok-take_piece.ensures.held c.if-not-branch.false c.args.size taken so_far.held;
      pieces = λ clean db stands.
          let still = stands_still old mid db (so_far.reads.read (before clean)) stands in
          let (piece, told, long, takes) = rw (to_z-of_z w64 c.args.item c.ranges.item, to_z_pos w64 low) at (c.in_ok-take_piece.ensures.taken clean db still) c.if-not-branch.false in
          let pieces = rw (to_z-of_z w64 c.args.item c.ranges.item) at (so_far.pieces (before clean) db stands) in
          rw (to_z-of_z w64 c.args.item c.ranges.item, sym long)
          (one_taken g.S.Store db c.args.item c.args.set c.loop-taken.content c.take_piece.new.content c.args.size taken c.loop-taken.n piece pieces c.loop-taken-test.true (omega (arith, some, long)) (omega (arith, c.min-octets.ensures, long))
          (λ more. omega (arith, more, long, c.min-octets.ensures)) told takes);
    }

pub returns-clause-content : goal.returns-clause-content
returns-clause-content g c clean db stands =
    let old = state g.S.Store c.args.connection.now in
    let mid = state g.S.Store c.loop-taken.connection in
    let early : HasCleanDisk mid = omega (arith, clean, c.count_of.ensures.reads.survives.clean) in
    let so_far = rw (to_z-of_z w64 c.args.item c.ranges.item) at (c.loop-taken.invariant.pieces early db stands) in
    let still = stands_still old mid db (c.loop-taken.invariant.reads.read early) stands in
    let count = rw (to_z-of_z w64 c.args.item c.ranges.item) at (c.in_ok-count_of.ensures.count clean db still) in
    let all : c.args.size ≡ length (concat so_far.pieces) = omega (arith, so_far.taken_is, c.loop-taken.invariant.within, c.loop-taken-test.false) in
    let low : c.loop-taken.n < 2 ^ 63 = omega (arith, c.loop-taken.invariant.few, c.loop-taken.invariant.within, c.requires.1) in
    let number = c.in_ok-count_of.field-0 in
    let fits : FitsSigned w64 number = search rules in
    let same : number ≡ pos (length so_far.pieces) = sym (to_z-of_z w64 number fits) ∙ ap (to_z w64) c.if-branch-n.false ∙ to_z_pos w64 low ∙ ap pos so_far.count in
    (so_far.pieces, record { each = so_far.each; count = subst (λ m. TellsOne g.S.Store db count_text (Int c.args.item ∷ []) (Int m)) same count; cut = so_far.cut }, all, so_far.holds)

pub returns-clause-held : goal.returns-clause-held
returns-clause-held g c =
    let all : c.loop-taken.taken ≡ c.args.size = omega (arith, c.loop-taken.invariant.within, c.loop-taken-test.false) in
    subst (IsHeld c.loop-taken.content c.args.size) all c.loop-taken.invariant.held

pub returns-in_err-take_piece-clause-refused : goal.returns-in_err-take_piece-clause-refused
returns-in_err-take_piece-clause-refused g c clean db stands =
    let old = state g.S.Store c.args.connection.now in
    let mid = state g.S.Store c.loop-taken.connection in
    let early : HasCleanDisk mid = omega (arith, clean, c.take_piece.ensures.reads.survives.clean) in
    let still = stands_still old mid db (c.loop-taken.invariant.reads.read early) stands in
    let p = err_from_is_err_and c.from_residual.result c.from_residual.ensures.1 in
    rw (p.1, p.2) (c.in_err-take_piece.ensures.refused clean db still)

pub returns-then-not-branch-clause-refused : goal.returns-then-not-branch-clause-refused
returns-then-not-branch-clause-refused g c clean db stands =
    let old = state g.S.Store c.args.connection.now in
    let mid = state g.S.Store c.loop-taken.connection in
    let early : HasCleanDisk mid = omega (arith, clean, c.take_piece.ensures.reads.survives.clean) in
    let still = stands_still old mid db (c.loop-taken.invariant.reads.read early) stands in
    let low : c.loop-taken.n < 2 ^ 63 = omega (arith, c.loop-taken.invariant.few, c.loop-taken.invariant.within, c.requires.1) in
    let so_far = rw (to_z-of_z w64 c.args.item c.ranges.item) at (c.loop-taken.invariant.pieces early db stands) in
    let it = rw (to_z-of_z w64 c.args.item c.ranges.item, to_z_pos w64 low) at (c.in_ok-take_piece.ensures.refused clean db still) c.if-not-branch.true in
    let wanted : c.min-octets.result ≡ min (c.args.size - length (concat so_far.pieces)) PIECE = omega (arith, c.min-octets.ensures, so_far.taken_is) in
    inl (record {
      pieces = so_far.pieces;
      each = so_far.each;
      full = so_far.full c.loop-taken-test.true;
      more = omega (arith, so_far.taken_is, c.loop-taken-test.true);
      rows = it.0;
      told = subst (λ k. Tells g.S.Store db piece_text (Int c.args.item ∷ Int (pos k) ∷ []) it.0) so_far.count it.1;
      other = λ shows. it.2 (subst (ShowsOctets it.0) (sym wanted) shows);
    })

pub returns-in_err-count_of-clause-refused : goal.returns-in_err-count_of-clause-refused
returns-in_err-count_of-clause-refused g c clean db stands =
    let old = state g.S.Store c.args.connection.now in
    let mid = state g.S.Store c.loop-taken.connection in
    let early : HasCleanDisk mid = omega (arith, clean, c.count_of.ensures.reads.survives.clean) in
    let still = stands_still old mid db (c.loop-taken.invariant.reads.read early) stands in
    let p = err_from_is_err_and c.from_residual-in_err-count_of.result c.from_residual-in_err-count_of.ensures.1 in
    rw (p.1, p.2) (c.in_err-count_of.ensures.count clean db still)

pub returns-then-branch-n-clause-refused : goal.returns-then-branch-n-clause-refused
returns-then-branch-n-clause-refused g c clean db stands =
    let old = state g.S.Store c.args.connection.now in
    let mid = state g.S.Store c.loop-taken.connection in
    let early : HasCleanDisk mid = omega (arith, clean, c.count_of.ensures.reads.survives.clean) in
    let so_far = rw (to_z-of_z w64 c.args.item c.ranges.item) at (c.loop-taken.invariant.pieces early db stands) in
    let still = stands_still old mid db (c.loop-taken.invariant.reads.read early) stands in
    let count = rw (to_z-of_z w64 c.args.item c.ranges.item) at (c.in_ok-count_of.ensures.count clean db still) in
    let number = c.in_ok-count_of.field-0 in
    inr (record {
      pieces = so_far.pieces;
      each = so_far.each;
      cut = so_far.cut;
      size_is = omega (arith, so_far.taken_is, c.loop-taken.invariant.within, c.loop-taken-test.false);
      number = number;
      count = count;
      other = λ same. c.if-branch-n.true (ap (of_z w64) (same ∙ ap pos (sym so_far.count)));
    })

pub returns-in_err-take_piece-clause-reads : goal.returns-in_err-take_piece-clause-reads
returns-in_err-take_piece-clause-reads g c = reads_then c.loop-taken.invariant.reads c.take_piece.ensures.reads

pub returns-then-not-branch-clause-reads : goal.returns-then-not-branch-clause-reads
returns-then-not-branch-clause-reads g c = reads_then c.loop-taken.invariant.reads c.take_piece.ensures.reads

pub returns-in_err-count_of-clause-reads : goal.returns-in_err-count_of-clause-reads
returns-in_err-count_of-clause-reads g c = reads_then c.loop-taken.invariant.reads c.count_of.ensures.reads

pub returns-then-branch-n-clause-reads : goal.returns-then-branch-n-clause-reads
returns-then-branch-n-clause-reads g c = reads_then c.loop-taken.invariant.reads c.count_of.ensures.reads

pub returns-clause-reads : goal.returns-clause-reads
returns-clause-reads g c = reads_then c.loop-taken.invariant.reads c.count_of.ensures.reads
