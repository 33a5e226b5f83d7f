use Rattle.std.proofs.Common.{◌≡◌, ◌++◌, true, false, sym, ap, ◌∙◌, subst}
use Rattle.std.specs.List.{enumerate_from}
use Rattle.std.proofs.lemmas.Result.{err_from_is_err_and}
use Rattle.bag_path.specs.Lines.{lines_of}
use Rattle.bag_path.specs.LinesLeft.{lines_left}
use Rattle.bag_tags.specs.Pieces.{Awaits}
use Rattle.bag_tags.proofs.PiecesLemmas.{is_nothing, octets_in, piece_begun, piece_cut, piece_line, piece_tail}
use Rattle.bag_tags.proofs.pieces.read_ended.Goals as goal

pub loop-line-init : goal.loop-line-init
loop-line-init g c =
    let all : lines_left c.into_iter-line-iterator.result ≡ enumerate_from 1 (lines_of c.args.piece.now) = ap lines_left c.into_iter-line-iterator.ensures.into_iter_gives ∙ c.new-line-items.ensures in
    let begun = piece_begun c.args.piece.now _ all in
    record {
      awaits = λ start whole left a. subst (λ os. Awaits (g.V.TagLines.leads c.args.version) start whole (os ++ left) c.args.last.now c.args.value.now) (sym begun.0) a;
      are = begun.1;
    }

pub end_line-requires-clause-plain : goal.end_line-requires-clause-plain
end_line-requires-clause-plain g c = (piece_line _ _ _ c.in-Some.ensures.steps c.loop-line.invariant.are).0

pub loop-line-preserved : goal.loop-line-preserved
loop-line-preserved g c = record {
  awaits = λ start all left a. c.in_ok-end_line.ensures.ok start all (octets_in (lines_left c.next.new.self) ++ left)
      (subst (λ os. Awaits (g.V.TagLines.leads c.args.version) start all os c.loop-line.last c.loop-line.value) (piece_cut _ _ _ left c.in-Some.ensures.steps) (c.loop-line.invariant.awaits start all left a));
  are = (piece_line _ _ _ c.in-Some.ensures.steps c.loop-line.invariant.are).1;
}

pub returns-in_err-end_line-clause-err : goal.returns-in_err-end_line-clause-err
returns-in_err-end_line-clause-err g c = λ start all left a.
    let error = err_from_is_err_and c.from_residual.result c.from_residual.ensures.1 in
    rw (error.1, error.2) (c.in_err-end_line.ensures.err start all (octets_in (lines_left c.next.new.self) ++ left)
    (subst (λ os. Awaits (g.V.TagLines.leads c.args.version) start all os c.loop-line.last c.loop-line.value) (piece_cut _ _ _ left c.in-Some.ensures.steps) (c.loop-line.invariant.awaits start all left a)))

pub returns-then-not-is_ended-clause-ok : goal.returns-then-not-is_ended-clause-ok
returns-then-not-is_ended-clause-ok g c = λ start all left a.
    let nothing = is_nothing c.in-Some.line.ending (λ n. (let k : true ≡ false = sym (c.is_ended.ensures.1 n) ∙ c.if-not-is_ended.true in cc)) in
    subst (λ os. Awaits (g.V.TagLines.leads c.args.version) start all (os ++ left) c.loop-line.last c.loop-line.value)
    (piece_tail _ _ _ c.in-Some.ensures.steps c.loop-line.invariant.are nothing) (c.loop-line.invariant.awaits start all left a)

pub returns-then-not-is_ended-clause-plain : goal.returns-then-not-is_ended-clause-plain
returns-then-not-is_ended-clause-plain g c = (piece_line _ _ _ c.in-Some.ensures.steps c.loop-line.invariant.are).0

pub returns-clause-ok : goal.returns-clause-ok
returns-clause-ok g c = λ start all left a.
    subst (λ lines. Awaits (g.V.TagLines.leads c.args.version) start all (octets_in lines ++ left) c.loop-line.last c.loop-line.value) c.in-None.ensures.steps.0 (c.loop-line.invariant.awaits start all left a)
