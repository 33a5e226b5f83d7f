use Rattle.std.proofs.Common.{◌++◌, ℕ, List}
use Rattle.bag_path.specs.LinesLeft.{lines_left}
use Rattle.bag_tags.specs.Pieces.{Awaits}
use Rattle.bag_tags.proofs.PiecesLemmas.{AreLinesLeft, octets_in}
use Rattle.bag_tags.proofs.pieces.read_ended.Given as goal

abbrev pub invariant-loop-line : goal.invariant-loop-line
invariant-loop-line g l = record {
  awaits : (start : g.row.V.Denot) (all left : List ℕ) → Awaits (g.V.TagLines.leads l.version) start all (l.piece ++ left) l.fn.last l.fn.value
      → Awaits (g.V.TagLines.leads l.version) start all (octets_in (lines_left l.line-iterator) ++ left) l.last l.value;
  are : AreLinesLeft (lines_left l.line-iterator);
}
