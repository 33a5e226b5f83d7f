use Rattle.std.proofs.Common.{◌++◌, rules, take}
use Rattle.std.proofs.lemmas.Result.{err_from_is_err_and}
use Rattle.bag_digest.specs.Reading.{read_fault}
use Rattle.bag_digest.proofs.Filling.{given_more}
use Rattle.bag_digest.proofs.Progress.{given_before, given_piece}
use Rattle.bag_rules.proofs.TagFileReaderLemmas.{takes_on}
use Rattle.bag_rules.proofs.tag_file_reader.take_all.Goals as goal

pub returns-in_err-n-clause-stopped : goal.returns-in_err-n-clause-stopped
returns-in_err-n-clause-stopped g c =
    let p = err_from_is_err_and c.from_residual.result c.from_residual.ensures.1 in
    rw (p.1, p.2) (given_before _ _ _ _ _ _ (read_fault c.in_err-n.field-0.0) c.pieces.invariant.taken.1 c.in_err-n.ensures.stopped)

pub returns-in_err-take-clause-stopped : goal.returns-in_err-take-clause-stopped
returns-in_err-take-clause-stopped g c =
    let p = err_from_is_err_and c.from_residual-in_err-take.result c.from_residual-in_err-take.ensures.1 in
    rw (p.1, p.2, c.in_err-take.ensures.err) (given_piece _ _ _ _ _ _ _ _ c.pieces.invariant.taken.1 c.in_ok-n.ensures.piece)

pub pieces-preserved : goal.pieces-preserved
pieces-preserved g c =
    let before = c.pieces.invariant.taken in
    let piece = take c.in_ok-n.n c.read_piece.new.buffer in
    record {
      taken = (
        before.0 ++ piece,
        given_more _ _ _ _ _ _ _ _ before.1 c.in_ok-n.ensures.piece,
        takes_on c.args.reader.now c.pieces.reader c.take.new.self before.0 piece before.2 c.take.ensures.taken,
      );
      file = search rules;
      used = search rules;
      room = search rules;
    }
