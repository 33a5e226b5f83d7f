use Rattle.std.proofs.Common.{◌++◌, rules, subst, take}
use Rattle.std.proofs.lemmas.List.{append_assoc}
use Rattle.std.proofs.lemmas.Result.{err_from_is_err_and}
use Rattle.bag_digest.specs.Reading.{read_fault}
use Rattle.bag_digest.proofs.Progress.{given_before}
use Rattle.bag_digest.proofs.Filling.{given_more}
use Rattle.bag_digest.specs.Hash.{Holds}
use Rattle.bag_digest.proofs.reading.digest_on.Goals as goal

pub returns-in_err-n-clause-stopped : goal.returns-in_err-n-clause-stopped
returns-in_err-n-clause-stopped g c =
    let p = err_from_is_err_and c.from_residual.result c.from_residual.ensures.1 in
    rw (p.1, p.2) (given_before _ _ _ _ _ _ (read_fault c.in_err-n.field-0.0) c.pieces.invariant.hashed.1 c.in_err-n.ensures.stopped)

pub pieces-preserved : goal.pieces-preserved
pieces-preserved g c =
    let octets = c.pieces.invariant.hashed.0 in
    let given = c.pieces.invariant.hashed.1 in
    let hashed = c.pieces.invariant.hashed.2 in
    record {
      hashed = (
        octets ++ take c.in_ok-n.n c.read_piece.new.buffer,
        given_more _ _ _ _ _ _ _ _ given c.in_ok-n.ensures.piece,
        λ set before holds. subst (Holds c.update.new.self set) (append_assoc before octets (take c.in_ok-n.n c.read_piece.new.buffer)) (c.update.ensures set (before ++ octets) (hashed set before holds)),
      );
      used = search rules;
    }
