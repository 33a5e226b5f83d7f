use Rattle.std.proofs.lemmas.Result.{err_from_is_err_and, on_ok_weaker}
use Rattle.bag_tags.proofs.PiecesLemmas.{awaits_longer}
use Rattle.bag_tags.proofs.pieces.read_piece.Goals as goal

pub returns-in_err-tail-clause-err : goal.returns-in_err-tail-clause-err
returns-in_err-tail-clause-err g c = λ start all left a.
    let error = err_from_is_err_and c.from_residual.result c.from_residual.ensures.1 in
    rw (error.1, error.2) (c.in_err-tail.ensures.err start all left a)

pub returns-clause-ok : goal.returns-clause-ok
returns-clause-ok g c = λ start all left a.
    on_ok_weaker c.add.result (λ longer. awaits_longer _ start all _ left _ _ _ longer (c.in_ok-tail.ensures.ok start all left a)) c.add.ensures.added
