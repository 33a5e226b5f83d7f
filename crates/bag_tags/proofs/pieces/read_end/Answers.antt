use Rattle.std.proofs.lemmas.Result.{IfErr-weaker, on_ok_weaker}
use Rattle.bag_tags.proofs.PiecesLemmas.{end_stops, text_read}
use Rattle.bag_tags.proofs.pieces.read_end.Goals as goal

pub returns-clause-ok : goal.returns-clause-ok
returns-clause-ok g c = λ start all a. on_ok_weaker c.read_last.result (λ on. text_read _ start all c.args.text.now _ _ _ c.requires on a) c.read_last.ensures.ok

pub returns-clause-err : goal.returns-clause-err
returns-clause-err g c = λ start all a. IfErr-weaker c.read_last.result _ _ (λ fault refused. end_stops _ start _ all c.args.text.now _ _ fault c.requires refused a) c.read_last.ensures.err
