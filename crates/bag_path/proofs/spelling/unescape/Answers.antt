use Rattle.std.proofs.lemmas.Result.{err_from_is_err_and}
use Rattle.bag_path.proofs.UnescapeLemmas.{IsAnswer, answer_path, answer_accepted, answer_fault, answer_nothing, failed_accepted, failed_fault}
use Rattle.bag_path.proofs.spelling.unescape.Goals as goal

pub returns-in_err-octets_spelled-clause-accepted : goal.returns-in_err-octets_spelled-clause-accepted
returns-in_err-octets_spelled-clause-accepted c =
    let error = err_from_is_err_and c.from_residual.result c.from_residual.ensures.1 in
    rw (error.1, error.2) (failed_accepted c.args.version c.args.text.now _ c.in_err-octets_spelled.ensures.fault)

pub returns-in_err-octets_spelled-clause-fault : goal.returns-in_err-octets_spelled-clause-fault
returns-in_err-octets_spelled-clause-fault c =
    let error = err_from_is_err_and c.from_residual.result c.from_residual.ensures.1 in
    rw (error.1, error.2) (failed_fault c.args.version c.args.text.now _ c.in_err-octets_spelled.ensures.fault)

pub returns : goal.returns
returns c =
    let read = c.in_ok-octets_spelled.ensures.octets in
    let answer : IsAnswer _ c.from_string.result = record { text = c.from_string.ensures.text; path = c.from_string.ensures.path; fault = c.from_string.ensures.fault } in
    record {
      path = answer_path _ _ _ _ read answer;
      accepted = answer_accepted _ _ _ _ read answer;
      fault = answer_fault _ _ _ _ read answer;
      bad_escape = answer_nothing _ _ _ _ read;
    }
