use Rattle.std.proofs.Common.{[]}
use Rattle.std.proofs.lemmas.Result.{err_from_is_err_and}
use Rattle.bag_tags.proofs.PiecesLemmas.{awaits_rest, awaits_whole}
use Rattle.bag_tags.proofs.TagLinesLemmas.{fault_found, only_memory, only_value, fault_of_read}
use Rattle.bag_tags.proofs.tag_lines.read_onto.Goals as goal

pub returns-in_err-tail-clause-only : goal.returns-in_err-tail-clause-only
returns-in_err-tail-clause-only g c = λ other t.
    let error = err_from_is_err_and c.from_residual.result c.from_residual.ensures.1 in
    rw (error.1, error.2) (only_memory _ _ c.requires _ _ _ other (c.in_err-tail.ensures.err c.args.value.now c.args.octets.now [] (awaits_whole _ _ c.args.octets.now _ c.first-last.ensures)) t)

pub returns-in_err-tail-clause-fault : goal.returns-in_err-tail-clause-fault
returns-in_err-tail-clause-fault g c = λ fault e.
    let error = err_from_is_err_and c.from_residual.result c.from_residual.ensures.1 in
    fault_found _ _ c.requires _ _ _ fault (c.in_err-tail.ensures.err c.args.value.now c.args.octets.now [] (awaits_whole _ _ c.args.octets.now _ c.first-last.ensures)) (rw (error.1, error.2) at e)

pub returns-clause-read : goal.returns-clause-read
returns-clause-read g c = c.read_end.ensures.ok c.args.value.now c.args.octets.now
    (awaits_rest _ _ _ _ _ _ (c.in_ok-tail.ensures.ok c.args.value.now c.args.octets.now [] (awaits_whole _ _ c.args.octets.now _ c.first-last.ensures)))

pub returns-clause-only : goal.returns-clause-only
returns-clause-only g c = λ other t.
    let rest = awaits_rest _ _ _ _ _ _ (c.in_ok-tail.ensures.ok c.args.value.now c.args.octets.now [] (awaits_whole _ _ c.args.octets.now _ c.first-last.ensures)) in
    only_value _ _ c.requires _ _ c.read_end.result c.read_end.new.value other (c.read_end.ensures.ok c.args.value.now c.args.octets.now rest) (c.read_end.ensures.err c.args.value.now c.args.octets.now rest) t

pub returns-clause-fault : goal.returns-clause-fault
returns-clause-fault g c = λ fault e.
    let rest = awaits_rest _ _ _ _ _ _ (c.in_ok-tail.ensures.ok c.args.value.now c.args.octets.now [] (awaits_whole _ _ c.args.octets.now _ c.first-last.ensures)) in
    fault_of_read _ _ c.requires _ _ c.read_end.result fault (c.read_end.ensures.err c.args.value.now c.args.octets.now rest) e
