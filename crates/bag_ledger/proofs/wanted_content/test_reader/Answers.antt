use Rattle.std.proofs.Common.{◌∙◌}
use Rattle.std.proofs.lemmas.Result.{err_from_is_err_and}
use Rattle.bag_ledger.proofs.TestingLemmas.{read_tested}
use Rattle.bag_ledger.proofs.wanted_content.test_reader.Goals as goal

pub returns-in_err-test-clause-test : goal.returns-in_err-test-clause-test
returns-in_err-test-clause-test g c =
    let k = c.in_ok-sums.ensures.digests in
    let error = err_from_is_err_and c.from_residual-in_err-test.result c.from_residual-in_err-test.ensures.1 in
    rw (error.1, error.2) (read_tested c.args.want.now _ _ k.0 c.in_err-test.field-0.0 k.1
    (c.in_err-test.ensures.octets k.0 (record { set = c.algs.result; are_sums = k.2; covers = λ alg lists. c.algs.ensures alg ∙ lists })))

pub returns-clause-test : goal.returns-clause-test
returns-clause-test g c =
    let k = c.in_ok-sums.ensures.digests in
    (k.0, (k.1, c.in_ok-test.ensures.octets k.0 (record { set = c.algs.result; are_sums = k.2; covers = λ alg lists. c.algs.ensures alg ∙ lists })))
