use Rattle.std.proofs.Common.{◌≡◌, true, Result, Ok, Err, MatchResult, is_ok, rules}
use Rattle.bag_rules.proofs.Words.{Fits, false≢true, on_ok_weaker}
use Rattle.bag_rules.proofs.FileFaultLemmas.{faults_by, fits_unlisted}
use Rattle.bag_rules.proofs.file_faults.add_faults_of.Goals as goal

when_ok : {X E P : Type 0} (r : Result X E) (Q : E → Type 0) → is_ok r ≡ true → MatchResult r (λ _. P) Q → P
when_ok (Ok x) Q h p = p
when_ok (Err e) Q h q = absurd (false≢true h)

pub returns-then-is_ok : goal.returns-then-is_ok
returns-then-is_ok c = λ set octets are lists.
    let want = c.args.want.now in
    let sums = c.args.sums.now in
    let fits : Fits want sums = when_ok c.test.result _ (search rules) c.test.ensures.fits in
    fits_unlisted c.args.version want octets sums set are lists _ _ fits c.in_ok-add_unlisted.ensures

pub returns : goal.returns
returns c = λ set octets are lists.
    on_ok_weaker c.add_other_digests.result (faults_by c.args.version c.args.want.now octets c.args.sums.now set are lists _ _ _ _ c.in_ok-add_unlisted.ensures c.in_ok-add_other_lengths.ensures) c.add_other_digests.ensures
