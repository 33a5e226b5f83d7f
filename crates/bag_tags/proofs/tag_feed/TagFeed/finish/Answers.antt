use Rattle.std.proofs.Common.{◌≡◌, None, rules, subst}
use Rattle.std.proofs.lemmas.Result.{err_from_is_err_and}
use Rattle.bag_tags.specs.Feeds.{IsFaultOf, IsTextFor, StandsAt}
use Rattle.bag_tags.specs.TagLines.{Faults}
use Rattle.bag_tags.proofs.FeedLemmas.{awaits_end, fault_at_end, memory_alone, one_value}
use Rattle.bag_tags.proofs.tag_feed.TagFeed.finish.Goals as goal

pub returns-in-Some-clause-only : goal.returns-in-Some-clause-only
returns-in-Some-clause-only c = λ version file octets value fed t.
    memory_alone version file octets value c.in-Some.fault t (fault_at_end version file octets c.args.self c.in-Some.fault (subst (StandsAt version file octets c.args.self) c.in-Some.is fed.stands))

pub returns-in-Some-clause-fault : goal.returns-in-Some-clause-fault
returns-in-Some-clause-fault c = λ version file octets fed.
    fault_at_end version file octets c.args.self c.in-Some.fault (subst (StandsAt version file octets c.args.self) c.in-Some.is fed.stands)

pub returns-in_err-end_value-clause-only : goal.returns-in_err-end_value-clause-only
returns-in_err-end_value-clause-only c = λ version file octets value fed t.
    let none : c.args.self.fault ≡ None = search rules in
    let error = err_from_is_err_and c.from_residual.result c.from_residual.ensures.1 in
    rw (error.1, error.2) (memory_alone version file octets value c.in_err-end_value.field-0.0 t
    (subst (λ v. Faults (IsFaultOf v file octets) c.in_err-end_value.field-0.0) fed.by_version (c.in_err-end_value.ensures.err file octets (awaits_end version file octets c.args.self none fed))))

pub returns-in_err-end_value-clause-fault : goal.returns-in_err-end_value-clause-fault
returns-in_err-end_value-clause-fault c = λ version file octets fed.
    let none : c.args.self.fault ≡ None = search rules in
    let error = err_from_is_err_and c.from_residual.result c.from_residual.ensures.1 in
    rw (error.1, error.2) (subst (λ v. Faults (IsFaultOf v file octets) c.in_err-end_value.field-0.0) fed.by_version (c.in_err-end_value.ensures.err file octets (awaits_end version file octets c.args.self none fed)))

pub returns-clause-value : goal.returns-clause-value
returns-clause-value c = λ version file octets fed.
    let none : c.args.self.fault ≡ None = search rules in
    subst (λ v. IsTextFor v file octets c.end_value.new.value) fed.by_version (c.in_ok-end_value.ensures.ok file octets (awaits_end version file octets c.args.self none fed))

pub returns-clause-only : goal.returns-clause-only
returns-clause-only c = λ version file octets value fed t.
    let none : c.args.self.fault ≡ None = search rules in
    one_value version file octets c.end_value.new.value value
    (subst (λ v. IsTextFor v file octets c.end_value.new.value) fed.by_version (c.in_ok-end_value.ensures.ok file octets (awaits_end version file octets c.args.self none fed))) t
