use Rattle.std.proofs.Common.{inl}
use Rattle.bag_sqlite.proofs.Words.{err_from_is_err_and}
use Rattle.bag_sqlite.proofs.RefusingLemmas.{bad_tag, tags_error}
use Rattle.bag_sqlite.proofs.verifying.plan_in.Goals as goal

pub returns-in_err-tags-clause-refused : goal.returns-in_err-tags-clause-refused
returns-in_err-tags-clause-refused c =
    let p = err_from_is_err_and c.from_residual.result c.from_residual.ensures.1 in
    let read = c.in_err-tags.ensures in
    rw (p.1, p.2) (tags_error _ _ c.tag_set_in.result read.0 _ read.1 c.tag_set_in.ensures.refused read.2)

pub returns-in_default-clause-refused : goal.returns-in_default-clause-refused
returns-in_default-clause-refused c = inl (bad_tag _ _ c.tag_set_in.result (rw c.in_default.is at c.in_ok-tags.ensures) c.tag_set_in.ensures.refused)
