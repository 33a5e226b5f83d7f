use Rattle.std.proofs.Common.{◌≡◌, ◌∙◌, ap, Contains, slice_get, Some, sym, subst}
use Rattle.bag_rules.proofs.Words.{AreRising, get_or_from_slice_get, given_at}
use Rattle.bag_rules.proofs.PlanLemmas.{want_is}
use Rattle.bag_rules.proofs.RisingPaths.{contains_at}
use Rattle.bag_rules.proofs.plan.Plan.want.Goals as goal

pub returns-in_err-place : goal.returns-in_err-place
returns-in_err-place c = λ tags is.
    let paths = c.args.self.now.paths.items in
    rw c.from_residual.ensures (λ expected. c.in_err-place.ensures.absent (subst AreRising (sym c.deref.ensures.value) is.paths.rising)
    (subst (λ ps. Contains ps c.args.path.now) (sym c.deref.ensures.value) ((is.paths.exact c.args.path.now).1 expected)))

pub returns : goal.returns
returns c = λ tags is.
    let path = c.args.path.now in
    let paths = c.args.self.now.paths.items in
    let by = c.want_of.ensures in
    let there : slice_get paths c.in_ok-place.place ≡ Some path = subst (λ ps. slice_get ps c.in_ok-place.place ≡ Some path) c.deref.ensures.value c.in_ok-place.ensures.found in
    let here : c.index.result.now ≡ path = c.index.ensures ∙ get_or_from_slice_get paths c.in_ok-place.place path c.index.result.now there in
    want_is tags c.args.self.now is path c.want_of.result (contains_at paths c.in_ok-place.place path there)
    (record { path_is = by.path_is ∙ here; manifests = by.manifests ∙ c.deref-2.ensures.value; given = by.given ∙ ap (given_at c.args.self.now.lengths) here })
