use Rattle.std.proofs.Common.{◌≡◌, ◌+◌, ◌++◌, ◌∷◌, ◌∙◌, [], ap, sym, subst, take, rules}
use Rattle.std.proofs.lemmas.List.{take_more}
use Rattle.bag_receiver.specs.FetchingInside.{AreRequests}
use Rattle.bag_receiver.proofs.FetchLemmas.{requests_more}
use Rattle.bag_receiver.proofs.fetch.requests_of.Goals as goal

pub loop-line-preserved : goal.loop-line-preserved
loop-line-preserved c =
    let lines = c.fetch-line-items.result.now in
    let i = c.loop-line.line-index in
    let line = c.line-item.result in
    let pushed : c.push.new.self.items ≡ c.loop-line.requests.items ++ c.in_ok-request_for.field-0 ∷ [] = search rules in
    let all = take_more lines i line c.loop-line-test.true ∙ ap (λ l. take i lines ++ l ∷ []) (sym c.line-item.is) in
    subst (λ requests. AreRequests c.args.paths.now (take (i + 1) lines) requests) (sym pushed)
    (subst (λ l. AreRequests c.args.paths.now l (c.loop-line.requests.items ++ c.in_ok-request_for.field-0 ∷ [])) (sym all)
    (requests_more c.args.paths.now (take i lines) c.loop-line.requests.items line c.in_ok-request_for.field-0 c.loop-line.invariant c.in_ok-request_for.ensures))
