use Rattle.std.proofs.Common.{◌∙◌, subst, sym}
use Rattle.bag_receiver.specs.Holdings.{HasItem}
use Rattle.bag_receiver.proofs.AuditLemmas.{told_some, told_valid}
use Rattle.bag_receiver.proofs.audit.read_again.Goals as goal

pub returns-in-Some-2-clause-judged : goal.returns-in-Some-2-clause-judged
returns-in-Some-2-clause-judged g c = λ clean tags content plan item sized passes.
    let is = c.in-Some.ensures tags plan in
    let there = subst (λ p. HasItem g.K.Keeper.holds c.args.keeper.now c.args.name.now p content) (sym (c.path-path.ensures ∙ is.path_is)) item in
    let took = rw c.in-Some-2.is at (c.in_ok-content-in-Some.ensures.took clean content there sized) in
    told_valid tags c.args.item.now.path c.in-Some.want content c.of.result is passes (c.of.ensures.told c.algs.result content (λ alg listed. c.algs.ensures alg ∙ listed) sized took)

pub returns-in-Some-2-clause-some : goal.returns-in-Some-2-clause-some
returns-in-Some-2-clause-some g c = λ tags plan.
    let is = c.in-Some.ensures tags plan in
    let (taken, sized, took) = rw c.in-Some-2.is at c.in_ok-content-in-Some.ensures.some in
    told_some tags c.args.item.now c.in-Some.want taken c.of.result is sized c.if-item-le-LARGEST_ITEM.true (c.of.ensures.told c.algs.result taken (λ alg listed. c.algs.ensures alg ∙ listed) sized took)
