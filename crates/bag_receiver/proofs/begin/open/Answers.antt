use Rattle.std.proofs.Common.{sym, subst}
use Rattle.bag_receiver.proofs.BeginRefusals.{alone, taken, told, told_large}
use Rattle.bag_receiver.proofs.Words.{FewLines, given_in, IsRefusal}
use Rattle.bag_receiver.proofs.begin.open.Goals as goal

pub returns-in-Some-clause-refused : goal.returns-in-Some-clause-refused
returns-in-Some-clause-refused c =
    let given = given_in c.args.files.now in
    let none = c.in_ok-tags.ensures.placed.0 in
    let few = subst FewLines c.in_ok-tags.ensures.placed.1 c.in-Ok.ensures.opened.opens.few_lines in
    told_large given none c.in-Some.heavy.now c.too_large.result (alone given none c.in-Some.heavy.now c.in-Some.ensures few) c.too_large.ensures

pub returns-in-Ok-clause-taken : goal.returns-in-Ok-clause-taken
returns-in-Ok-clause-taken c =
    let placed = c.in_ok-tags.ensures.placed in
    let is = c.in-Ok.ensures.opened in
    (taken (given_in c.args.files.now) placed.0 c.in-None.ensures c.in_ok-tags.tags c.in-Ok.plan placed.1 is, is)

pub returns-clause-refused : goal.returns-clause-refused
returns-clause-refused c =
    let given = given_in c.args.files.now in
    let placed = c.in_ok-tags.ensures.placed in
    subst (IsRefusal given) (sym c.from.ensures) (told given placed.0 c.in-None-heavy.ensures c.in_ok-tags.tags c.in-Err.fault placed.1 c.in-Err.ensures.refused)
