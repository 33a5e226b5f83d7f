use Rattle.std.proofs.Common.{◌≡◌, ◌++◌, ◌∙◌, drop, length, rules, sym}
use Rattle.bag_folder.proofs.PayloadFolders.{without_lacking, without_there}
use Rattle.bag_folder.proofs.in_payload.without.Goals as goal

pub returns-in-Some : goal.returns-in-Some
returns-in-Some c =
    let n = c.in-Some.ensures.cases.0 in
    let size : n ≡ length c.args.front.now = search rules in
    let at : c.args.text.now ≡ c.args.front.now ++ drop n c.args.text.now = search rules in
    let is : c.in-Some.rest.now ≡ drop n c.args.text.now = search rules in
    is ∙ sym (without_there c.args.front.now c.args.text.now n size at)

pub returns-in-None : goal.returns-in-None
returns-in-None c = sym (without_lacking c.args.front.now c.args.text.now c.in-None.ensures.cases)
