use Rattle.std.proofs.Common.{◌≡◌, ◌↔◌, ◌∷◌, [], List, ap, rules, subst}
use Rattle.bag_rules.proofs.Words.{Fault, Has, Judged}
use Rattle.bag_rules.proofs.OneVerdictLemmas.{lone_report}
use Rattle.bag_rules.proofs.checking.judged_by_one.Goals as goal

pub returns-clause-ok : goal.returns-clause-ok
returns-clause-ok c =
    let one : c.push.new.self.items ≡ c.args.fault ∷ [] = search rules in
    ap (λ (report : List Fault). Judged report) (lone_report c.args.fault _ c.new.ensures.in_order (subst (λ (fs : List Fault). (f : Fault) → Has c.new.result f ↔ Has fs f) one c.new.ensures.same))
