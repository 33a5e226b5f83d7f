use Rattle.std.proofs.Common.{◌≢◌, ℕ, List, subst}
use Rattle.std.specs.Prelude.{MatchResult}
use Rattle.bag_rules.specs.declared.tag_set.TagSetFault.{TagSetFault}
use Rattle.bag_rules.specs.declared.tag_set.TagSetFault.TheVariants.{Memory}
use Rattle.bag_rules.specs.TagSets.{RefusesFile}
use Rattle.bag_rules.proofs.tag_set.TagSet.add.Goals as goal

pub returns-in-Ok-clause-fault : goal.returns-in-Ok-clause-fault
returns-in-Ok-clause-fault c =
    subst (λ (path : List ℕ). MatchResult c.insert.result
    (λ _. (fault : TagSetFault) → fault ≢ Memory
    → ¬ RefusesFile c.args.self.now path c.args.body.items fault)
    (RefusesFile c.args.self.now path c.args.body.items))
    c.in-Ok.ensures.text c.insert.ensures.fault
