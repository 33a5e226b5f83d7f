use Rattle.std.proofs.Common.{refl}
use Rattle.bag_rules.specs.KeptInside.{kept_file}
use Rattle.bag_rules.proofs.KeptLemmas.{kept_push}
use Rattle.bag_rules.proofs.tag_sums.TagSums.add.Goals as goal

pub returns-clause-kept : goal.returns-clause-kept
returns-clause-kept c = λ shown are of.
    kept_push shown c.args.self.now _ (kept_file c.args.place c.args.sums) are refl c.in_ok-push.ensures.items of

pub returns-clause-added : goal.returns-clause-added
returns-clause-added c = record { set = refl; files = c.in_ok-push.ensures.items }
