use Rattle.std.proofs.Common.{refl}
use Rattle.bag_rules.proofs.KeptLemmas.{none_kept}
use Rattle.bag_rules.proofs.tag_sums.TagSums.new.Goals as goal

pub returns-clause-kept : goal.returns-clause-kept
returns-clause-kept c = λ shown. none_kept shown _ c.new.ensures.items

pub returns-clause-empty : goal.returns-clause-empty
returns-clause-empty c = (c.new.ensures.items, refl)
