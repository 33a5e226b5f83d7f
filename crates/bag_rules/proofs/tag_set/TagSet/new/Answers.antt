use Rattle.std.specs.List.Sorted.{IsStrictlySortedBy}
use Rattle.std.proofs.Common.{List, subst, sym}
use Rattle.bag_rules.proofs.Words.{AreTagFiles, File, files_of}
use Rattle.bag_rules.proofs.tag_set.TagSet.new.Goals as goal

pub invariant_of-result : goal.invariant_of-result
unfolding IsStrictlySortedBy
invariant_of-result c = subst (λ (fs : List File). AreTagFiles (files_of fs)) (sym c.new.ensures.items) (record { rising = tt; each = tt })
