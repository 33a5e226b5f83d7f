use Rattle.std.proofs.Common.{sym, subst, ◌∙◌}
use Rattle.bag_rules.proofs.Words.{AreTagFiles}
use Rattle.bag_rules.proofs.SameFiles.{cloned_files}
use Rattle.bag_rules.proofs.tag_set.TagSetClone.clone.Goals as goal

pub invariant_of-result : goal.invariant_of-result
invariant_of-result c = subst AreTagFiles (sym (cloned_files _ _ c.in_ok-files.ensures.cases.0)) c.self.invariant

pub returns : goal.returns
returns c = record { cases = cloned_files _ _ c.in_ok-files.ensures.cases.0 ∙ c.self.view_is }
