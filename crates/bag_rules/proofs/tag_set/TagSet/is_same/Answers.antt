use Rattle.std.proofs.Common.{sym, ◌∙◌}
use Rattle.bag_rules.proofs.SameFiles.{same_files}
use Rattle.bag_rules.proofs.tag_set.TagSet.is_same.Goals as goal

pub returns : goal.returns
returns c =
    let same = same_files c.self.inside.files.items c.other.inside.files.items c.eq.result c.eq.ensures in (
      λ yes. sym c.self.view_is ∙ same.0 yes ∙ c.other.view_is,
      λ e. same.1 (c.self.view_is ∙ e ∙ sym c.other.view_is),
    )
