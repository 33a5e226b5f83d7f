use Rattle.std.proofs.Common.{ap, ◌∙◌}
use Rattle.bag_rules.proofs.Words.{bytes_eq, files_of, lookup}
use Rattle.bag_rules.proofs.tag_set.TagSet.get.Goals as goal

pub returns : goal.returns
returns c = c.body_of.ensures ∙ ap (λ files. lookup (bytes_eq c.args.path.now) (files_of files)) c.deref.ensures.value ∙ ap (lookup (bytes_eq c.args.path.now)) c.self.view_is
