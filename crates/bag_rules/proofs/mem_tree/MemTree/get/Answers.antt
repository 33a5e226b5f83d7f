use Rattle.std.proofs.Common.{ap, ◌∙◌}
use Rattle.bag_rules.proofs.Words.{bytes_eq, files_of, lookup, octets_at}
use Rattle.bag_rules.proofs.mem_tree.MemTree.get.Goals as goal

pub returns : goal.returns
returns c =
    c.body_of.ensures
    ∙ (λ t. lookup (bytes_eq (c.as_str.ensures.text t)) (files_of (c.deref.ensures.value t)))
    ∙ ap (λ tree. octets_at tree c.args.path.now) c.self.view_is
