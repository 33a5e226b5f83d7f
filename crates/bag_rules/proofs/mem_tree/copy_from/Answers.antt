use Rattle.std.proofs.Common.{rules}
use Rattle.bag_rules.proofs.MemoryShown.{copied}
use Rattle.bag_rules.proofs.mem_tree.copy_from.Goals as goal

pub returns-clause-copied : goal.returns-clause-copied
returns-clause-copied c = copied c.args.body.now c.args.buf.now c.copy_from_slice.new.self c.args.at c.min-n.result c.copy_from_slice.ensures.after (search rules)
