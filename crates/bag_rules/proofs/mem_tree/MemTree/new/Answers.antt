use Rattle.std.proofs.Common.{refl}
use Rattle.bag_rules.proofs.MemoryShown.{empty_sound}
use Rattle.bag_rules.proofs.mem_tree.MemTree.new.Goals as goal

pub invariant_of-result : goal.invariant_of-result
invariant_of-result c = empty_sound _ c.new.ensures.items refl
