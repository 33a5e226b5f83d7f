use Rattle.std.proofs.Common.{◌*◌, sym, ◌∙◌, arith}
use Rattle.bag_lanes.proofs.PaddedBlocks.{take-padded_before}
use Rattle.bag_lanes.proofs.padding.padded_block.Goals as goal

pub returns-then-start-message : goal.returns-then-start-message
returns-then-start-message c = c.block_at.ensures ∙ sym (take-padded_before c.args.order c.args.message.now (c.args.j * 64) (omega arith))
