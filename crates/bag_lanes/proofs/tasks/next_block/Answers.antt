use Rattle.bag_lanes.proofs.LaneTasks.{message_at_read}
use Rattle.bag_lanes.proofs.tasks.next_block.Goals as goal

pub padded_block-requires : goal.padded_block-requires
padded_block-requires c = rw (← message_at_read c.args.messages.now c.in-Some.task.message) (c.requires.left c.in-Some.task c.in-Some.is)
