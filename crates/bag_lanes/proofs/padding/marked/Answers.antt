use Rattle.bag_lanes.proofs.PaddedBlocks.{mark_set}
use Rattle.bag_lanes.proofs.padding.marked.Goals as goal

pub returns : goal.returns
returns c = mark_set c.args.rest.now c.put.new.octets c.requires c.put.ensures
