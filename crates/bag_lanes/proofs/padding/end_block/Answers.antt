use Rattle.std.proofs.Common.{sym, ◌∙◌, arith}
use Rattle.std.proofs.lemmas.List.{take_rest}
use Rattle.bag_lanes.proofs.PaddedBlocks.{take-padded_after, take-padded_marked, take-padded_whole}
use Rattle.bag_lanes.proofs.padding.end_block.Goals as goal

pub returns-then-message-start : goal.returns-then-message-start
returns-then-message-start c =
    c.with_length.ensures ∙ sym (take-padded_after c.args.order c.args.message.now c.args.start c.requires.edge (omega arith) c.requires.within)

pub returns-then-message-start-2 : goal.returns-then-message-start-2
returns-then-message-start-2 c =
    let marked = rw (take_rest c.args.message.now c.args.start) at c.marked-octets.ensures in
    rw (c.with_length-then-message-start-2.ensures, marked)
    (sym (take-padded_whole c.args.order c.args.message.now c.args.start c.requires.edge (omega arith) (omega arith)))

pub returns : goal.returns
returns c =
    let marked = rw (take_rest c.args.message.now c.args.start) at c.marked-octets.ensures in
    marked ∙ sym (take-padded_marked c.args.order c.args.message.now c.args.start c.requires.edge (omega arith) (omega arith))
