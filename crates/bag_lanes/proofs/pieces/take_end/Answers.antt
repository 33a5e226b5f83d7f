use Rattle.std.proofs.Common.{ap, ◌∙◌}
use Rattle.bag_lanes.specs.Lanes.{lane}
use Rattle.bag_lanes.proofs.StreamLemmas.{final_long, final_short, same_block}
use Rattle.bag_lanes.proofs.pieces.take_end.Goals as goal

pub returns-then-rest-lt56 : goal.returns-then-rest-lt56
returns-then-rest-lt56 g c = λ i low octets held counted.
    let f = g.A.Algorithm.function in
    let value = lane i c.args.state.now in
    let block = rw (c.marked-last.ensures, c.order-order.ensures) at c.with_length.ensures in
    let next = c.compress.ensures i low ∙ ap (f.compress value) (same_block c.with_length.result i low) in
    final_short f octets c.args.rest.now value held c.args.count counted c.with_length.result (lane i c.compress.new.state) c.if-rest-lt56.true block next

pub returns : goal.returns
returns g c = λ i low octets held counted.
    let f = g.A.Algorithm.function in
    let value = lane i c.args.state.now in
    let middle = lane i c.compress-2.new.state in
    let block = rw c.order-order.ensures at c.with_length-2.ensures in
    let first = c.compress-2.ensures i low ∙ ap (f.compress value) (same_block c.marked-last.result i low) in
    let next = c.compress-3.ensures i low ∙ ap (f.compress middle) (same_block c.with_length-2.result i low) in
    final_long f octets c.args.rest.now value held c.args.count counted c.marked-last.result c.with_length-2.result middle (lane i c.compress-3.new.state) c.if-rest-lt56.false c.requires.rest
    c.marked-last.ensures block first next
