use Rattle.std.proofs.Common.{◌*◌, ◌≤◌, length, arith}
use Rattle.std.proofs.lemmas.List.{take_all}
use Rattle.bag_lanes.proofs.StreamLemmas.{value_of_begun, value_of_more}
use Rattle.bag_lanes.proofs.pieces.take_alone.Goals as goal

pub steps-init : goal.steps-init
steps-init g c = record {
  taken = λ octets held. value_of_begun g.A.Algorithm.function octets c.args.piece.now c.value_in-value.result (rw c.value_in-value.ensures held);
}

pub steps-preserved : goal.steps-preserved
steps-preserved g c = record {
  taken = λ octets held. value_of_more g.A.Algorithm.function octets c.args.piece.now c.block_at.result c.steps.value c.compress_alone.new.value c.steps.j
      (c.steps.invariant.taken octets held) (omega arith) c.block_at.ensures c.compress_alone.ensures;
}

pub returns-clause-own : goal.returns-clause-own
returns-clause-own g c = λ octets held.
    let f = g.A.Algorithm.function in
    let all : length c.args.piece.now ≤ c.steps.j * 64 = omega arith in
    let taken = rw (take_all (c.steps.j * 64) c.args.piece.now all) at c.steps.invariant.taken octets held in
    rw c.set_lane.ensures.own taken
