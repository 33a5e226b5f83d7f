use Rattle.std.proofs.Common.{rules, ◌∙◌, slice_index, arith}
use Rattle.bag_lanes.proofs.Vectors.{lane_is, lane_more, lane_same}
use Rattle.bag_lanes.proofs.lanes.set_lane.Goals as goal

pub words-preserved : goal.words-preserved
words-preserved g c = record {
  count = search rules;
  own = lane_more (slice_index c.args.value.now) c.args.i c.words.k c.words.state c.with_lane.result (omega (arith, c.words.invariant.count)) c.words.invariant.own c.with_lane.ensures.own;
  others = λ j other. lane_same j c.words.k c.words.state c.with_lane.result (c.with_lane.ensures.others j other) ∙ c.words.invariant.others j other;
}

pub returns-clause-own : goal.returns-clause-own
returns-clause-own g c =
    lane_is c.args.i c.words.state c.args.value.now (omega (arith, c.words.invariant.count)) (λ k h. c.words.invariant.own k (omega arith))
