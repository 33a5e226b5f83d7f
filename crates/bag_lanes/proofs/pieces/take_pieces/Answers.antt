use Rattle.std.proofs.Common.{◌≡◌, ℕ, List, ◌+◌, ◌*◌, ◌/◌, ◌++◌, length, take, arith}
use Rattle.bag_lanes.specs.Lanes.{lane}
use Rattle.bag_lanes.specs.Streams.{IsValueOf, piece_at}
use Rattle.bag_lanes.proofs.StreamLemmas.{read_at, value_of_all, value_of_begun, value_of_step}
use Rattle.bag_lanes.proofs.Vectors.{each_lane}
use Rattle.bag_lanes.proofs.pieces.take_pieces.Goals as goal

pub steps-init : goal.steps-init
steps-init g c = record {
  taken = λ i low octets held. value_of_begun g.A.Algorithm.function octets (piece_at c.args.pieces.now i) (lane i c.args.state.now) held;
}

pub steps-preserved : goal.steps-preserved
steps-preserved g c =
    let f = g.A.Algorithm.function in
    let pieces = c.args.pieces.now in
    let are = c.requires.pieces in
    let before = c.steps.invariant.taken in
    let next = c.compress.ensures in
    let j : ℕ = c.steps.j in
    let more = c.steps-test.true in
    record {
      taken = each_lane (λ i. (octets : List ℕ) → IsValueOf f octets (lane i c.args.state.now)
          → IsValueOf f (octets ++ take ((j + 1) * 64) (piece_at pieces i)) (lane i c.compress.new.state))
          (λ octets held. value_of_step f pieces octets _ _ _ 0 j are (omega arith) more (before 0 (omega arith) octets held) c.block_at.ensures (next 0 (omega arith)))
          (λ octets held. value_of_step f pieces octets _ _ _ 1 j are (omega arith) more (before 1 (omega arith) octets held) c.block_at-in-steps.ensures (next 1 (omega arith)))
          (λ octets held. value_of_step f pieces octets _ _ _ 2 j are (omega arith) more (before 2 (omega arith) octets held) c.block_at-in-steps-2.ensures (next 2 (omega arith)))
          (λ octets held. value_of_step f pieces octets _ _ _ 3 j are (omega arith) more (before 3 (omega arith) octets held) c.block_at-in-steps-3.ensures (next 3 (omega arith)));
    }

pub returns : goal.returns
returns g c = λ i low octets held.
    let f = g.A.Algorithm.function in
    let pieces = c.args.pieces.now in
    let end : c.steps.j ≡ length (read_at pieces 0) / 64 = omega arith in
    value_of_all f pieces octets (lane i c.steps.state) i c.steps.j c.requires.pieces low end (c.steps.invariant.taken i low octets held)
