use Rattle.std.proofs.Common.{◌≡◌, ℕ, length, ap, ◌∙◌, arith}
use Rattle.std.proofs.lemmas.List.{length-replicate}
use Rattle.std.specs.Int.{w32}
use Rattle.bag_lanes.specs.Standard.{octets_of}
use Rattle.bag_lanes.proofs.PaddedBlocks.{length-octets_of_word}
use Rattle.bag_lanes.proofs.Vectors.{lane_octets_more}
use Rattle.bag_lanes.proofs.lanes.lane_octets.Goals as goal

pub words-preserved : goal.words-preserved
words-preserved g c =
    let size : length c.octets_of_word.result ≡ 4 = ap length c.octets_of_word.ensures ∙ length-octets_of_word c.args.order _ in
    let kept : length c.put.new.octets ≡ length c.words.octets = c.put.auto.octets in
    record {
      count = kept ∙ c.words.invariant.count;
      front = lane_octets_more (octets_of c.args.order w32) c.args.i c.words.k c.args.state.now c.words.octets c.put.new.octets c.octets_of_word.result (omega arith) (omega (arith, length-replicate {A = ℕ} g.row.OCTETS 0, c.words.invariant.count)) c.words.invariant.front c.octets_of_word.ensures size c.put.ensures;
    }
