use Rattle.std.proofs.Common.{◌∙◌, ap}
use Rattle.bag_lanes.specs.Lanes.{lane}
use Rattle.bag_lanes.specs.Standard.{sha256_function}
use Rattle.bag_lanes.specs.Streams.{sha256_state}
use Rattle.bag_lanes.proofs.StreamLemmas.{held_beside}
use Rattle.bag_lanes.proofs.hashers.Sha256Lanes.take_alone.Goals as goal

pub returns-clause-others : goal.returns-clause-others
returns-clause-others c = λ j other octets held.
    held_beside sha256_function (sha256_state c.args.self.now) (sha256_state c.set_state.new.self) c.take_alone.new.state c.args.self.now.counts c.set_state.new.self.counts c.args.i j _ octets
    c.set_state.ensures.state (c.take_alone.ensures.others j other ∙ ap (lane j) c.state-state.ensures) c.set_state.ensures.counts other held
