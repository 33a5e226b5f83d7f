use Rattle.std.proofs.Common.{◌%◌}
use Rattle.bag_lanes.proofs.Vectors.{lane-set}
use Rattle.bag_lanes.proofs.sha1_rounds.next_word.Goals as goal

pub returns-clause-kept : goal.returns-clause-kept
returns-clause-kept c = λ i. lane-set i (c.args.t % 16) c.args.w.now c.rotated_left-word.result
