use Rattle.std.proofs.Common.{refl, rules}
use Rattle.bag_writer.proofs.payload_beside.hold.Goals as goal

pub returns-in-Ok-push : goal.returns-in-Ok-push
returns-in-Ok-push g c = record {
  last = record { source = c.args.copy.source; target = c.args.copy.target; piece = c.extend_from_slice.new.self; found = c.found_in-copy.result };
  all = c.in-Ok-push.ensures.items;
  source_is = refl;
  target_is = refl;
  piece_is = search rules;
  whole = c.found_in-copy.ensures.whole;
  more = c.found_in-copy.ensures.more;
}
