use Rattle.std.proofs.Common.{◌≡◌, ◌+◌, ◌-◌, ℕ, List}
use Rattle.bag_digest.specs.Failures.{UsesSource}
use Rattle.bag_rules.specs.declared.limits.TheConstants.{LARGEST_FILE}
use Rattle.bag_writer.proofs.OctetSteps.{HasCopied}
use Rattle.bag_writer.specs.Sinks.{UsesSink}
use Rattle.bag_writer.proofs.payload_in_turn.copy_octets.Given as goal

abbrev pub invariant-pieces : goal.invariant-pieces
invariant-pieces g l =
    let source = g.R.Source in
    let sink = g.S.Sink in
    record {
      copied : (octets : List ℕ) × HasCopied l.fn.set (source.remaining l.fn.source) (source.remaining l.source) (sink.stored l.fn.sink) (sink.stored l.sink) l.multi l.total octets;
      read : UsesSource source.failures source.ready source.keeps l.fn.source l.source ⊥;
      opened : sink.is_open l.sink ≡ sink.is_open l.fn.sink;
      written : UsesSink sink.failures sink.sure l.fn.sink l.sink (Unit {0}) ⊥;
    }

abbrev pub decreases-pieces : goal.decreases-pieces
decreases-pieces g l = LARGEST_FILE + 1 - l.total
