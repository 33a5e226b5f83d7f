use Rattle.std.proofs.Common.{None}
use Rattle.bag_rules.proofs.Words.{Files, Payload}
use Rattle.bag_writer.specs.Steps.{AreItemsOf}
use Rattle.bag_writer.specs.TagWriting.{AddsItems, CanBeListed}
use Rattle.bag_writer.proofs.TagSteps.{Writes}
use Rattle.bag_writer.proofs.TagTexts.{first_manifests}
use Rattle.bag_writer.proofs.tag_files.write_payload_manifests.Given as goal

abbrev pub invariant-loop-alg : goal.invariant-loop-alg
invariant-loop-alg g l = (payload : Files) → AreItemsOf l.set l.items payload → CanBeListed Payload payload
    → Writes g.S.Sink.stored g.S.Sink.is_open g.S.Sink.failures g.S.Sink.sure (first_manifests Payload payload l.set l.alg-index) l.fn.sink l.sink None
    × AddsItems l.set (first_manifests Payload payload l.set l.alg-index) l.fn.listed.items l.listed.items
