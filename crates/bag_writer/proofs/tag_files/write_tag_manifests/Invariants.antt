use Rattle.std.proofs.Common.{None}
use Rattle.bag_rules.proofs.Words.{Files, Tag}
use Rattle.bag_writer.specs.Steps.{AreItemsOf}
use Rattle.bag_writer.specs.TagWriting.{CanBeListed}
use Rattle.bag_writer.proofs.TagSteps.{Writes}
use Rattle.bag_writer.proofs.TagTexts.{first_manifests}
use Rattle.bag_writer.proofs.tag_files.write_tag_manifests.Given as goal

abbrev pub invariant-loop-alg : goal.invariant-loop-alg
invariant-loop-alg g l = (files : Files) → AreItemsOf l.set l.listed files → CanBeListed Tag files
    → Writes g.S.Sink.stored g.S.Sink.is_open g.S.Sink.failures g.S.Sink.sure (first_manifests Tag files l.set l.alg-index) l.fn.sink l.sink None
