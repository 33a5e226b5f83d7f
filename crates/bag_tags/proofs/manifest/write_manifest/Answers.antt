use Rattle.std.proofs.Common.{◌≡◌, length, ap, ◌∙◌, subst, arith}
use Rattle.std.specs.List.{AllByRecursion}
use Rattle.bag_tags.specs.ManifestWriting.{CanBeWritten, written_manifest}
use Rattle.bag_tags.proofs.WritingLemmas.{facts, all_of}
use Rattle.bag_tags.proofs.ManifestWritingLemmas.{manifest_reads}
use Rattle.bag_tags.proofs.manifest.write_manifest.Goals as goal

pub returns-clause-reads : goal.returns-clause-reads
returns-clause-reads c =
    let all : c.loop-pair.pair-index ≡ length c.pairs-pair-items.result.now = omega arith in
    let good = subst (AllByRecursion CanBeWritten) c.pairs-pair-items.ensures.pairs (facts CanBeWritten _ _ all c.loop-pair.invariant.pairs) in
    manifest_reads _ _ _ _ (c.loop-pair.invariant.written ∙ ap written_manifest (all_of _ _ all ∙ c.pairs-pair-items.ensures.pairs)) good c.pairs-pair-items.ensures.fit c.pairs-pair-items.ensures.none_twice
