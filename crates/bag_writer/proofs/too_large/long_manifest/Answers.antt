use Rattle.std.proofs.Common.{◌∙◌, arith, sym}
use Rattle.std.proofs.lemmas.Bool.{false≢true}
use Rattle.bag_writer.specs.Writing.{payload_paths}
use Rattle.bag_writer.proofs.MeasuredTags.{empty_measured, longer_lines}
use Rattle.bag_writer.proofs.too_large.long_manifest.Goals as goal

pub returns-else-is_long_manifest : goal.returns-else-is_long_manifest
returns-else-is_long_manifest g c =
    let paths = payload_paths (g.P.Paths.shown c.args.tree.now) in
    let one = c.in_ok-alg.alg in
    λ alg given long. false≢true (sym c.if-is_long_manifest.false ∙ c.is_long_manifest.ensures.1 (omega (arith, long, empty_measured alg paths, empty_measured one paths, longer_lines alg one paths (c.in_ok-alg.ensures.1 alg given))))
