use Rattle.std.proofs.Common.{◌∙◌, sym}
use Rattle.std.specs.Map.{keys_of}
use Rattle.bag_writer.proofs.MeasuredTags.{empty_measured, measured}
use Rattle.bag_writer.proofs.laws.a_manifest_is_as_long_as_with_empty_files.Goals as goal

pub returns : goal.returns
returns c = λ alg payload. measured alg payload ∙ sym (empty_measured alg (keys_of payload))
