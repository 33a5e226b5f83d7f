use Rattle.std.proofs.Common.{◌==◌, ◌∙◌, rules}
use Rattle.std.proofs.lemmas.Iterator.Splits.{YieldsList-from_slice_split}
use Rattle.std.proofs.lemmas.Iterator.Search.{any_from_yields_List}
use Rattle.bag_path.specs.Paths.{is_empty_segment}
use Rattle.bag_path.proofs.path.has_empty_segment.Goals as goal

pub returns : goal.returns
returns c =
    any_from_yields_List is_empty_segment _ _ c.any.result c.any.ensures.ran
    (YieldsList-from_slice_split _ (λ b. b == 47) c.args.text.now (c.split.ensures.rest ∙ c.as_bytes.ensures.value) c.split.ensures.done c.split.ensures.closure (λ x b q h. search rules))
    (λ x b q h. search rules)
