use Rattle.std.proofs.Common.{codes, refl}
use Rattle.bag_path.specs.SpellingReading.{octets_spelled_after}
use Rattle.bag_path.specs.declared.version.Version.TheVariants.{V1}
use Rattle.bag_path.proofs.SpellsLemmas.{spells_if_read}
use Rattle.bag_path.proofs.examples.an_escape_in_lower_case_is_written_in_upper_case.Goals as goal

pub returns : goal.returns
unfolding octets_spelled_after
returns c = (spells_if_read V1 _ (codes "data/%0a") refl, refl)
