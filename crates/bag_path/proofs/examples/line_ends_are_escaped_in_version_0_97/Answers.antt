use Rattle.std.proofs.Common.{codes, refl}
use Rattle.bag_path.specs.SpellingReading.{octets_spelled_after}
use Rattle.bag_path.specs.declared.version.Version.TheVariants.{V097}
use Rattle.bag_path.proofs.SpellsLemmas.{spells_if_read}
use Rattle.bag_path.proofs.examples.line_ends_are_escaped_in_version_0_97.Goals as goal

pub returns : goal.returns
unfolding octets_spelled_after
returns c = (spells_if_read V097 _ (codes "data/%0a") refl, spells_if_read V097 _ (codes "data/%0A%0D%0d") refl, spells_if_read V097 _ (codes "%%0A0A") refl)
