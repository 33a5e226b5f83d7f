use Rattle.std.proofs.Common.{codes, refl}
use Rattle.bag_path.specs.SpellingReading.{octets_spelled_after}
use Rattle.bag_path.specs.declared.version.Version.TheVariants.{V097}
use Rattle.bag_path.proofs.SpellsLemmas.{spells_if_read}
use Rattle.bag_path.proofs.examples.percent_stands_for_itself_in_version_0_97.Goals as goal

pub returns : goal.returns
unfolding octets_spelled_after
returns c = (spells_if_read V097 _ (codes "data/%41") refl, spells_if_read V097 _ (codes "data/%25") refl, spells_if_read V097 _ (codes "data/%%0%") refl)
