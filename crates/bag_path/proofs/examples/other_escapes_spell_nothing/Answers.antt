use Rattle.std.proofs.Common.{codes, refl}
use Rattle.bag_path.specs.SpellingReading.{octets_spelled_after}
use Rattle.bag_path.specs.declared.version.Version.TheVariants.{V1}
use Rattle.bag_path.proofs.SpellsLemmas.{nothing_if_none}
use Rattle.bag_path.proofs.examples.other_escapes_spell_nothing.Goals as goal

pub returns : goal.returns
unfolding octets_spelled_after
returns c = (nothing_if_none V1 (codes "data/%41") refl, nothing_if_none V1 (codes "data/%2") refl, nothing_if_none V1 (codes "100%") refl)
