use Rattle.std.proofs.Common.{[], codes, refl, inl, inr}
use Rattle.bag_path.specs.SpellingReading.{octets_spelled_after}
use Rattle.bag_path.specs.declared.version.Version.TheVariants.{V1}
use Rattle.bag_path.proofs.SpellsLemmas.{spells_if_read}
use Rattle.bag_path.proofs.Version097Lemmas.{no_spelling}
use Rattle.bag_path.proofs.examples.a_literal_line_escape_has_no_spelling_in_version_0_97.Goals as goal

pub returns : goal.returns
unfolding octets_spelled_after
returns c = (
  λ text. no_spelling (codes "data/") (codes "%0A") [] text 10 (inl (refl, inl refl)),
  λ text. no_spelling (codes "data/") (codes "%0d") (codes "k") text 13 (inr (refl, inr refl)),
  spells_if_read V1 _ (codes "data/%250A") refl,
)
