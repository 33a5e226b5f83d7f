use Rattle.std.proofs.Common.{codes, [], refl}
use Rattle.bag_path.specs.Lines.{lines_of}
use Rattle.bag_path.specs.declared.version.Version.TheVariants.{V097}
use Rattle.bag_tags.specs.declared.tag_fault.LineCause.TheVariants.{NoSeparator, BadLabel}
use Rattle.bag_tags.specs.Infos.{IsFit}
use Rattle.bag_tags.specs.InfoText.{AddsInfo, RefusesInfo}
use Rattle.bag_tags.specs.WordsReading.{until}
use Rattle.bag_tags.proofs.ExampleLines.{at, faulty}
use Rattle.bag_tags.proofs.InfoDecisionLemmas.{info_exact}
use Rattle.bag_tags.proofs.InfoLineLemmas.{front_of, parts_of}
use Rattle.bag_tags.proofs.examples.other_lines_of_a_bag_info_of_version_0_97_are_faults.Goals as goal

unfit : ¬ IsFit []
unfit h = h.some refl

pub returns : goal.returns
unfolding lines_of until
returns c = (
  faulty (AddsInfo V097) (RefusesInfo V097) (info_exact V097) [] [] (codes "a b") [] [] (at 1 (codes "a b")) NoSeparator refl refl refl refl
      (refl, front_of (codes "a b") (codes "a b") [] refl),
  faulty (AddsInfo V097) (RefusesInfo V097) (info_exact V097) [] [] (codes ":v") [] [] (at 1 (codes ":v")) BadLabel refl refl refl refl
      (refl, ([], (codes "v", parts_of V097 (codes ":v") [] (codes "v") [] (codes "v") refl ([], refl, tt, refl) ([], refl, tt, refl), unfit))),
  faulty (AddsInfo V097) (RefusesInfo V097) (info_exact V097) [] [] (codes ": v") [] [] (at 1 (codes ": v")) BadLabel refl refl refl refl
      (refl, ([], (codes "v", parts_of V097 (codes ": v") [] (codes " v") [] (codes "v") refl ([], refl, tt, refl) (codes " ", refl, (refl, tt), refl), unfit))),
)
