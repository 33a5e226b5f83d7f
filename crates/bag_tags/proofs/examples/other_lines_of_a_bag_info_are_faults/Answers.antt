use Rattle.std.proofs.Common.{◌≡◌, codes, true, false, [], refl}
use Rattle.bag_path.specs.Lines.{lines_of}
use Rattle.bag_path.specs.declared.version.Version.TheVariants.{V1}
use Rattle.bag_tags.specs.declared.tag_fault.LineCause.TheVariants.{NoSeparator, BadLabel, NothingToContinue}
use Rattle.bag_tags.specs.Infos.{IsFit}
use Rattle.bag_tags.specs.InfoText.{AddsInfo, RefusesInfo}
use Rattle.bag_tags.specs.WordsReading.{until}
use Rattle.bag_tags.proofs.ExampleLines.{at, faulty}
use Rattle.bag_tags.proofs.InfoDecisionLemmas.{info_exact}
use Rattle.bag_tags.proofs.InfoLineLemmas.{colon_of, front_of, lacks_colon, lacks_first, parts_of}
use Rattle.bag_tags.proofs.LabelLemmas.{not_after}
use Rattle.bag_tags.proofs.examples.other_lines_of_a_bag_info_are_faults.Goals as goal

unfit : ¬ IsFit (codes "L ")
unfit h = let e : true ≡ false = h.ends in cc

pub returns : goal.returns
unfolding lines_of until
returns c = (
  faulty (AddsInfo V1) (RefusesInfo V1) (info_exact V1) [] [] (codes " x") [] [] (at 1 (codes " x")) NothingToContinue refl refl refl refl
      (refl, refl),
  faulty (AddsInfo V1) (RefusesInfo V1) (info_exact V1) [] [] (codes "a b") [] [] (at 1 (codes "a b")) NoSeparator refl refl refl refl
      (refl, lacks_colon V1 (codes "a b") (front_of (codes "a b") (codes "a b") [] refl)),
  faulty (AddsInfo V1) (RefusesInfo V1) (info_exact V1) [] [] (codes "a:b") [] [] (at 1 (codes "a:b")) NoSeparator refl refl refl refl
      (refl, lacks_first V1 (codes "a:b") (codes "a") (codes "b") (colon_of (codes "a:b") (codes "a") (codes "b") 58 refl) (not_after 98 [] refl)),
  faulty (AddsInfo V1) (RefusesInfo V1) (info_exact V1) [] [] (codes "L : v") [] [] (at 1 (codes "L : v")) BadLabel refl refl refl refl
      (refl, (codes "L ", (codes "v", parts_of V1 (codes "L : v") (codes "L ") (codes " v") (codes "L ") (codes "v") refl refl (refl, refl), unfit))),
)
