use Rattle.std.proofs.Common.{List, ℕ, codes, ◌++◌, ◌∷◌, [], refl}
use Rattle.bag_path.specs.Lines.{lines_of}
use Rattle.bag_path.specs.declared.version.Version.TheVariants.{V097}
use Rattle.bag_tags.specs.Infos.{MetadataElement, element, IsFit}
use Rattle.bag_tags.specs.InfoText.{AddsInfo}
use Rattle.bag_tags.specs.WordsReading.{until}
use Rattle.bag_tags.proofs.ExampleLines.{at, text_of, leads_on, fit, adds_element}
use Rattle.bag_tags.proofs.InfoLineLemmas.{parts_of}
use Rattle.bag_tags.proofs.examples.a_bag_info_of_version_0_97_says_its_elements.Goals as goal

abbrev said : MetadataElement
said = element (codes "L") (codes "v")

abbrev blanks : List ℕ
blanks = 32 ∷ 9 ∷ 32 ∷ []

abbrev text : List ℕ
text = codes "L : v" ++ 10 ∷ codes "L:v" ++ 10 ∷ codes "L:" ++ 32 ∷ 9 ∷ 32 ∷ codes "v" ++ 10 ∷ []

label_fit : IsFit (codes "L")
label_fit = fit (codes "L") refl refl refl refl

one : AddsInfo V097 [] 1 (codes "L : v") (said ∷ [])
unfolding until
one = adds_element V097 [] 1 (codes "L : v") (codes "L") (codes "v")
    (parts_of V097 (codes "L : v") (codes "L ") (codes " v") (codes "L") (codes "v") refl
    (codes " ", refl, (refl, tt), refl) (codes " ", refl, (refl, tt), refl)) label_fit

two : AddsInfo V097 (said ∷ []) 2 (codes "L:v") (said ∷ said ∷ [])
unfolding until
two = adds_element V097 (said ∷ []) 2 (codes "L:v") (codes "L") (codes "v")
    (parts_of V097 (codes "L:v") (codes "L") (codes "v") (codes "L") (codes "v") refl
    ([], refl, tt, refl) ([], refl, tt, refl)) label_fit

three : AddsInfo V097 (said ∷ said ∷ []) 3 (codes "L:" ++ blanks ++ codes "v") (said ∷ said ∷ said ∷ [])
unfolding until
three = adds_element V097 (said ∷ said ∷ []) 3 (codes "L:" ++ blanks ++ codes "v") (codes "L") (codes "v")
    (parts_of V097 (codes "L:" ++ blanks ++ codes "v") (codes "L") (blanks ++ codes "v") (codes "L") (codes "v") refl
    ([], refl, tt, refl) (blanks, refl, (refl, (refl, (refl, tt))), refl)) label_fit

pub returns : goal.returns
unfolding lines_of
returns c = text_of (AddsInfo V097) [] text (said ∷ said ∷ said ∷ []) (
  _,
  leads_on (AddsInfo V097) _ (at 1 (codes "L : v")) _ refl refl one,
  (
    _,
    leads_on (AddsInfo V097) _ (at 2 (codes "L:v")) _ refl refl two,
    (_, leads_on (AddsInfo V097) _ (at 3 (codes "L:" ++ blanks ++ codes "v")) _ refl refl three, refl),
  ),
)
