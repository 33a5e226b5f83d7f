use Rattle.std.proofs.Common.{List, ℕ, codes, ◌++◌, ◌∷◌, [], refl}
use Rattle.bag_path.specs.Lines.{lines_of}
use Rattle.bag_path.specs.declared.version.Version.TheVariants.{V1}
use Rattle.bag_tags.specs.Infos.{MetadataElement, element, IsFit}
use Rattle.bag_tags.specs.InfoText.{AddsInfo}
use Rattle.bag_tags.specs.WordsReading.{until}
use Rattle.bag_tags.proofs.ExampleLines.{at, text_of, leads_on, fit, adds_element, adds_line}
use Rattle.bag_tags.proofs.InfoLineLemmas.{parts_of}
use Rattle.bag_tags.proofs.examples.a_bag_info_says_its_elements.Goals as goal

abbrev first : MetadataElement
first = element (codes "Note") (codes "one")

abbrev second : MetadataElement
second = element (codes "Note") (codes "two" ++ 10 ∷ codes "three")

abbrev third : MetadataElement
third = element (codes "Empty") []

-- the second element after its first line
abbrev begun : MetadataElement
begun = element (codes "Note") (codes "two")

abbrev text : List ℕ
text = codes "Note: one" ++ 10 ∷ codes "Note: two" ++ 10 ∷ 9 ∷ codes " three" ++ 10 ∷ codes "Empty:" ++ 10 ∷ []

note_fit : IsFit (codes "Note")
note_fit = fit (codes "Note") refl refl refl refl

one : AddsInfo V1 [] 1 (codes "Note: one") (first ∷ [])
unfolding until
one = adds_element V1 [] 1 (codes "Note: one") (codes "Note") (codes "one")
    (parts_of V1 (codes "Note: one") (codes "Note") (codes " one") (codes "Note") (codes "one") refl refl (refl, refl)) note_fit

two : AddsInfo V1 (first ∷ []) 2 (codes "Note: two") (first ∷ begun ∷ [])
unfolding until
two = adds_element V1 (first ∷ []) 2 (codes "Note: two") (codes "Note") (codes "two")
    (parts_of V1 (codes "Note: two") (codes "Note") (codes " two") (codes "Note") (codes "two") refl refl (refl, refl)) note_fit

three : AddsInfo V1 (first ∷ begun ∷ []) 3 (9 ∷ codes " three") (first ∷ second ∷ [])
unfolding until
three = adds_line (first ∷ []) begun 3 (9 ∷ codes " three") refl

four : AddsInfo V1 (first ∷ second ∷ []) 4 (codes "Empty:") (first ∷ second ∷ third ∷ [])
unfolding until
four = adds_element V1 (first ∷ second ∷ []) 4 (codes "Empty:") (codes "Empty") []
    (parts_of V1 (codes "Empty:") (codes "Empty") [] (codes "Empty") [] refl refl refl) (fit (codes "Empty") refl refl refl refl)

pub returns : goal.returns
unfolding lines_of
returns c = text_of (AddsInfo V1) [] text (first ∷ second ∷ third ∷ [])
    (_, leads_on (AddsInfo V1) _ (at 1 (codes "Note: one")) _ refl refl one, (_, leads_on (AddsInfo V1) _ (at 2 (codes "Note: two")) _ refl refl two, (_, leads_on (AddsInfo V1) _ (at 3 (9 ∷ codes " three")) _ refl refl three, (_, leads_on (AddsInfo V1) _ (at 4 (codes "Empty:")) _ refl refl four, refl))))
