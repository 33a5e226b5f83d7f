-- What is refused before anything is written.
use Rattle.std.proofs.Common.{◌≡◌, true, false, ℕ, List, [], ◌∷◌, refl, sym, ap, ◌∙◌, inl, inr}
use Rattle.std.proofs.lemmas.Bool.{false≢true, or_cases, or_left, or_right}
use Rattle.std.specs.List.{list_any}
use Rattle.bag_rules.specs.Faults.{Has}
use Rattle.bag_tags.specs.Infos.{MetadataElement, is_oxum}
use Rattle.bag_writer.specs.Accepting.{RefusesHoles}
use Rattle.bag_writer.specs.Writing.{GivesOxum, HasAlgorithm, IsMetBefore, RefusesBag}
use Rattle.bag_writer.specs.declared.write_fault.WriteFault.{WriteFault}
use Rattle.bag_writer.specs.declared.write_fault.WriteFault.TheVariants.{BadHole, Clash, Memory, NoAlgorithm, OxumGiven, Sink, TooLarge, Tree}
use Rattle.bag_writer.specs.declared.spec.Spec.{Spec}

pub some_oxum : (elements : List MetadataElement) → list_any is_oxum elements ≡ true → (element : MetadataElement) × Has elements element × (is_oxum element ≡ true)
some_oxum [] passed = cc
some_oxum (first ∷ elements) passed =
    elim (or_cases (is_oxum first) (list_any is_oxum elements) passed) [
      | inl e ↦ (first, inl refl, e)
      | inr rest ↦ let found = some_oxum elements rest in (found.0, inr found.1, found.2)
    ]

has_some : (elements : List MetadataElement) (element : MetadataElement) → Has elements element → is_oxum element ≡ true → list_any is_oxum elements ≡ true
has_some [] element has passed = absurd has
has_some (first ∷ elements) element (inl same) passed = or_left (is_oxum first) (list_any is_oxum elements) (ap is_oxum same ∙ passed)
has_some (first ∷ elements) element (inr has) passed = or_right (is_oxum first) (list_any is_oxum elements) (has_some elements element has passed)

pub no_oxum : (elements : List MetadataElement) → list_any is_oxum elements ≡ false → ¬ ((element : MetadataElement) × Has elements element × (is_oxum element ≡ true))
no_oxum elements none found = false≢true (sym none ∙ has_some elements found.0 found.1 found.2)

-- what marking the holes refuses is the first reason, if none comes before it
pub refused_holes : (payload : List (List ℕ)) (spec : Spec) → HasAlgorithm spec → ¬ GivesOxum spec → (fault : WriteFault) → RefusesHoles payload spec.holes.items fault → RefusesBag payload spec fault × IsMetBefore fault
refused_holes payload spec some none NoAlgorithm refused = absurd refused
refused_holes payload spec some none OxumGiven refused = absurd refused
refused_holes payload spec some none (BadHole i) refused = ((some, none, refused), λ x. x)
refused_holes payload spec some none (Clash path) refused = absurd refused
refused_holes payload spec some none Tree refused = absurd refused
refused_holes payload spec some none Sink refused = absurd refused
refused_holes payload spec some none (TooLarge large) refused = absurd refused
refused_holes payload spec some none Memory refused = (tt, λ x. x)
