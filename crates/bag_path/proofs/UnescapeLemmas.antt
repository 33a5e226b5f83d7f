-- What `unescape` returns, given the octets that it read.
use Rattle.std.proofs.Common.{◌≡◌, ◌⊎◌, ℕ, List, Some, None, Result, Ok, Err, IfOk, IfErr, refl, sym, subst, ap, ◌∙◌, inl, inr}
use Rattle.bag_path.specs.declared.path.PathFault.{PathFault}
use Rattle.bag_path.specs.declared.path.PathFault.TheVariants.{Empty, TooLong, EmptySegment, DotSegment, Nul, PayloadRoot, Memory, BadEscape}
use Rattle.bag_path.specs.declared.version.Version.{Version}
use Rattle.bag_path.specs.Paths.{IsPath, RefusesPath, path_fault}
use Rattle.bag_path.specs.SpellingReading.{octets_spelled}
use Rattle.bag_path.specs.Spellings.{Spells, SpellsNothing, RefusesSpelling}
use Rattle.bag_path.proofs.PathLemmas.{no_fault_if_path, no_bad_escape}
use Rattle.bag_path.proofs.SpellsLemmas.{spells_if_read, one_path, nothing_if_none}

-- what is returned for octets that a text spells
pub record IsAnswer (octets : List ℕ) (answer : Result (List ℕ) PathFault) : Type 0 where
  pub text : IfOk answer (λ path. path ≡ octets)
  pub path : IfOk answer IsPath
  pub fault : IfErr answer (λ fault. RefusesPath fault octets)

pub answer_path : (version : Version) (text octets : List ℕ) (answer : Result (List ℕ) PathFault) → octets_spelled version text ≡ Some octets → IsAnswer octets answer → IfOk answer (λ path. Spells version path text × IsPath path)
answer_path version text octets (Ok path) e h = (spells_if_read version path text (e ∙ ap Some (sym h.text)), h.path)
answer_path version text octets (Err fault) e h = tt

-- a path isn't refused
refused_path : (fault : PathFault) (octets : List ℕ) → path_fault octets ≡ None → RefusesPath fault octets → fault ≡ Memory
refused_path Memory octets e h = refl
refused_path Empty octets e h = absurd (cc)
refused_path TooLong octets e h = absurd (cc)
refused_path EmptySegment octets e h = absurd (cc)
refused_path DotSegment octets e h = absurd (cc)
refused_path Nul octets e h = absurd (cc)
refused_path PayloadRoot octets e h = absurd (cc)
refused_path BadEscape octets e h = absurd (cc)

accepted_octets : (octets : List ℕ) (answer : Result (List ℕ) PathFault) → IsPath octets → IsAnswer octets answer → (answer ≡ Ok octets) ⊎ (answer ≡ Err Memory)
accepted_octets octets (Ok path) p h = inl (ap Ok h.text)
accepted_octets octets (Err fault) p h = inr (ap Err (refused_path fault octets (no_fault_if_path octets p) h.fault))

pub answer_accepted : (version : Version) (text octets : List ℕ) (answer : Result (List ℕ) PathFault) → octets_spelled version text ≡ Some octets → IsAnswer octets answer → (path : List ℕ) → Spells version path text → IsPath path → (answer ≡ Ok path) ⊎ (answer ≡ Err Memory)
answer_accepted version text octets answer e h path s p =
    let same = one_path version octets path text (spells_if_read version octets text e) s in
    subst (λ path. (answer ≡ Ok path) ⊎ (answer ≡ Err Memory)) same (accepted_octets octets answer (subst IsPath (sym same) p) h)

refused_spelling : (version : Version) (text octets : List ℕ) (fault : PathFault) → Spells version octets text → RefusesPath fault octets → RefusesSpelling fault version text
refused_spelling version text octets Memory s h = tt
refused_spelling version text octets BadEscape s h = absurd (no_bad_escape octets h)
refused_spelling version text octets Empty s h = (octets, s, h)
refused_spelling version text octets TooLong s h = (octets, s, h)
refused_spelling version text octets EmptySegment s h = (octets, s, h)
refused_spelling version text octets DotSegment s h = (octets, s, h)
refused_spelling version text octets Nul s h = (octets, s, h)
refused_spelling version text octets PayloadRoot s h = (octets, s, h)

pub answer_fault : (version : Version) (text octets : List ℕ) (answer : Result (List ℕ) PathFault) → octets_spelled version text ≡ Some octets → IsAnswer octets answer → IfErr answer (λ fault. RefusesSpelling fault version text)
answer_fault version text octets (Ok path) e h = tt
answer_fault version text octets (Err fault) e h = refused_spelling version text octets fault (spells_if_read version octets text e) h.fault

pub answer_nothing : (version : Version) (text octets : List ℕ) (answer : Result (List ℕ) PathFault) → octets_spelled version text ≡ Some octets → SpellsNothing version text → (answer ≡ Err BadEscape) ⊎ (answer ≡ Err Memory)
answer_nothing version text octets answer e h = absurd (h octets (spells_if_read version octets text e))

abbrev refusal : PathFault → Result (List ℕ) PathFault
refusal fault = Err fault

-- how reading fails
abbrev pub FailsBy : PathFault → Version → List ℕ → Type 0
FailsBy fault version text = (fault ≡ Memory) ⊎ ((fault ≡ BadEscape) × (octets_spelled version text ≡ None))

pub failed_accepted : (version : Version) (text : List ℕ) (fault : PathFault) → FailsBy fault version text → (path : List ℕ) → Spells version path text → IsPath path → (refusal fault ≡ Ok path) ⊎ (refusal fault ≡ Err Memory)
failed_accepted version text fault (inl e) path s p = inr (ap Err e)
failed_accepted version text fault (inr e) path s p = absurd (nothing_if_none version text e.1 path s)

pub failed_fault : (version : Version) (text : List ℕ) (fault : PathFault) → FailsBy fault version text → RefusesSpelling fault version text
failed_fault version text fault (inl e) = subst (λ fault. RefusesSpelling fault version text) (sym e) tt
failed_fault version text fault (inr e) = subst (λ fault. RefusesSpelling fault version text) (sym e.0) (nothing_if_none version text e.1)
