-- A line of `bag-info.txt` adds something or is refused, and reading is exact.
use Rattle.std.proofs.Common.{◌≡◌, ◌≢◌, ◌-◌, ◌⊎◌, ◌++◌, ℕ, true, false, List, [], ◌∷◌, length, nat_eq, slice_index, refl, ap, inl, inr, sym, ◌∙◌, subst}
use Rattle.std.specs.List.{starts_with}
use Rattle.std.proofs.lemmas.Bool.{cases_Bool}
use Rattle.bag_path.specs.declared.version.Version.{Version}
use Rattle.bag_tags.specs.declared.tag_fault.LineCause.{LineCause}
use Rattle.bag_tags.specs.declared.tag_fault.LineCause.TheVariants.{NoSeparator, BadLabel, NothingToContinue}
use Rattle.bag_tags.specs.TagLines.{mark, AreExact}
use Rattle.bag_tags.specs.Words.{is_blank, IsNotBlank, begins_blank}
use Rattle.bag_tags.specs.WordsReading.{until, is_not_blank}
use Rattle.bag_tags.specs.Infos.{MetadataElement, element, element_with_line, IsFit}
use Rattle.bag_tags.specs.InfoText.{HasColon, HasParts, AddsInfo, RefusesInfo, GivesElement}
use Rattle.bag_tags.proofs.DecisionLemmas.{Decided, decided_as, decided_both, decided_false, decided_some}
use Rattle.bag_tags.proofs.InfoLineLemmas.{indented, colon_or_none, lacks_colon, lacks_first, info_one, gives_begins, indent_begins, no_last, not_lacking, one_parts}
use Rattle.bag_tags.proofs.LabelLemmas.{first_or_none, label_of}
use Rattle.bag_tags.proofs.CauseLemmas.{Fate, AtMostOne, Is, Unless, on, for, one_is, one_unless, same_cause, on_or_for}

-- ONE CAUSE AT MOST
module _ (version : Version) (before : List MetadataElement) (text : List ℕ) where
  -- what an indented line has to have, and what another has to have, in this order
  abbrev SomeParts : Type 0
  SomeParts = (label first : List ℕ) × HasParts version text label first

  abbrev SomeElement : Type 0
  SomeElement = (element : MetadataElement) × GivesElement version text element

  -- the fate of a line, by the first of these that it lacks
  abbrev OfIndented : Fate → Type 0
  OfIndented = Unless (before ≢ []) (Is (for NothingToContinue)) (Is on)

  abbrev OfOther : Fate → Type 0
  OfOther = Unless SomeParts (Is (for NoSeparator)) (Unless SomeElement (Is (for BadLabel)) (Is on))

  abbrev HasFate : Fate → Type 0
  HasFate = Unless (begins_blank text ≡ false) OfIndented OfOther

  one_fate : AtMostOne HasFate
  one_fate =
      one_unless (begins_blank text ≡ false) OfIndented OfOther
      (one_unless (before ≢ []) (Is (for NothingToContinue)) (Is on) (one_is _) (one_is _))
      (one_unless SomeParts (Is (for NoSeparator)) _ (one_is _)
      (one_unless SomeElement (Is (for BadLabel)) (Is on) (one_is _) (one_is _)))

  begins : begins_blank text ≡ true → begins_blank text ≢ false
  begins b n = let e : true ≡ false = sym b ∙ n in cc

  no_element : (label first : List ℕ) → HasParts version text label first → ¬ IsFit label → SomeElement → ⊥
  no_element label first parts unfit h = unfit (subst IsFit (one_parts version text h.0.label h.0.value label first h.1.parts parts).0 h.1.fit)

  refused_fate : (cause : LineCause) → RefusesInfo version before text cause → HasFate (for cause)
  refused_fate NothingToContinue r = inl (begins r.0, inl (λ n. n r.1, refl))
  refused_fate NoSeparator r = inr (r.0, inl (λ h. not_lacking version text h.0 h.1 h.2 r.1, refl))
  refused_fate BadLabel r = inr (r.0, inr ((r.1.0, r.1.1.0, r.1.1.1), inl (no_element r.1.0 r.1.1.0 r.1.1.1 r.1.1.2, refl)))
  refused_fate cause r = absurd r.1

  added_fate : (number : ℕ) (next : List MetadataElement) → AddsInfo version before number text next → HasFate on
  added_fate number next a = elim a [
    | inl c ↦ inl (begins (indent_begins text c.line c.indented), inr (λ e. no_last c.earlier c.last (sym e ∙ c.has_last), refl))
    | inr c ↦ inr (gives_begins version text c.element c.gives, inr ((c.element.label, c.element.value, c.gives.parts), inr ((c.element, c.gives), refl)))
  ]

  pub one_cause : (cause other : LineCause) → RefusesInfo version before text cause → RefusesInfo version before text other → cause ≡ other
  one_cause cause other r s = same_cause cause other (one_fate (for cause) (for other) (refused_fate cause r) (refused_fate other s))

  pub not_both : (number : ℕ) (next : List MetadataElement) (cause : LineCause) → AddsInfo version before number text next → RefusesInfo version before text cause → ⊥
  not_both number next cause a r = on_or_for cause (one_fate on (for cause) (added_fate number next a) (refused_fate cause r))

-- ONE ELEMENT, OR A CAUSE

-- a label, by what it needs
abbrev FitParts : List ℕ → Type 0
FitParts label = (label ≢ []) × (IsNotBlank (slice_index label 0) × (IsNotBlank (slice_index label (length label - 1)) × (starts_with nat_eq label mark ≡ false)))

pub decided_fit : (label : List ℕ) → Decided (IsFit label)
decided_fit label = decided_as (FitParts label) (IsFit label)
    (λ h. record { some = h.0; begins = h.1.0; ends = h.1.1.0; unmarked = h.1.1.1 })
    (λ h. (h.some, (h.begins, (h.ends, h.unmarked))))
    (decided_both _ _ (decided_some label)
    (decided_both _ _ (decided_false (is_blank (slice_index label 0)))
    (decided_both _ _ (decided_false (is_blank (slice_index label (length label - 1)))) (decided_false (starts_with nat_eq label mark)))))

-- a list has a last element, or is empty
abbrev HasLast : List MetadataElement → Type 0
HasLast elements = (earlier : List MetadataElement) × ((last : MetadataElement) × (elements ≡ earlier ++ last ∷ []))

last_or_none : (elements : List MetadataElement) → HasLast elements ⊎ (elements ≡ [])
last_or_none [] = inr refl
last_or_none (first ∷ elements) = elim (last_or_none elements) [
  | inl h ↦ inl (first ∷ h.0, (h.1.0, ap (λ es. first ∷ es) h.1.1))
  | inr none ↦ inl ([], (first, ap (λ es. first ∷ es) none))
]

module _ (version : Version) (before : List MetadataElement) (number : ℕ) (text : List ℕ) where
  abbrev ElementOrCause : Type 0
  ElementOrCause = ((next : List MetadataElement) × AddsInfo version before number text next) ⊎ ((cause : LineCause) × RefusesInfo version before text cause)

  -- an indented line
  of_indented : begins_blank text ≡ true → ElementOrCause
  of_indented begins =
      let line = (until is_not_blank text).1 in
      elim (last_or_none before) [
        | inl h ↦ inl (
          h.0 ++ element_with_line h.1.0 line ∷ [],
          inl (record {
            earlier = h.0;
            last = h.1.0;
            line = line;
            indented = indented text (until is_not_blank text).0 line refl begins;
            has_last = h.1.1;
            continues = refl;
          }),
        )
        | inr none ↦ inr (NothingToContinue, (begins, none))
      ]

  -- a line with a label
  of_parts : (label first : List ℕ) → begins_blank text ≡ false → HasParts version text label first → ElementOrCause
  of_parts label first begins parts = elim (decided_fit label) [
    | inl fit ↦ inl (before ++ element label first ∷ [], inr (record { element = element label first; gives = record { parts = parts; fit = fit }; adds = refl }))
    | inr unfit ↦ inr (BadLabel, (begins, (label, (first, parts, unfit))))
  ]

  -- a line with a colon, by what follows it
  of_colon : (before after : List ℕ) → begins_blank text ≡ false → HasColon text before after → ElementOrCause
  of_colon front after begins colon = elim (first_or_none version after) [
    | inl first ↦
        let label = label_of version front in
        of_parts label.0 first.0 begins (record { before = front; after = after; colon = colon; label_is = label.1; first_line = first.1 })
    | inr none ↦ inr (NoSeparator, (begins, lacks_first version text front after colon none))
  ]

  -- a line that isn't indented
  of_other : begins_blank text ≡ false → ElementOrCause
  of_other begins = elim (colon_or_none text) [
    | inl h ↦ of_colon h.0 h.1.0 begins h.1.1
    | inr none ↦ inr (NoSeparator, (begins, lacks_colon version text none))
  ]

  element_or_cause : ElementOrCause
  element_or_cause = elim (cases_Bool (begins_blank text)) [
    | inl begins ↦ of_indented begins
    | inr begins ↦ of_other begins
  ]

pub info_exact : (version : Version) → AreExact (AddsInfo version) (RefusesInfo version)
info_exact version = record {
  one_value = info_one version;
  one_cause = one_cause version;
  not_both = λ before number text. not_both version before text number;
  one_of_both = λ before number text utf8. element_or_cause version before number text;
}
