-- Texts that name algorithms, one at a time.
use Rattle.std.proofs.Common.{◌≡◌, ◌<◌, ◌+◌, ◌++◌, ◌∷◌, ◌||◌, ◌∙◌, ℕ, List, [], All, Contains, Some, None, true, ap, get_or, inl, inr, length, map, subst, sym, take}
use Rattle.std.proofs.lemmas.Bool.{or_cases, or_left, or_right}
use Rattle.std.proofs.lemmas.List.{map_more, take-map}
use Rattle.std.proofs.lemmas.List.Elements.{All-push, Contains-append_left, Contains-push, Contains-push_cases}
use Rattle.std.proofs.lemmas.Option.{slice_get-get_or, slice_get-map, same_Some}
use Rattle.std.specs.Option.{option_map}
use Rattle.bag_digest.specs.Algorithm.{has, is_alg, name_of}
use Rattle.bag_digest.specs.declared.algorithm.Alg.{Alg}
use Rattle.bag_digest.specs.declared.algorithm.AlgSet.{AlgSet}
use Rattle.bag_commands.specs.Making.{IsFirstUnknown, NamesAlg, NamesSet}
use Rattle.bag_rules.proofs.AlgLemmas.{same_alg, itself}

one_more_alg : (words : List (List ℕ)) (word : List ℕ) (set new : AlgSet) (alg : Alg) → word ≡ name_of alg → ((other : Alg) → word ≡ name_of other → Some alg ≡ Some other)
    → ((other : Alg) → has new other ≡ (is_alg alg other || has set other)) → NamesSet words set → NamesSet (words ++ word ∷ []) new
one_more_alg words word set new alg named only with_alg before = record {
  each = All-push NamesAlg words word before.each (alg, named);
  exact = λ other. (
    λ h. elim (or_cases (is_alg alg other) (has set other) (sym (with_alg other) ∙ h)) [
      | inl is ↦ subst (Contains (words ++ word ∷ [])) (named ∙ ap name_of (same_alg alg other is)) (Contains-push words word)
      | inr had ↦ Contains-append_left words (word ∷ []) (name_of other) ((before.exact other).0 had)
    ],
    λ here. elim (Contains-push_cases words word (name_of other) here) [
      | inl there ↦ with_alg other ∙ or_right (is_alg alg other) (has set other) ((before.exact other).1 there)
      | inr last ↦ with_alg other ∙ or_left (is_alg alg other) (has set other) (subst (λ a. is_alg alg a ≡ true) (same_Some alg other (only other last)) (itself alg))
    ],
  );
}

-- and the text at an index, if those before it are known names
pub named_more : {A : Type 0} (spell : A → List ℕ) (items : List A) (i : ℕ) (item : A) (set new : AlgSet) (alg : Alg) → i < length items → item ≡ get_or items i item
    → spell item ≡ name_of alg → ((other : Alg) → spell item ≡ name_of other → Some alg ≡ Some other) → ((other : Alg) → has new other ≡ (is_alg alg other || has set other))
    → NamesSet (map spell (take i items)) set → NamesSet (map spell (take (i + 1) items)) new
named_more spell items i item set new alg inside is named only with_alg before =
    let longer : map spell (take (i + 1) items) ≡ map spell (take i items) ++ spell item ∷ [] = map_more spell items i item inside ∙ ap (λ x. map spell (take i items) ++ spell x ∷ []) (sym is) in
    subst (λ words. NamesSet words new) (sym longer) (one_more_alg (map spell (take i items)) (spell item) set new alg named only with_alg before)

none_is_not_some : {A : Type 0} (x : A) → None ≡ Some x → ⊥
none_is_not_some x h = cc

-- an unknown name, if those before it are known names
pub first_unknown : {A : Type 0} (spell : A → List ℕ) (items : List A) (i : ℕ) (item : A) (set : AlgSet) → i < length items → item ≡ get_or items i item
    → ((alg : Alg) → spell item ≡ name_of alg → None ≡ Some alg) → NamesSet (map spell (take i items)) set → IsFirstUnknown (map spell items) (spell item)
first_unknown spell items i item set inside is none before = record {
  place = i;
  there = slice_get-map spell items i ∙ ap (option_map spell) (slice_get-get_or items i item inside ∙ ap Some (sym is));
  named = subst (All NamesAlg) (sym (take-map spell i items)) before.each;
  unknown = λ known. none_is_not_some known.0 (none known.0 known.1);
}
