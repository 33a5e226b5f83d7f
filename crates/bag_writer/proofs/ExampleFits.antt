-- Bags can be written of the worked payloads.
use Rattle.std.proofs.Common.{◌≡◌, ◌∙◌, ◌≤◌, ℕ, zero, suc, true, false, List, [], ◌∷◌, Some, None, codes, length, map, slice_get, inl, inr, refl, sym, ap, subst, arith, rules, string_bytes, length-append}
use Rattle.std.specs.List.Sorted.{IsStrictlySortedBy}
use Rattle.bag_path.proofs.AsciiLemmas.{ascii_path, ascii_utf8}
use Rattle.bag_path.specs.Octets.{slash}
use Rattle.bag_path.specs.Paths.{path_fault}
use Rattle.bag_rules.proofs.HasLemmas.{contains_from_has, has_from_contains, has_map}
use Rattle.bag_rules.proofs.SameListLemmas.{all_has}
use Rattle.bag_rules.proofs.Words.{AllByRecursion, AlgSet, Files, Has, is_oxum, Md5, MetadataElement, Sha256}
use Rattle.bag_rules.specs.Opening.{IsFolderAmong}
use Rattle.bag_tags.specs.FetchEntries.{IsUrl}
use Rattle.bag_tags.specs.Infos.{element, IsElement}
use Rattle.bag_writer.proofs.ExampleTags.{lengths_none, lengths_two}
use Rattle.bag_writer.specs.ExampleBags.{file_a, file_e, IsPlainExample, IsWithHole, payload_of_two}
use Rattle.bag_writer.specs.FilledBags.{IsPayloadFor, IsPayloadPath}
use Rattle.bag_writer.specs.WrittenBags.{tag_files}
use Rattle.bag_writer.specs.Writing.{GivesOxum, HasLongFile, IsBadHole, IsTooLarge}
use Rattle.bag_writer.specs.declared.too_large.Large.TheVariants as large
use Rattle.bag_writer.specs.declared.spec.Hole.{Hole}
use Rattle.bag_writer.specs.declared.spec.Spec.{Spec}

abbrev File : Type 0
File = List ℕ × List ℕ

-- no file is too long if none of the known lengths is
none_long : (files : Files) (ends : List (List ℕ × ℕ)) (limit : ℕ) → map (λ (file : File). (file.0, length file.1)) files ≡ ends → AllByRecursion (λ (e : List ℕ × ℕ). e.1 ≤ limit) ends → ¬ HasLongFile files limit
none_long files ends limit same short (path, (octets, h, long)) =
    let there : Has ends (path, length octets) = subst (λ es. Has es (path, length octets)) same (has_map (λ (file : File). (file.0, length file.1)) files (path, octets) h) in
    let within = all_has (λ (e : List ℕ × ℕ). e.1 ≤ limit) ends (path, length octets) short there in
    omega (arith, long, within)

-- THE PAYLOAD OF TWO

path_a : IsPayloadPath file_a
unfolding path_fault
path_a = (ascii_path file_a refl refl, refl)

path_e : IsPayloadPath file_e
unfolding path_fault
path_e = (ascii_path file_e refl refl, refl)

element_fits : IsElement (element (codes "Source-Organization") (codes "Test"))
element_fits = record {
  label_utf8 = ascii_utf8 (codes "Source-Organization") refl;
  value_utf8 = ascii_utf8 (codes "Test") refl;
  is_label = record {
    fit = record { some = λ e. cc; begins = refl; ends = refl; unmarked = refl };
    octets = search rules;
  };
  is_value = record { first = codes "Test"; further = []; lines = record { whole = refl; first_line = search rules; further_lines = tt } };
}

url_fits : IsUrl (codes "http://example.org/e")
url_fits = record {
  scheme = codes "http";
  rest = codes "//example.org/e";
  whole = refl;
  is_scheme = search rules;
  some = λ e. cc;
  no_control = search rules;
}

-- both paths have ten octets, so neither is a folder of the other
of_ten : (path : List ℕ) → Has (file_a ∷ file_e ∷ []) path → length path ≡ 10
of_ten path (inl e) = sym (ap (λ (p : List ℕ). length p) e)
of_ten path (inr (inl e)) = sym (ap (λ (p : List ℕ). length p) e)
of_ten path (inr (inr none)) = absurd none

no_folder : (path : List ℕ) → ¬ IsFolderAmong (file_a ∷ file_e ∷ []) path
no_folder path (among, (other, inside, (rest, e))) =
    let ten = of_ten path (has_from_contains (file_a ∷ file_e ∷ []) path among) in
    let also = of_ten other (has_from_contains (file_a ∷ file_e ∷ []) other inside) in
    let longer = ap (λ (p : List ℕ). length p) e ∙ length-append path (slash ∷ rest) in
    omega (arith, ten, also, longer)

module _ (spec : Spec) (is : IsWithHole spec) where
  only_element : (given : MetadataElement) → Has spec.info given → element (codes "Source-Organization") (codes "Test") ≡ given
  only_element given h = elim (subst (λ es. Has es given) is.info h) [ inl e ↦ e | inr none ↦ absurd none ]

  no_oxum : ¬ GivesOxum spec
  no_oxum (given, h, oxum) = let k : false ≡ true = ap is_oxum (only_element given h) ∙ oxum in cc

  good : (holes : List Hole) → holes ≡ is.hole ∷ [] → (i : ℕ) → ¬ IsBadHole (file_a ∷ file_e ∷ []) holes i
  good holes same zero (hole, at, bad) =
      let there : Some is.hole ≡ Some hole = ap (λ (hs : List Hole). slice_get hs 0) (sym same) ∙ at in
      let e : is.hole ≡ hole = cc in
      elim bad [
        | inl absent ↦ absent (contains_from_has (file_a ∷ file_e ∷ []) hole.path (inr (inl (sym (ap (λ (h : Hole). h.path) (sym e) ∙ is.path)))))
        | inr other ↦ elim other [
          | inl none ↦ none (subst IsUrl (sym (ap (λ (h : Hole). string_bytes h.url) (sym e) ∙ is.url)) url_fits)
          | inr before ↦ omega (arith, before.1.0)
        ]
      ]
  good holes same (suc i) (hole, at, bad) = let k : None ≡ Some hole = ap (λ (hs : List Hole). slice_get hs (suc i)) (sym same) ∙ at in cc

  too_large : ¬ IsTooLarge spec payload_of_two
  too_large (large.Payload, many) = omega (arith, many)
  too_large (large.File path, long) = none_long payload_of_two ((file_a, 3) ∷ (file_e, 0) ∷ []) _ refl (omega arith, (omega arith, tt)) (path, long)
  too_large (large.TagFile path, long) = none_long (tag_files spec payload_of_two) _ _ (lengths_two spec is) (omega arith, (omega arith, (omega arith, (omega arith, (omega arith, (omega arith, (omega arith, tt))))))) (path, long)

  pub fits_two : IsPayloadFor spec payload_of_two
  unfolding IsStrictlySortedBy
  fits_two = record {
    rising = ((refl, tt), (tt, tt));
    paths = (path_a, (path_e, tt));
    elements = subst (λ es. AllByRecursion IsElement es) (sym is.info) (element_fits, tt);
    accepted = record {
      has_algorithm = λ none. (let k : true ≡ false = ap (λ (set : AlgSet). set.md5) (sym is.algs) ∙ none Md5 in cc);
      no_oxum = no_oxum;
      holes = good spec.holes.items is.holes;
      no_clash = no_folder;
    };
    not_too_large = too_large;
  }

-- NO FILES

module _ (spec : Spec) (is : IsPlainExample spec) where
  small : ¬ IsTooLarge spec []
  small (large.Payload, many) = omega (arith, many)
  small (large.File path, (octets, h, long)) = h
  small (large.TagFile path, long) = none_long (tag_files spec []) _ _ (lengths_none spec is) (omega arith, (omega arith, (omega arith, (omega arith, tt)))) (path, long)

  pub fits_none : IsPayloadFor spec []
  unfolding IsStrictlySortedBy
  fits_none = record {
    rising = tt;
    paths = tt;
    elements = subst (λ es. AllByRecursion IsElement es) (sym is.info) tt;
    accepted = record {
      has_algorithm = λ none. (let k : true ≡ false = ap (λ (set : AlgSet). set.sha256) (sym is.algs) ∙ none Sha256 in cc);
      no_oxum = λ (given, h, oxum). subst (λ es. Has es given) is.info h;
      holes = λ i (hole, at, bad). (let k : None ≡ Some hole = ap (λ (hs : List Hole). slice_get hs i) (sym is.holes) ∙ at in cc);
      no_clash = λ path (among, inside). has_from_contains [] path among;
    };
    not_too_large = small;
  }
