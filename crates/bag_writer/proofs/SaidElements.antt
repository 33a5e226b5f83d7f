-- The elements that are written: those that are given, and the Oxum.
use Rattle.std.proofs.Common.{◌≡◌, ◌∙◌, ◌+◌, ◌*◌, ◌^◌, ◌<◌, ◌≤◌, ◌++◌, ℕ, suc, true, List, [], ◌∷◌, codes, length, inl, inr, refl, sym, ap, subst, arith, rules}
use Rattle.std.proofs.lemmas.Str.{IsUtf8-append}
use Rattle.std.proofs.lemmas.List.Elements.{filter-append}
use Rattle.std.specs.Char.{IsAsciiDigit}
use Rattle.std.specs.Fmt.{decimal}
use Rattle.std.specs.List.{filter}
use Rattle.std.specs.Str.{IsUtf8}
use Rattle.bag_path.proofs.AsciiLemmas.{ascii_utf8}
use Rattle.bag_path.specs.Lines.{IsPlain}
use Rattle.bag_tags.proofs.ExactTexts.{one_list_of_elements}
use Rattle.bag_tags.proofs.InfoWritingLemmas.{info_reads}
use Rattle.bag_tags.proofs.NumeralLemmas.{digits_utf8}
use Rattle.bag_tags.proofs.OxumLemmas.{decimal_numeral, written_says}
use Rattle.bag_tags.proofs.WritingLemmas.{each_append}
use Rattle.bag_tags.specs.Infos.{IsElement, IsLabel, IsValue, written_info}
use Rattle.bag_tags.specs.Oxums.{written_oxum}
use Rattle.bag_rules.proofs.Words.{AllByRecursion, append-nil, Bag, cases_Bool, cases_lt, Files, Has, HoldsFile, Info, InfoText, is_oxum, MetadataElement, OxumText, SaysInfo, SaysOxum, text_file, V1}
use Rattle.bag_rules.specs.Bags.{octet_count, version_of}
use Rattle.bag_rules.specs.declared.limits.TheConstants.{LARGEST_FILE}
use Rattle.bag_writer.proofs.PartBags.{HasTags, info_case, other_case, version_is}
use Rattle.bag_writer.proofs.TagCases.{has_info, listed_tag}
use Rattle.bag_writer.specs.FilledBags.{IsPayloadFor}
use Rattle.bag_writer.specs.Writing.{HasLongFile}
use Rattle.bag_writer.specs.WrittenBags.{oxum_element}
use Rattle.bag_writer.specs.declared.spec.Spec.{Spec}
use Rattle.bag_writer.specs.declared.too_large.Large.TheVariants as large
use Rattle.bag_rules.proofs.HasLemmas.{has_either}

-- NUMBERS

pub short : (files : Files) (limit : ℕ) → ¬ HasLongFile files limit → (path octets : List ℕ) → Has files (path, octets) → length octets ≤ limit
short files limit none path octets h = elim (cases_lt limit (length octets)) [
  | inl long ↦ absurd (none (path, (octets, h, long)))
  | inr within ↦ within
]

octets_within : (files : Files) (limit : ℕ) → ((path octets : List ℕ) → Has files (path, octets) → length octets ≤ limit) → octet_count files ≤ length files * limit
unfolding octet_count
octets_within [] limit each = omega arith
octets_within (file ∷ files) limit each =
    let here = each file.0 file.1 (inl refl) in
    let rest = octets_within files limit (λ path octets h. each path octets (inr h)) in
    let grows : (suc (length files)) * limit ≡ limit + length files * limit = omega arith in
    omega (arith, here, rest, grows)

product : (n limit : ℕ) → n ≤ 100000 → limit ≡ 1099511627776 → n * limit < 2 ^ 64
product n limit few e = subst (λ k. n * k < 2 ^ 64) (sym e) (omega (arith, few))

module _ (spec : Spec) (payload : Files) (fits : IsPayloadFor spec payload) where
  pub few_files : length payload ≤ 100000
  few_files = elim (cases_lt 100000 (length payload)) [ inl more ↦ absurd (fits.not_too_large (large.Payload, more)) | inr few ↦ few ]

  pub count_fits : octet_count payload < 2 ^ 64
  count_fits =
      let all = octets_within payload LARGEST_FILE (short payload LARGEST_FILE (λ long. fits.not_too_large (large.File long.0, long.1))) in
      let bound = product (length payload) LARGEST_FILE few_files refl in
      omega (arith, all, bound)

  pub files_fit : length payload < 2 ^ 64
  files_fit = let few = few_files in omega (arith, few)

-- THE OXUM

plain_digits : (text : List ℕ) → AllByRecursion IsAsciiDigit text → AllByRecursion IsPlain text
plain_digits [] h = tt
plain_digits (octet ∷ text) h = ((λ e. omega (arith, h.0, e), λ e. omega (arith, h.0, e)), plain_digits text h.1)

label_fits : IsLabel (codes "Payload-Oxum")
label_fits = record {
  fit = record { some = λ e. cc; begins = refl; ends = refl; unmarked = refl };
  octets = search rules;
}

oxum_utf8 : (n m : ℕ) → n < 2 ^ 64 → m < 2 ^ 64 → IsUtf8 (written_oxum n m)
oxum_utf8 n m p q = IsUtf8-append (decimal n ++ codes ".") (decimal m) (IsUtf8-append (decimal n) (codes ".") (digits_utf8 (decimal n) (decimal_numeral n p).digits) (ascii_utf8 (codes ".") refl)) (digits_utf8 (decimal m) (decimal_numeral m q).digits)

oxum_plain : (n m : ℕ) → n < 2 ^ 64 → m < 2 ^ 64 → AllByRecursion IsPlain (written_oxum n m)
oxum_plain n m p q = each_append IsPlain (decimal n ++ codes ".") (decimal m) (each_append IsPlain (decimal n) (codes ".") (plain_digits (decimal n) (decimal_numeral n p).digits) (search rules)) (plain_digits (decimal m) (decimal_numeral m q).digits)

value_fits : (n m : ℕ) → n < 2 ^ 64 → m < 2 ^ 64 → IsValue (written_oxum n m)
value_fits n m p q = record {
  first = written_oxum n m;
  further = [];
  lines = record { whole = sym (append-nil (written_oxum n m)); first_line = oxum_plain n m p q; further_lines = tt };
}

none_oxum : (elements : List MetadataElement) → ((element : MetadataElement) → Has elements element → is_oxum element ≡ true → ⊥) → filter is_oxum elements ≡ []
none_oxum [] none = refl
none_oxum (element ∷ elements) none = elim (cases_Bool (is_oxum element)) [
  | inl is ↦ absurd (none element (inl refl) is)
  | inr other ↦ rw other (none_oxum elements (λ e h. none e (inr h)))
]

module _ (spec : Spec) (payload : Files) (fits : IsPayloadFor spec payload) where
  -- the elements that are written
  abbrev pub elements : List MetadataElement
  elements = spec.info ++ oxum_element payload ∷ []

  oxum_is_element : IsElement (oxum_element payload)
  oxum_is_element = record {
    label_utf8 = ascii_utf8 (codes "Payload-Oxum") refl;
    value_utf8 = oxum_utf8 (octet_count payload) (length payload) (count_fits spec payload fits) (files_fit spec payload fits);
    is_label = label_fits;
    is_value = value_fits (octet_count payload) (length payload) (count_fits spec payload fits) (files_fit spec payload fits);
  }

  info_text : InfoText V1 (written_info elements) elements
  info_text = info_reads (written_info elements) elements refl (each_append IsElement spec.info (oxum_element payload ∷ []) fits.elements (oxum_is_element, tt))

  pub oxum_read : OxumText (oxum_element payload).value (octet_count payload) (length payload)
  oxum_read = written_says (octet_count payload) (length payload) (count_fits spec payload fits) (files_fit spec payload fits)

  not_given : (element : MetadataElement) → Has spec.info element → is_oxum element ≡ true → ⊥
  not_given element h is = fits.accepted.no_oxum (element, h, is)

  pub one_oxum : length (filter is_oxum elements) ≤ 1
  one_oxum =
      let e : filter is_oxum elements ≡ filter is_oxum spec.info ++ oxum_element payload ∷ [] = filter-append is_oxum spec.info (oxum_element payload ∷ []) in
      let f : filter is_oxum elements ≡ oxum_element payload ∷ [] = e ∙ ap (λ es. es ++ oxum_element payload ∷ []) (none_oxum spec.info not_given) in
      omega (arith, ap length f)

  pub only_oxum : (element : MetadataElement) → Has elements element → is_oxum element ≡ true → oxum_element payload ≡ element
  only_oxum element h is = elim (has_either spec.info (oxum_element payload ∷ []) element h) [
    | inl given ↦ absurd (not_given element given is)
    | inr last ↦ elim last [ inl e ↦ e | inr none ↦ absurd none ]
  ]

  module _ (bag : Bag) (tags : HasTags spec payload bag) where
    pub says_so : SaysInfo bag elements
    says_so = record {
      octets = written_info elements;
      there = tags.there (text_file Info) (written_info elements) (listed_tag spec payload (text_file Info) (written_info elements) (has_info spec payload));
      text = subst (λ v. InfoText v (written_info elements) elements) (sym (version_is spec payload fits bag tags)) info_text;
    }

    info_octets : (octets : List ℕ) → HoldsFile bag (text_file Info) octets → octets ≡ written_info elements
    info_octets octets holds = info_case spec payload (text_file Info) octets refl (other_case spec payload fits bag tags (text_file Info) octets refl holds)

    pub says_only : (said : List MetadataElement) → SaysInfo bag said → said ≡ elements
    unfolding says_so
    says_only said says = one_list_of_elements (version_of bag) (written_info elements) said elements
        (subst (λ o. InfoText (version_of bag) o said) (info_octets says.octets says.there) says.text) says_so.text

    pub says_oxum : (element : MetadataElement) → SaysOxum bag element → oxum_element payload ≡ element
    says_oxum element says = only_oxum element (subst (λ es. Has es element) (says_only says.elements says.says) says.has) says.is_oxum
