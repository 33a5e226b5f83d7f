-- What is written for elements is read as these elements.
use Rattle.std.proofs.Common.{◌≡◌, ◌≢◌, ◌+◌, ℕ, false, List, [], ◌∷◌, ◌++◌, map, nat_eq, codes, refl, sym, ap, ◌∙◌, subst, inl, inr, arith, append_assoc, append-nil}
use Rattle.std.specs.List.{AllByRecursion, flat_map, starts_with}
use Rattle.std.specs.Str.{IsUtf8}
use Rattle.std.proofs.lemmas.Bool.{ne_eqb}
use Rattle.std.proofs.lemmas.List.Concat.{flat_map-cons, flat_map-append}
use Rattle.std.proofs.lemmas.Str.{IsUtf8-append}
use Rattle.bag_path.specs.Lines.{IsPlain, written_lines}
use Rattle.bag_path.specs.declared.version.Version.TheVariants.{V1}
use Rattle.bag_tags.specs.Words.{is_blank, is_blank_line, begins_blank}
use Rattle.bag_tags.specs.TagLines.{mark, LeadsOn, Lead}
use Rattle.bag_tags.specs.Infos.{MetadataElement, element, IsFit, IsLabelOctet, IsNotColon, IsElement, IsFurtherLine, IsValue, after_lf, written_octet, written_value, written_element, written_info}
use Rattle.bag_tags.specs.InfoText.{AddsInfo, InfoText}
use Rattle.bag_tags.proofs.TextCutLemmas.{utf8_before, utf8_after, utf8_one}
use Rattle.bag_tags.proofs.WritingLemmas.{numbered_texts, written_text, lines_cons, lines_append, each_append, no_mark}

abbrev indented : List ℕ → List ℕ
indented text = 32 ∷ text

abbrev labelled : List ℕ → List ℕ → List ℕ
labelled label first = label ++ 58 ∷ 32 ∷ first

-- the lines that are written for an element
abbrev texts_of : (e : MetadataElement) → IsValue e.value → List (List ℕ)
texts_of e v = labelled e.label v.first ∷ map indented v.further

unfoldable pub info_texts : (elements : List MetadataElement) → AllByRecursion IsElement elements → List (List ℕ)
info_texts [] h = []
info_texts (e ∷ elements) h = texts_of e h.0.is_value ++ info_texts elements h.1

-- what is written for a text without line ends is the text
plain_itself : (text : List ℕ) → AllByRecursion IsPlain text → written_value text ≡ text
plain_itself [] h = refl
plain_itself (x ∷ text) h = flat_map-cons written_octet x text ∙ rw (ne_eqb x 10 h.0.0) (ap (λ xs. x ∷ xs) (plain_itself text h.1))

written_lf : (line : List ℕ) (rest : List ℕ) → AllByRecursion IsPlain line → written_value (after_lf line ++ rest) ≡ 10 ∷ 32 ∷ (line ++ written_value rest)
written_lf line rest h = flat_map-append written_octet (after_lf line) rest ∙ ap (λ xs. xs ++ written_value rest) (flat_map-cons written_octet 10 line ∙ ap (λ xs. 10 ∷ 32 ∷ xs) (plain_itself line h))

-- further lines, after a text
further_written : (text : List ℕ) (further : List (List ℕ)) → AllByRecursion IsFurtherLine further → text ++ (written_value (flat_map after_lf further) ++ 10 ∷ []) ≡ written_lines (text ∷ map indented further)
further_written text [] h = sym (lines_cons text [] ∙ append-nil (text ++ 10 ∷ []))
further_written text (line ∷ further) h =
    ap (λ xs. text ++ (written_value xs ++ 10 ∷ [])) (flat_map-cons after_lf line further)
    ∙ ap (λ xs. text ++ (xs ++ 10 ∷ [])) (written_lf line (flat_map after_lf further) h.0.no_line_end)
    ∙ ap (λ xs. text ++ (10 ∷ 32 ∷ xs)) (append_assoc line (written_value (flat_map after_lf further)) (10 ∷ []))
    ∙ sym (append_assoc text (10 ∷ []) ((32 ∷ line) ++ (written_value (flat_map after_lf further) ++ 10 ∷ [])))
    ∙ ap (λ xs. (text ++ 10 ∷ []) ++ xs) (further_written (32 ∷ line) further h.1)
    ∙ sym (lines_cons text (map indented (line ∷ further)))

element_written : (e : MetadataElement) (v : IsValue e.value) → written_element e ≡ written_lines (texts_of e v)
element_written e v =
    ap (λ xs. e.label ++ codes ": " ++ xs ++ 10 ∷ []) (ap written_value v.lines.whole ∙ flat_map-append written_octet v.first (flat_map after_lf v.further) ∙ ap (λ xs. xs ++ written_value (flat_map after_lf v.further)) (plain_itself v.first v.lines.first_line))
    ∙ regroup e.label v.first (written_value (flat_map after_lf v.further))
    ∙ further_written (labelled e.label v.first) v.further v.lines.further_lines
  where
    regroup : (label first rest : List ℕ) → label ++ codes ": " ++ (first ++ rest) ++ 10 ∷ [] ≡ labelled label first ++ (rest ++ 10 ∷ [])
    regroup label first rest = simp append_assoc

pub info_written : (elements : List MetadataElement) (h : AllByRecursion IsElement elements) → written_info elements ≡ written_lines (info_texts elements h)
unfolding info_texts
info_written [] h = refl
info_written (e ∷ elements) h =
    flat_map-cons written_element e elements
    ∙ ap (λ xs. xs ++ written_info elements) (element_written e h.0.is_value)
    ∙ ap (λ xs. written_lines (texts_of e h.0.is_value) ++ xs) (info_written elements h.1)
    ∙ sym (lines_append (texts_of e h.0.is_value) (info_texts elements h.1))

-- these lines contain no line end
plain_label : (label : List ℕ) → AllByRecursion IsLabelOctet label → AllByRecursion IsPlain label
plain_label [] h = tt
plain_label (x ∷ label) h = (h.0.1, plain_label label h.1)

further_plain : (further : List (List ℕ)) → AllByRecursion IsFurtherLine further → AllByRecursion (AllByRecursion IsPlain) (map indented further)
further_plain [] h = tt
further_plain (line ∷ further) h = (((λ e. cc, λ e. cc), h.0.no_line_end), further_plain further h.1)

texts_plain : (e : MetadataElement) (h : IsElement e) → AllByRecursion (AllByRecursion IsPlain) (texts_of e h.is_value)
texts_plain e h = (
  each_append IsPlain e.label (58 ∷ 32 ∷ h.is_value.first) (plain_label e.label h.is_label.octets) ((λ e. cc, λ e. cc), ((λ e. cc, λ e. cc), h.is_value.lines.first_line)),
  further_plain h.is_value.further h.is_value.lines.further_lines,
)

pub info_plain : (elements : List MetadataElement) (h : AllByRecursion IsElement elements) → AllByRecursion (AllByRecursion IsPlain) (info_texts elements h)
unfolding info_texts
info_plain [] h = tt
info_plain (e ∷ elements) h = each_append (AllByRecursion IsPlain) (texts_of e h.0.is_value) (info_texts elements h.1) (texts_plain e h.0) (info_plain elements h.1)

-- the pieces of a value in UTF-8
value_utf8 : (first : List ℕ) (further : List (List ℕ)) → IsUtf8 (first ++ flat_map after_lf further) → IsUtf8 first × AllByRecursion IsUtf8 further
value_utf8 first [] u = (subst IsUtf8 (append-nil first) u, tt)
value_utf8 first (line ∷ further) u =
    let cut = subst IsUtf8 (ap (λ xs. first ++ xs) (flat_map-cons after_lf line further)) u in
    (utf8_before first (line ++ flat_map after_lf further) 10 (omega arith) cut, let r = value_utf8 line further (utf8_after first (line ++ flat_map after_lf further) 10 (omega arith) cut) in (r.0, r.1))

-- an indented line is not blank
not_blank : (line : List ℕ) → line ≢ [] → begins_blank line ≡ false → is_blank_line (32 ∷ line) ≡ false
not_blank [] some b = absurd (some refl)
not_blank (x ∷ line) some b = rw b refl

-- the further lines of an element
lead_further : (before : List MetadataElement) (label value : List ℕ) (further rest : List (List ℕ)) (n : ℕ) (after : List MetadataElement) → AllByRecursion IsFurtherLine further → AllByRecursion IsUtf8 further
    → ((m : ℕ) → Lead (LeadsOn (AddsInfo V1)) (before ++ element label (value ++ flat_map after_lf further) ∷ []) (numbered_texts m rest) after)
    → Lead (LeadsOn (AddsInfo V1)) (before ++ element label value ∷ []) (numbered_texts n (map indented further ++ rest)) after
lead_further before label value [] rest n after h u k = subst (λ v. Lead (LeadsOn (AddsInfo V1)) (before ++ element label v ∷ []) (numbered_texts n rest) after) (append-nil value) (k n)
lead_further before label value (line ∷ further) rest n after h u k =
    let next = before ++ element label (value ++ after_lf line) ∷ [] in (
      next,
      inr (
        not_blank line h.0.some h.0.begins,
        IsUtf8-append (32 ∷ []) line (utf8_one 32 (omega arith)) u.0,
        inl (record {
          earlier = before;
          last = element label value;
          line = line;
          indented = record { blanks = 32 ∷ []; whole = refl; some_blank = λ e. cc; only_blanks = (refl, tt); line_begins = h.0.begins };
          has_last = refl;
          continues = refl;
        }),
      ),
      lead_further before label (value ++ after_lf line) further rest (n + 1) after h.1 u.1
          (λ m. subst (λ v. Lead (LeadsOn (AddsInfo V1)) (before ++ element label v ∷ []) (numbered_texts m rest) after)
          (ap (λ xs. value ++ xs) (flat_map-cons after_lf line further) ∙ sym (append_assoc value (after_lf line) (flat_map after_lf further))) (k m)),
    )

label_not_blank : (label rest : List ℕ) → IsFit label → is_blank_line (label ++ rest) ≡ false
label_not_blank [] rest h = absurd (h.some refl)
label_not_blank (x ∷ label) rest h = let b : is_blank x ≡ false = h.begins in rw b refl

no_colon : (label : List ℕ) → AllByRecursion IsLabelOctet label → AllByRecursion IsNotColon label
no_colon [] h = tt
no_colon (x ∷ label) h = (h.0.0, no_colon label h.1)

-- the lines of an element
lead_element : (before : List MetadataElement) (e : MetadataElement) (h : IsElement e) (rest : List (List ℕ)) (n : ℕ) (after : List MetadataElement)
    → ((m : ℕ) → Lead (LeadsOn (AddsInfo V1)) (before ++ e ∷ []) (numbered_texts m rest) after)
    → Lead (LeadsOn (AddsInfo V1)) before (numbered_texts n (texts_of e h.is_value ++ rest)) after
lead_element before e h rest n after k =
    let v = h.is_value in
    let u = value_utf8 v.first v.further (subst IsUtf8 v.lines.whole h.value_utf8) in (
      before ++ element e.label v.first ∷ [],
      inr (
        label_not_blank e.label (58 ∷ 32 ∷ v.first) h.is_label.fit,
        IsUtf8-append e.label (58 ∷ 32 ∷ v.first) h.label_utf8 (IsUtf8-append (58 ∷ []) (32 ∷ v.first) (utf8_one 58 (omega arith)) (IsUtf8-append (32 ∷ []) v.first (utf8_one 32 (omega arith)) u.0)),
        inr (record {
          element = element e.label v.first;
          gives = record {
            parts = record {
              before = e.label;
              after = 32 ∷ v.first;
              colon = record { whole = refl; first_colon = no_colon e.label h.is_label.octets };
              label_is = refl;
              first_line = (refl, refl);
            };
            fit = h.is_label.fit;
          };
          adds = refl;
        }),
      ),
      lead_further before e.label v.first v.further rest (n + 1) after v.lines.further_lines u.1
          (λ m. subst (λ value. Lead (LeadsOn (AddsInfo V1)) (before ++ element e.label value ∷ []) (numbered_texts m rest) after) v.lines.whole (k m)),
    )

lead_info : (before elements : List MetadataElement) (h : AllByRecursion IsElement elements) (n : ℕ) → Lead (LeadsOn (AddsInfo V1)) before (numbered_texts n (info_texts elements h)) (before ++ elements)
unfolding info_texts
lead_info before [] h n = append-nil before
lead_info before (e ∷ elements) h n = lead_element before e h.0 (info_texts elements h.1) n (before ++ e ∷ elements)
    (λ m. subst (λ after. Lead (LeadsOn (AddsInfo V1)) (before ++ e ∷ []) (numbered_texts m (info_texts elements h.1)) after) (append_assoc before (e ∷ []) elements) (lead_info (before ++ e ∷ []) elements h.1 m))

-- a label begins with no mark
element_unmarked : (label first : List ℕ) (tail : List (List ℕ)) → IsFit label → starts_with nat_eq (written_lines (labelled label first ∷ tail)) mark ≡ false
element_unmarked label first tail fit =
    subst (λ octets. starts_with nat_eq octets mark ≡ false)
    (sym (lines_cons (labelled label first) tail ∙ ap (λ xs. xs ++ written_lines tail) (append_assoc label (58 ∷ 32 ∷ first) (10 ∷ [])) ∙ append_assoc label (58 ∷ 32 ∷ (first ++ 10 ∷ [])) (written_lines tail)))
    (no_mark label (32 ∷ ((first ++ 10 ∷ []) ++ written_lines tail)) 58 (λ e. cc) (λ e. cc) (λ e. cc) fit.unmarked)

info_unmarked : (elements : List MetadataElement) (h : AllByRecursion IsElement elements) → starts_with nat_eq (written_lines (info_texts elements h)) mark ≡ false
unfolding info_texts
info_unmarked [] h = refl
info_unmarked (e ∷ elements) h = element_unmarked e.label h.0.is_value.first (map indented h.0.is_value.further ++ info_texts elements h.1) h.0.is_label.fit

pub info_reads : (octets : List ℕ) (elements : List MetadataElement) → octets ≡ written_info elements → AllByRecursion IsElement elements → InfoText V1 octets elements
info_reads octets elements e h = subst (λ text. InfoText V1 text elements) (sym (e ∙ info_written elements h))
    (written_text (AddsInfo V1) [] elements (info_texts elements h) (info_unmarked elements h) (info_plain elements h) (lead_info [] elements h 1))
