-- The size of the payload, and what `Payload-Oxum` says about it.
use Rattle.std.proofs.Common.{◌≡◌, ◌↔◌, ◌+◌, ℕ, true, false, not, List, [], ◌∷◌, ◌++◌, Option, Some, None, IsTrue, nat_eq, length, take, get_or, slice_get, cond, refl, sym, ap, ◌∙◌, inl, inr, subst, arith}
use Rattle.std.specs.Bool.{then_some}
use Rattle.bag_rules.proofs.Words.{Adds, append-nil, AreTextsOf, Bag, cases_Bool, Decides-eqb, Fault, filter_more, get_or_from_slice_get, Has, HasFault, HasFaultOf, is_oxum, is_payload, IsOtherOxum, IsSizeOf, length_push, MetadataElement, Oxum, OxumText, OxumWrong, payload_length, payload_of, PayloadSize, same_Some, slice_get_within, TagTexts}
use Rattle.bag_rules.specs.Bags.{octet_count}
use Rattle.bag_rules.proofs.AddsLemmas.{adds_none, adds_one}
use Rattle.bag_rules.proofs.FormLemmas.{no_oxum, oxum_in, oxum_of}
use Rattle.bag_rules.proofs.OxumReading.{oxum}

abbrev File : Type 0
File = List ℕ × List ℕ

-- NUMBERS OF THE PAYLOAD

pub no_octets : 0 ≡ octet_count []
unfolding octet_count
no_octets = refl

count_append : (xs : List File) (path octets : List ℕ) → octet_count (xs ++ (path, octets) ∷ []) ≡ octet_count xs + length octets
unfolding octet_count
count_append [] path octets = omega arith
count_append (x ∷ xs) path octets = omega (arith, count_append xs path octets)

one_more : (files : List File) (i : ℕ) (path octets : List ℕ) → slice_get files i ≡ Some (path, octets) → payload_of (take (i + 1) files) ≡ payload_of (take i files) ++ cond (is_payload path) ((path, octets) ∷ []) []
one_more files i path octets at =
    let file : File = (path, octets) in
    let here : get_or files i file ≡ file = get_or_from_slice_get files i file file at in
    filter_more (λ (f : File). is_payload f.0) files i file (slice_get_within files i file at)
    ∙ ap (λ (f : File). payload_of (take i files) ++ cond (is_payload f.0) (f ∷ []) []) here

module _ (files : List File) (i : ℕ) (path octets : List ℕ) (at : slice_get files i ≡ Some (path, octets)) where
  pub payload_more : is_payload path ≡ true → payload_of (take (i + 1) files) ≡ payload_of (take i files) ++ (path, octets) ∷ []
  payload_more payload = one_more files i path octets at ∙ ap (λ b. payload_of (take i files) ++ cond b ((path, octets) ∷ []) []) payload

  pub payload_same : is_payload path ≡ false → payload_of (take (i + 1) files) ≡ payload_of (take i files)
  payload_same other = one_more files i path octets at ∙ ap (λ b. payload_of (take i files) ++ cond b ((path, octets) ∷ []) []) other ∙ append-nil (payload_of (take i files))

  pub octets_more : is_payload path ≡ true → octet_count (payload_of (take (i + 1) files)) ≡ octet_count (payload_of (take i files)) + length octets
  octets_more payload = ap octet_count (payload_more payload) ∙ count_append (payload_of (take i files)) path octets

  pub files_more : is_payload path ≡ true → length (payload_of (take (i + 1) files)) ≡ length (payload_of (take i files)) + 1
  files_more payload = ap length (payload_more payload) ∙ length_push (payload_of (take i files)) (path, octets)

-- the size with one more file
module _ (files : List File) (i : ℕ) (path octets : List ℕ) (at : slice_get files i ≡ Some (path, octets)) (old : PayloadSize) (before : IsSizeOf (take i files) old) where
  pub size_more : (new : PayloadSize) → is_payload path ≡ true → new.octets ≡ old.octets + length octets → new.streams ≡ old.streams + 1 → IsSizeOf (take (i + 1) files) new
  size_more new payload o s = (omega (arith, o, before.0, octets_more files i path octets at payload), omega (arith, s, before.1, files_more files i path octets at payload))

  pub size_same : is_payload path ≡ false → IsSizeOf (take (i + 1) files) old
  size_same other = (before.0 ∙ ap octet_count (sym (payload_same files i path octets at other)), before.1 ∙ ap length (sym (payload_same files i path octets at other)))

  -- by the length of a payload file, or none
  pub size_by : (n : Option ℕ) (new : PayloadSize) → n ≡ payload_length path octets → ((k : ℕ) → n ≡ Some k → (new.octets ≡ old.octets + k) × (new.streams ≡ old.streams + 1)) → (n ≡ None → new ≡ old) → IsSizeOf (take (i + 1) files) new
  size_by n new is grows stays = elim (cases_Bool (is_payload path)) [
    | inl payload ↦ (let g = grows (length octets) (is ∙ ap (λ b. then_some b (length octets)) payload) in size_more new payload g.0 g.1)
    | inr other ↦ subst (IsSizeOf (take (i + 1) files)) (sym (stays (is ∙ ap (λ b. then_some b (length octets)) other))) (size_same other)
  ]

-- PAYLOAD-OXUM

module _ (element : MetadataElement) (size : PayloadSize) (text : List ℕ) (o : Option Oxum) (same : text ≡ element.value) (only : (x : Oxum) → OxumText text x.octets x.streams → o ≡ Some x) where
  of_value : (a b : ℕ) → OxumText element.value a b → o ≡ Some (oxum a b)
  of_value a b h = only (oxum a b) (subst (λ t. OxumText t a b) (sym same) h)

  -- a value that can't be read says no other numbers
  pub unread_other : o ≡ None → ¬ IsOtherOxum size element
  unread_other none h = let k : None ≡ Some (oxum h.1.0 h.1.1.0) = sym none ∙ of_value h.1.0 h.1.1.0 h.1.1.1 in cc

  -- one that says the same number of octets
  pub other_streams : (x : Oxum) → o ≡ Some x → OxumText text x.octets x.streams → is_oxum element ≡ true → x.octets ≡ size.octets → IsTrue (not (nat_eq x.streams size.streams)) ↔ IsOtherOxum size element
  other_streams x some read is octets_same = (
    λ h. (is, (x.octets, (x.streams, subst (λ t. OxumText t x.octets x.streams) same read, inr (λ e. let k : false ≡ true = sym (ap not ((Decides-eqb x.streams size.streams).1 e)) ∙ h in cc)))),
    λ h.
        let y = oxum h.1.0 h.1.1.0 in
        let one : x ≡ y = same_Some x y (sym some ∙ of_value h.1.0 h.1.1.0 h.1.1.1) in
        elim h.1.1.2 [
          | inl e ↦ absurd (e (sym (ap (λ (z : Oxum). z.octets) one) ∙ octets_same))
          | inr e ↦ elim (cases_Bool (nat_eq x.streams size.streams)) [
            | inl t ↦ absurd (e (sym (ap (λ (z : Oxum). z.streams) one) ∙ (Decides-eqb x.streams size.streams).0 t))
            | inr t ↦ ap not t
          ]
        ],
  )

module _ (bag : Bag) (texts : TagTexts) (are : AreTextsOf (length bag.files) bag texts) where
  wrong_kind : (f : Fault) → HasFaultOf bag (13 ∷ []) f → (OxumWrong ≡ f) × HasFault bag OxumWrong
  wrong_kind OxumWrong h = (refl, h.0)
  wrong_kind _ h = absurd (let k : false ≡ true = h.1 in cc)

  pub no_wrong : (faults : List Fault) → texts.info ≡ None → Adds faults faults (HasFaultOf bag (13 ∷ []))
  no_wrong faults none = adds_none faults (HasFaultOf bag (13 ∷ [])) (λ f h. let w = (wrong_kind f h).1 in no_oxum bag texts are w.0 none w.1)

  module _ (elements : List MetadataElement) (some : texts.info ≡ Some elements) (size : PayloadSize) (is : IsSizeOf bag.files size) where
    pub wrong_there : (old new : List Fault) → ((element : MetadataElement) × Has elements element × IsOtherOxum size element) → new ≡ old ++ OxumWrong ∷ [] → Adds old new (HasFaultOf bag (13 ∷ []))
    wrong_there old new h more =
        let other = h.2.1.1.2 in
        adds_one old new OxumWrong (HasFaultOf bag (13 ∷ [])) more
        ((h.0, oxum_of bag texts are elements h.0 some h.1 h.2.0, (h.2.1.0, (h.2.1.1.0, h.2.1.1.1, elim other [ inl e ↦ inl (λ k. e (k ∙ sym is.0)) | inr e ↦ inr (λ k. e (k ∙ sym is.1)) ]))), refl)
        (λ f k. (wrong_kind f k).0)

    pub wrong_away : (faults : List Fault) → ((element : MetadataElement) → Has elements element → ¬ IsOtherOxum size element) → Adds faults faults (HasFaultOf bag (13 ∷ []))
    wrong_away faults none = adds_none faults (HasFaultOf bag (13 ∷ [])) (λ f h.
        let w = (wrong_kind f h).1 in
        none w.0 (oxum_in bag texts are elements w.0 some w.1)
        (w.1.is_oxum, (w.2.0, (w.2.1.0, w.2.1.1, elim w.2.1.2 [ inl e ↦ inl (λ k. e (k ∙ is.0)) | inr e ↦ inr (λ k. e (k ∙ is.1)) ]))))
