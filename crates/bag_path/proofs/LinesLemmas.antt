-- Octets have exactly one list of lines.
use Rattle.std.proofs.Common.{◌≡◌, ◌≢◌, ℕ, true, false, List, [], ◌∷◌, ◌++◌, ◌⊎◌, if◌then◌else◌, refl, sym, ap, ◌∙◌, append_assoc, append-nil, arith, subst, inl, inr, length, ◌<◌, ◌-◌, get_or, take, drop, map}
use Rattle.std.specs.List.{All, AllByRecursion}
use Rattle.std.proofs.lemmas.List.Elements.{recursion_from_All}
use Rattle.std.proofs.lemmas.List.{get_or-drop}
use Rattle.std.proofs.Math.Seq.{take-length}
use Rattle.std.proofs.lemmas.Bool.{ne_eqb}
use Rattle.std.proofs.lemmas.List.Concat.{flat_map-cons}
use Rattle.std.proofs.lemmas.Bool.Decides.{eqb_tells}
use Rattle.bag_path.specs.declared.lines.Ending.{Ending}
use Rattle.bag_path.specs.declared.lines.Ending.TheVariants.{Lf, Cr, CrLf, Nothing}
use Rattle.bag_path.specs.Lines.{Text, line, ending_octets, octets_of_line, octets_of_lines, IsPlain, is_lone_lf, MayStand, AreLines, HasLines, lines_with_cr, lines_with_octet, lines_of, written_lines}

-- a plain octet goes to the first line
pub plain_step : (octet : ℕ) (octets : List ℕ) → IsPlain octet → lines_of (octet ∷ octets) ≡ lines_with_octet octet (lines_of octets)
unfolding lines_of
plain_step octet octets h = rw (ne_eqb octet 10 h.0, ne_eqb octet 13 h.1) refl

-- a text in front of lines goes to the first line
text_step : (text rest : List ℕ) (next : Text) (lines : List Text) → AllByRecursion IsPlain text → lines_of rest ≡ next ∷ lines → lines_of (text ++ rest) ≡ line (text ++ next.text) next.ending ∷ lines
text_step [] rest next lines h e = e
text_step (x ∷ text) rest next lines h e = plain_step x (text ++ rest) h.0 ∙ ap (lines_with_octet x) (text_step text rest next lines h.1 e)

-- a text alone is one line without an ending
pub last_step : (x : ℕ) (text : List ℕ) → IsPlain x → AllByRecursion IsPlain text → lines_of (x ∷ text) ≡ line (x ∷ text) Nothing ∷ []
unfolding lines_of
last_step x [] p h = plain_step x [] p
last_step x (y ∷ text) p h = plain_step x (y ∷ text) p ∙ ap (lines_with_octet x) (last_step y text h.0 h.1)

-- an ending, before octets whose lines are known
ending_step : (text : List ℕ) (ending : Ending) (rest : List ℕ) (lines : List Text) → ending ≢ Nothing → MayStand text ending lines → lines_of rest ≡ lines → lines_of (ending_octets ending ++ rest) ≡ line [] ending ∷ lines
unfolding lines_of
ending_step text Lf rest lines n h e = ap (λ ls. line [] Lf ∷ ls) e
ending_step text CrLf rest lines n h e = ap (λ ls. line [] CrLf ∷ ls) e
ending_step text Cr rest [] n h e = ap lines_with_cr e
ending_step text Cr rest (next ∷ lines) n h e = ap lines_with_cr e ∙ ap (λ b. if b then line [] CrLf ∷ lines else line [] Cr ∷ next ∷ lines) h
ending_step text Nothing rest lines n h e = absurd (n refl)

-- an octet is LF, CR or plain
pub by_octet : (P : ℕ → Type 0) → P 10 → P 13 → ((x : ℕ) → IsPlain x → P x) → (x : ℕ) → P x
by_octet P lf cr plain x = elim (eqb_tells x 10) [ inl a ↦ subst P (sym a.1) lf | inr a ↦ elim (eqb_tells x 13) [ inl b ↦ subst P (sym b.1) cr | inr b ↦ plain x (a.1, b.1) ] ]

-- what may follow a line may follow one with more text
more_text : (x : ℕ) (text : List ℕ) (ending : Ending) (lines : List Text) → MayStand text ending lines → MayStand (x ∷ text) ending lines
more_text x text Lf lines h = tt
more_text x text CrLf lines h = tt
more_text x text Cr [] h = tt
more_text x text Cr (next ∷ lines) h = h
more_text x text Nothing lines h = (λ e. cc, h.1)

-- a text with an ending, before octets whose lines are known
ended_step : (text : List ℕ) (ending : Ending) (rest : List ℕ) (lines : List Text) → AllByRecursion IsPlain text → ending ≢ Nothing → MayStand text ending lines → lines_of rest ≡ lines → lines_of ((text ++ ending_octets ending) ++ rest) ≡ line text ending ∷ lines
ended_step text ending rest lines p n h e =
    ap lines_of (append_assoc text (ending_octets ending) rest)
    ∙ text_step text (ending_octets ending ++ rest) (line [] ending) lines p (ending_step text ending rest lines n h e)
    ∙ ap (λ t. line t ending ∷ lines) (append-nil text)

-- the first line, before octets whose lines are known
pub first_step : (text : List ℕ) (ending : Ending) (rest : List ℕ) (lines : List Text) → AllByRecursion IsPlain text → MayStand text ending lines → lines_of rest ≡ lines → rest ≡ octets_of_lines lines → lines_of ((text ++ ending_octets ending) ++ rest) ≡ line text ending ∷ lines
first_step text Lf rest lines p h e j = ended_step text Lf rest lines p (λ e. cc) h e
first_step text CrLf rest lines p h e j = ended_step text CrLf rest lines p (λ e. cc) h e
first_step text Cr rest lines p h e j = ended_step text Cr rest lines p (λ e. cc) h e
first_step [] Nothing rest lines p h e j = absurd (h.0 refl)
first_step (x ∷ text) Nothing rest lines p h e j =
    let nothing : rest ≡ [] = j ∙ ap octets_of_lines h.1 in
    ap (λ r. lines_of (((x ∷ text) ++ []) ++ r)) nothing
    ∙ ap lines_of (append-nil ((x ∷ text) ++ []) ∙ append-nil (x ∷ text))
    ∙ last_step x text p.0 p.1 ∙ ap (λ ls. line (x ∷ text) Nothing ∷ ls) (sym h.1)

-- the octets of lines have no other lines
pub only_lines : (lines : List Text) → AreLines lines → lines_of (octets_of_lines lines) ≡ lines
unfolding lines_of
only_lines [] h = refl
only_lines (l ∷ lines) h = ap lines_of (flat_map-cons octets_of_line l lines) ∙ first_step l.text l.ending (octets_of_lines lines) lines h.0 h.1 (only_lines lines h.2) refl

-- whether a line is an empty one ended by LF
lone : (text : List ℕ) (ending : Ending) → ((is_lone_lf text ending ≡ true) × (text ≡ []) × (ending ≡ Lf)) ⊎ (is_lone_lf text ending ≡ false)
lone [] Lf = inl (refl, refl, refl)
lone [] Cr = inr refl
lone [] CrLf = inr refl
lone [] Nothing = inr refl
lone (x ∷ text) ending = inr refl

joined_cr : (lines : List Text) → octets_of_lines (lines_with_cr lines) ≡ 13 ∷ octets_of_lines lines
joined_cr [] = refl
joined_cr (next ∷ lines) = elim (lone next.text next.ending) [ inl h ↦ rw (h.0, h.1, h.2) refl | inr h ↦ rw h refl ]

joined_plain : (x : ℕ) (lines : List Text) → octets_of_lines (lines_with_octet x lines) ≡ x ∷ octets_of_lines lines
joined_plain x [] = refl
joined_plain x (next ∷ lines) = refl

pub joined_lines : (octets : List ℕ) → octets ≡ octets_of_lines (lines_of octets)
unfolding lines_of
joined_lines [] = refl
joined_lines (x ∷ octets) = by_octet (λ x. x ∷ octets ≡ octets_of_lines (lines_of (x ∷ octets)))
    (ap (λ os. 10 ∷ os) (joined_lines octets))
    (ap (λ os. 13 ∷ os) (joined_lines octets) ∙ sym (joined_cr (lines_of octets)))
    (λ x p. ap (λ os. x ∷ os) (joined_lines octets) ∙ sym (joined_plain x (lines_of octets)) ∙ ap octets_of_lines (sym (plain_step x octets p)))
    x

lines_cr : (lines : List Text) → AreLines lines → AreLines (lines_with_cr lines)
lines_cr [] h = (tt, tt, tt)
lines_cr (next ∷ lines) h = elim (lone next.text next.ending) [ inl e ↦ rw e.0 (tt, tt, h.2) | inr e ↦ rw e (tt, e, h) ]

lines_plain : (x : ℕ) (lines : List Text) → IsPlain x → AreLines lines → AreLines (lines_with_octet x lines)
lines_plain x [] p h = ((p, tt), (λ e. cc, refl), tt)
lines_plain x (next ∷ lines) p h = ((p, h.0), more_text x next.text next.ending lines h.1, h.2)

pub are_lines : (octets : List ℕ) → AreLines (lines_of octets)
unfolding lines_of
are_lines [] = tt
are_lines (x ∷ octets) = by_octet (λ x. AreLines (lines_of (x ∷ octets)))
    (tt, tt, are_lines octets)
    (lines_cr (lines_of octets) (are_lines octets))
    (λ x p. subst AreLines (sym (plain_step x octets p)) (lines_plain x (lines_of octets) p (are_lines octets)))
    x

-- the lines of the octets, and no others
pub one_list : (octets : List ℕ) (lines : List Text) → (HasLines octets lines → lines ≡ lines_of octets) × (lines ≡ lines_of octets → HasLines octets lines)
one_list octets lines = (
  λ h. sym (only_lines lines h.each) ∙ ap lines_of (sym h.whole),
  λ e. record { whole = joined_lines octets ∙ ap octets_of_lines (sym e); each = subst AreLines (sym e) (are_lines octets) },
)

begins_cr : (text : List ℕ) (lines : List Text) → MayStand text Cr (lines_with_cr lines)
begins_cr text [] = refl
begins_cr text (next ∷ lines) = elim (lone next.text next.ending) [ inl e ↦ rw e.0 refl | inr e ↦ rw e refl ]

begins_plain : (text : List ℕ) (x : ℕ) (lines : List Text) → MayStand text Cr (lines_with_octet x lines)
begins_plain text x [] = refl
begins_plain text x (next ∷ lines) = refl

-- lines that don't begin with LF don't begin with an empty one ended by LF
pub begins : (x : ℕ) (rest : List ℕ) → x ≢ 10 → (text : List ℕ) → MayStand text Cr (lines_of (x ∷ rest))
unfolding lines_of
begins x rest n text = by_octet (λ x. x ≢ 10 → MayStand text Cr (lines_of (x ∷ rest)))
    (λ n. absurd (n refl))
    (λ n. begins_cr text (lines_of rest))
    (λ x p n. subst (MayStand text Cr) (sym (plain_step x rest p)) (begins_plain text x (lines_of rest)))
    x n

-- the lines of octets that begin with this one
pub first_of : (octets text : List ℕ) (ending : Ending) (rest : List ℕ) → octets ≡ (text ++ ending_octets ending) ++ rest → All IsPlain text → MayStand text ending (lines_of rest) → lines_of octets ≡ line text ending ∷ lines_of rest
first_of octets text ending rest e p h = ap lines_of e ∙ first_step text ending rest (lines_of rest) (recursion_from_All IsPlain text p) h refl (joined_lines rest)

pub first_nothing : (octets text rest : List ℕ) → 0 < length octets → octets ≡ text ++ rest → All IsPlain text → length rest ≡ 0 → lines_of octets ≡ line text Nothing ∷ lines_of rest
unfolding lines_of
first_nothing octets text [] some e p n = first_of octets text Nothing [] (e ∙ sym (append-nil (text ++ []))) p (λ empty. absurd (omega (arith, ap length (e ∙ append-nil text ∙ empty))), refl)
first_nothing octets text (x ∷ rest) some e p n = absurd (omega (arith, n))

-- all of the rest
all_of : (n : ℕ) (rest : List ℕ) → n ≡ length rest → take n rest ≡ rest
all_of n rest e = rw e (take-length rest)

-- the octet after the text is CR if it isn't LF
pub get_first : (octets rest : List ℕ) (n : ℕ) → rest ≡ drop n octets → (get_or octets n 0 ≡ 10) ⊎ (get_or octets n 0 ≡ 13) → get_or rest 0 0 ≢ 10 → get_or rest 0 0 ≡ 13
get_first octets rest n e h k =
    let same : get_or rest 0 0 ≡ get_or octets n 0 = ap (λ r. get_or r 0 0) e ∙ get_or-drop n octets 0 0 ∙ ap (λ i. get_or octets i 0) (omega arith) in
    elim h [ inl a ↦ absurd (k (same ∙ a)) | inr a ↦ same ∙ a ]

pub first_lf : (octets text rest : List ℕ) → octets ≡ text ++ rest → All IsPlain text → 0 < length rest → get_or rest 0 0 ≡ 10 → lines_of octets ≡ line text Lf ∷ lines_of (take (length rest - 1) (drop 1 rest))
first_lf octets text [] e p some h = absurd (omega (arith, some))
first_lf octets text (x ∷ rest) e p some h = rw (all_of (length (x ∷ rest) - 1) rest (omega arith)) (first_of octets text Lf rest (e ∙ ap (λ y. text ++ y ∷ rest) h ∙ sym (append_assoc text (10 ∷ []) rest)) p tt)

pub first_crlf : (octets text rest : List ℕ) → octets ≡ text ++ rest → All IsPlain text → 1 < length rest → get_or rest 0 0 ≡ 13 → get_or rest 1 0 ≡ 10 → lines_of octets ≡ line text CrLf ∷ lines_of (take (length rest - 2) (drop 2 rest))
first_crlf octets text [] e p some h k = absurd (omega (arith, some))
first_crlf octets text (x ∷ []) e p some h k = absurd (omega (arith, some))
first_crlf octets text (x ∷ y ∷ rest) e p some h k = rw (all_of (length (x ∷ y ∷ rest) - 2) rest (omega arith)) (first_of octets text CrLf rest (e ∙ ap (λ z. text ++ z ∷ y ∷ rest) h ∙ ap (λ z. text ++ 13 ∷ z ∷ rest) k ∙ sym (append_assoc text (13 ∷ 10 ∷ []) rest)) p tt)

pub first_cr : (octets text rest : List ℕ) → octets ≡ text ++ rest → All IsPlain text → 0 < length rest → get_or rest 0 0 ≡ 13 → (1 < length rest → get_or rest 1 0 ≢ 10) → lines_of octets ≡ line text Cr ∷ lines_of (take (length rest - 1) (drop 1 rest))
unfolding lines_of
first_cr octets text [] e p some h k = absurd (omega (arith, some))
first_cr octets text (x ∷ []) e p some h k = first_of octets text Cr [] (e ∙ ap (λ z. text ++ z ∷ []) h ∙ sym (append-nil (text ++ 13 ∷ []))) p tt
first_cr octets text (x ∷ y ∷ rest) e p some h k = rw (all_of (length (x ∷ y ∷ rest) - 1) (y ∷ rest) (omega arith)) (first_of octets text Cr (y ∷ rest) (e ∙ ap (λ z. text ++ z ∷ y ∷ rest) h ∙ sym (append_assoc text (13 ∷ []) (y ∷ rest))) p (begins y rest (k (omega arith)) text))

-- if there are no octets, there are no lines
pub none_left : (octets : List ℕ) → length octets ≡ 0 → lines_of octets ≡ []
unfolding lines_of
none_left [] e = refl
none_left (x ∷ octets) e = absurd (omega (arith, e))

-- texts with LF after each are lines
are_lf_lines : (texts : List (List ℕ)) → AllByRecursion (All IsPlain) texts → AreLines (map (λ text. line text Lf) texts)
are_lf_lines [] h = tt
are_lf_lines (text ∷ texts) h = (recursion_from_All IsPlain text h.0, tt, are_lf_lines texts h.1)

octets_of_lines-lf_lines : (texts : List (List ℕ)) → written_lines texts ≡ octets_of_lines (map (λ text. line text Lf) texts)
octets_of_lines-lf_lines [] = refl
octets_of_lines-lf_lines (text ∷ texts) = ap (λ octets. (text ++ 10 ∷ []) ++ octets) (octets_of_lines-lf_lines texts)

pub lines_of-written_lines : (texts : List (List ℕ)) → All (All IsPlain) texts → lines_of (written_lines texts) ≡ map (λ text. line text Lf) texts
lines_of-written_lines texts h =
    ap lines_of (octets_of_lines-lf_lines texts) ∙ only_lines (map (λ text. line text Lf) texts) (are_lf_lines texts (recursion_from_All (All IsPlain) texts h))
