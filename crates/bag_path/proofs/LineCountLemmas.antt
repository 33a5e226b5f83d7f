-- Lines are counted one octet after the other.
use Rattle.std.proofs.Common.{◌≡◌, ◌≢◌, ◌+◌, ◌-◌, ◌≤◌, ◌^◌, ◌++◌, ℕ, suc, Bool, true, false, List, [], ◌∷◌, if◌then◌else◌, length, min, refl, sym, ap, ◌∙◌, subst, arith, inl, inr}
use Rattle.std.proofs.lemmas.Bool.{ne_eqb}
use Rattle.std.proofs.lemmas.Bool.Decides.{eqb_tells}
use Rattle.bag_path.specs.declared.lines.Ending.TheVariants.{Cr}
use Rattle.bag_path.specs.Lines.{Text, IsPlain, MayStand, lines_of, lines_with_cr, lines_with_octet, octets_of_lines}
use Rattle.bag_path.specs.LineCounts.{begins_line, last_after, lines_with}
use Rattle.bag_path.proofs.LinesLemmas.{begins, by_octet, joined_lines, plain_step}

abbrev one_if : Bool → ℕ
one_if test = if test then 1 else 0

-- the lines of these octets, and the last of them
abbrev pub IsCount : ℕ → ℕ → List ℕ → Type 0
IsCount lines last octets = (lines ≡ min (length (lines_of octets)) (2 ^ 64 - 1)) × (last ≡ last_after 10 octets)

-- how many lines begin among these octets, after this one
abbrev begun : ℕ → List ℕ → ℕ
begun last [] = 0
begun last (octet ∷ octets) = one_if (begins_line last octet) + begun octet octets

with_cr : (lines : List Text) → MayStand [] Cr lines → length (lines_with_cr lines) ≡ length lines + 1
with_cr [] h = refl
with_cr (next ∷ lines) h = rw h (omega arith)

with_octet : (octet : ℕ) (lines : List Text) → lines ≢ [] → length (lines_with_octet octet lines) ≡ length lines
with_octet octet [] some = absurd (some refl)
with_octet octet (next ∷ lines) some = refl

some_line : (x : ℕ) (xs : List ℕ) → lines_of (x ∷ xs) ≢ []
some_line x xs none = let e : x ∷ xs ≡ [] = joined_lines (x ∷ xs) ∙ ap octets_of_lines none in cc

lf_first : (xs : List ℕ) → length (lines_of (10 ∷ xs)) ≡ suc (length (lines_of xs))
unfolding lines_of
lf_first xs = refl

cr_first : (xs : List ℕ) → lines_of (13 ∷ xs) ≡ lines_with_cr (lines_of xs)
unfolding lines_of
cr_first xs = refl

cr_lf_first : (xs : List ℕ) → length (lines_of (13 ∷ 10 ∷ xs)) ≡ suc (length (lines_of xs))
unfolding lines_of
cr_lf_first xs = refl

-- the first octet of two begins a line, and the second one may
abbrev BeginsOneOrTwo : ℕ → ℕ → List ℕ → Type 0
BeginsOneOrTwo last x xs = length (lines_of (last ∷ x ∷ xs)) ≡ one_if (begins_line last x) + length (lines_of (x ∷ xs))

after_lf : (x : ℕ) (xs : List ℕ) → BeginsOneOrTwo 10 x xs
after_lf x xs = omega (arith, lf_first (x ∷ xs))

after_cr : (x : ℕ) (xs : List ℕ) → BeginsOneOrTwo 13 x xs
after_cr x xs = elim (eqb_tells x 10) [
  | inl e ↦ subst (λ o. BeginsOneOrTwo 13 o xs) (sym e.1) (omega (arith, cr_lf_first xs, lf_first xs))
  | inr n ↦ rw (ne_eqb x 10 n.1) (omega (arith, ap length (cr_first (x ∷ xs)), with_cr (lines_of (x ∷ xs)) (begins x xs n.1 [])))
]

after_plain : (l x : ℕ) (xs : List ℕ) → IsPlain l → BeginsOneOrTwo l x xs
after_plain l x xs p = rw (ne_eqb l 10 p.0, ne_eqb l 13 p.1) (omega (arith, ap length (plain_step l (x ∷ xs) p), with_octet l (lines_of (x ∷ xs)) (some_line x xs)))

after : (last x : ℕ) (xs : List ℕ) → BeginsOneOrTwo last x xs
after last x xs = by_octet (λ l. BeginsOneOrTwo l x xs) (after_lf x xs) (after_cr x xs) (λ l p. after_plain l x xs p) last

alone : (x : ℕ) → length (lines_of (x ∷ [])) ≡ 1
unfolding lines_of
alone x = by_octet (λ x. length (lines_of (x ∷ [])) ≡ 1) refl refl (λ x p. ap length (plain_step x [] p)) x

begun_after : (last : ℕ) (xs : List ℕ) → length (lines_of (last ∷ xs)) ≡ begun last xs + 1
begun_after last [] = alone last
begun_after last (x ∷ xs) = after last x xs ∙ omega (arith, begun_after x xs)

begun_all : (xs : List ℕ) → length (lines_of xs) ≡ begun 10 xs
unfolding lines_of
begun_all [] = refl
begun_all (x ∷ xs) = begun_after x xs ∙ omega arith

begun_more : (last : ℕ) (xs : List ℕ) (x : ℕ) → begun last (xs ++ x ∷ []) ≡ begun last xs + one_if (begins_line (last_after last xs) x)
begun_more last [] x = omega arith
begun_more last (y ∷ xs) x = omega (arith, begun_more y xs x)

last_more : (last : ℕ) (xs : List ℕ) (x : ℕ) → last_after last (xs ++ x ∷ []) ≡ x
last_more last [] x = refl
last_more last (y ∷ xs) x = last_more y xs x

-- an octet more
pub counted_more : (lines last : ℕ) (octets : List ℕ) (x : ℕ) → IsCount lines last octets → IsCount (lines_with lines last x) x (octets ++ x ∷ [])
counted_more lines last octets x h = (
  rw h.1 (more (begins_line (last_after 10 octets) x) lines (begun 10 octets) _ (h.0 ∙ ap (λ n. min n (2 ^ 64 - 1)) (begun_all octets)) (begun_all (octets ++ x ∷ []) ∙ begun_more 10 octets x)),
  sym (last_more 10 octets x),
)
  where
    more : (begins : Bool) (lines all new : ℕ) → lines ≡ min all (2 ^ 64 - 1) → new ≡ all + one_if begins → (if begins then min (lines + 1) (2 ^ 64 - 1) else lines) ≡ min new (2 ^ 64 - 1)
    more true lines all new e n = omega (arith, e, n)
    more false lines all new e n = omega (arith, e, n)

-- more octets have no fewer lines
fewer : (last : ℕ) (xs ys : List ℕ) → begun last xs ≤ begun last (xs ++ ys)
fewer last [] ys = omega arith
fewer last (x ∷ xs) ys = omega (arith, fewer x xs ys)

pub lines_more : (xs ys : List ℕ) → length (lines_of xs) ≤ length (lines_of (xs ++ ys))
lines_more xs ys = omega (arith, begun_all xs, begun_all (xs ++ ys), fewer 10 xs ys)
