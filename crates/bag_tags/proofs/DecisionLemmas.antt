-- Facts that are decided: each holds, or does not hold.
use Rattle.std.proofs.Common.{◌≡◌, ◌≢◌, ◌≤◌, ◌<◌, ◌+◌, ◌⊎◌, ℕ, Bool, true, false, List, [], ◌∷◌, nat_lt, Decides, refl, inl, inr, arith}
use Rattle.std.specs.List.{AllByRecursion}
use Rattle.std.specs.Str.{IsUtf8, is_utf8}
use Rattle.std.specs.Char.{IsAsciiDigit, IsAsciiAlphabetic, IsAsciiAlphanumeric}
use Rattle.std.proofs.lemmas.Bool.Decides.{Decides-ltb, eqb_tells}
use Rattle.std.proofs.lemmas.Str.{IsUtf8-from_is_utf8, is_utf8-from_IsUtf8}

abbrev pub Decided : Type 0 → Type 0
Decided fact = fact ⊎ (¬ fact)

pub decided_by : (fact : Type 0) (test : Bool) → Decides test fact → Decided fact
decided_by fact true d = inl (d.0 refl)
decided_by fact false d = inr (λ h. let e : false ≡ true = d.1 h in cc)

pub decided_as : (fact other : Type 0) → (fact → other) → (other → fact) → Decided fact → Decided other
decided_as fact other to from d = elim d [ inl h ↦ inl (to h) | inr n ↦ inr (λ h. n (from h)) ]

pub decided_both : (fact other : Type 0) → Decided fact → Decided other → Decided (fact × other)
decided_both fact other d e = elim d [
  | inl h ↦ elim e [ inl k ↦ inl (h, k) | inr n ↦ inr (λ b. n b.1) ]
  | inr n ↦ inr (λ b. n b.0)
]

pub decided_either : (fact other : Type 0) → Decided fact → Decided other → Decided (fact ⊎ other)
decided_either fact other d e = elim d [
  | inl h ↦ inl (inl h)
  | inr n ↦ elim e [ inl k ↦ inl (inr k) | inr m ↦ inr (λ b. elim b [ inl h ↦ n h | inr k ↦ m k ]) ]
]

pub decided_not : (fact : Type 0) → Decided fact → Decided (¬ fact)
decided_not fact d = elim d [ inl h ↦ inr (λ n. n h) | inr n ↦ inl n ]

-- tests
pub decided_true : (test : Bool) → Decided (test ≡ true)
decided_true true = inl refl
decided_true false = inr (λ e. cc)

pub decided_false : (test : Bool) → Decided (test ≡ false)
decided_false true = inr (λ e. cc)
decided_false false = inl refl

-- numbers
pub decided_below : (a b : ℕ) → Decided (a < b)
decided_below a b = decided_by (a < b) (nat_lt a b) (Decides-ltb a b)

pub decided_at_most : (a b : ℕ) → Decided (a ≤ b)
decided_at_most a b = decided_as (a < b + 1) (a ≤ b) (λ h. omega (arith, h)) (λ h. omega (arith, h)) (decided_below a (b + 1))

pub decided_equal : (a b : ℕ) → Decided (a ≡ b)
decided_equal a b = elim (eqb_tells a b) [ inl h ↦ inl h.1 | inr h ↦ inr h.1 ]

-- ASCII
decided_within : (low high octet : ℕ) → Decided ((low ≤ octet) × (octet ≤ high))
decided_within low high octet = decided_both (low ≤ octet) (octet ≤ high) (decided_at_most low octet) (decided_at_most octet high)

pub decided_digit : (octet : ℕ) → Decided (IsAsciiDigit octet)
decided_digit octet = decided_within 48 57 octet

pub decided_letter : (octet : ℕ) → Decided (IsAsciiAlphabetic octet)
decided_letter octet = decided_either _ _ (decided_within 65 90 octet) (decided_within 97 122 octet)

pub decided_letter_or_digit : (octet : ℕ) → Decided (IsAsciiAlphanumeric octet)
decided_letter_or_digit octet = decided_either _ _ (decided_either _ _ (decided_within 48 57 octet) (decided_within 65 90 octet)) (decided_within 97 122 octet)

-- lists
pub decided_some : (xs : List ℕ) → Decided (xs ≢ [])
decided_some [] = inr (λ n. n refl)
decided_some (x ∷ xs) = inl (λ e. cc)

pub decided_all : (P : ℕ → Type 0) → ((x : ℕ) → Decided (P x)) → (xs : List ℕ) → Decided (AllByRecursion P xs)
decided_all P each [] = inl tt
decided_all P each (x ∷ xs) = decided_both (P x) (AllByRecursion P xs) (each x) (decided_all P each xs)

pub decided_utf8 : (octets : List ℕ) → Decided (IsUtf8 octets)
decided_utf8 octets = decided_by (IsUtf8 octets) (is_utf8 octets) (IsUtf8-from_is_utf8 octets, is_utf8-from_IsUtf8 octets)
