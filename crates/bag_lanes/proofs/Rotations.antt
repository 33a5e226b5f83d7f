-- Rotations of a word, bit by bit, and rotations inside one another.
use Rattle.std.proofs.Common.{◌≡◌, ℕ, ◌+◌, ◌-◌, ◌*◌, ◌/◌, ◌%◌, ◌^◌, ◌<◌, bit_xor, inl, inr, sym, ap, ◌∙◌, arith, shr-shr, mod-lt, pow_pos, add-zero}
use Rattle.std.proofs.lemmas.Bool.{cases_lt}
use Rattle.std.proofs.lemmas.Nat.{or_lt, shr_below, shr_le, xor_lt}
use Rattle.std.proofs.lemmas.Nat.Bits.{bit_at-zero, bit_at_above, bit_at_cat_high, bit_at_cat_low, bit_at_or, bit_at_xor, same_from_bits_below}
use Rattle.std.specs.Int.{w32, bit_at, rotate_right}
use lib.Bits.{xor_assoc}

-- bit i of a word that is cut to 32 bits
bit_at-cut : (n i : ℕ) → i < 32 → bit_at (n % 2 ^ 32) i ≡ bit_at n i
bit_at-cut n i low =
    let whole : n / 2 ^ 32 * 2 ^ 32 + n % 2 ^ 32 ≡ n = omega arith in
    sym (bit_at_cat_low (n / 2 ^ 32) 32 (n % 2 ^ 32) i low) ∙ ap (λ (m : ℕ). bit_at m i) whole

-- where bit i comes from
bit_at-rotate_right : (x k i : ℕ) → 0 < k → k < 32 → x < 2 ^ 32 → i < 32 → bit_at (rotate_right w32 x k) i ≡ bit_at x ((i + k) % 32)
bit_at-rotate_right x k i some few fits low =
    let by : k % 32 ≡ k = omega arith in
    let back : (32 - k) % 32 ≡ 32 - k = omega arith in
    let j : ℕ = 32 - k in
    elim (cases_lt (i + k) 32) [
      | inl below ↦
          let from : (i + k) % 32 ≡ k + i = omega arith in
          let moved : bit_at (x / 2 ^ k) i ≡ bit_at x (k + i) = ap (λ (n : ℕ). n % 2) (shr-shr x k i) in
          let none : bit_at (x * 2 ^ j % 2 ^ 32) i ≡ 0 =
          bit_at-cut (x * 2 ^ j) i low ∙ ap (λ (n : ℕ). bit_at n i) (sym (add-zero (x * 2 ^ j))) ∙ bit_at_cat_low x j 0 i (omega arith) ∙ bit_at-zero i in
          rw (by, back, from, bit_at_or (x / 2 ^ k) (x * 2 ^ j % 2 ^ 32) i) (omega (arith, moved, none))
      | inr above ↦
          let from : (i + k) % 32 ≡ i - j = omega arith in
          let whole : 32 ≡ j + k = omega arith in
          let short : x / 2 ^ k < 2 ^ j = shr_below x j k (ap_lt x 32 (j + k) whole fits) in
          let none : bit_at (x / 2 ^ k) i ≡ 0 = bit_at_above (x / 2 ^ k) j i short (omega arith) in
          let moved : bit_at (x * 2 ^ j % 2 ^ 32) i ≡ bit_at x (i - j) =
          bit_at-cut (x * 2 ^ j) i low ∙ ap (λ (n : ℕ). bit_at n i) (sym (add-zero (x * 2 ^ j))) ∙ bit_at_cat_high x j 0 i (pow_pos j) (omega arith) in
          rw (by, back, from, bit_at_or (x / 2 ^ k) (x * 2 ^ j % 2 ^ 32) i) (omega (arith, moved, none))
    ]
  where
    ap_lt : (x m n : ℕ) → m ≡ n → x < 2 ^ m → x < 2 ^ n
    ap_lt x m n e h = rw (← e) h

rotate_right-lt : (x k : ℕ) → x < 2 ^ 32 → rotate_right w32 x k < 2 ^ 32
rotate_right-lt x k fits =
    or_lt 32 (x / 2 ^ (k % 32)) (x * 2 ^ ((32 - k % 32) % 32) % 2 ^ 32) (omega (arith, shr_le x (k % 32))) (mod-lt _ (pow_pos 32))

rotate_right-xor : (x y k : ℕ) → 0 < k → k < 32 → x < 2 ^ 32 → y < 2 ^ 32
    → rotate_right w32 (bit_xor x y) k ≡ bit_xor (rotate_right w32 x k) (rotate_right w32 y k)
rotate_right-xor x y k some few fx fy =
    let both : bit_xor x y < 2 ^ 32 = xor_lt 32 x y fx fy in
    same_from_bits_below 32 _ _ (rotate_right-lt (bit_xor x y) k both)
    (xor_lt 32 (rotate_right w32 x k) (rotate_right w32 y k) (rotate_right-lt x k fx) (rotate_right-lt y k fy))
    (λ i low.
    bit_at-rotate_right (bit_xor x y) k i some few both low ∙ bit_at_xor x y ((i + k) % 32)
    ∙ (λ j. (sym (bit_at-rotate_right x k i some few fx low) j + sym (bit_at-rotate_right y k i some few fy low) j) % 2)
    ∙ sym (bit_at_xor (rotate_right w32 x k) (rotate_right w32 y k) i))

rotate_right-rotate_right : (x j k : ℕ) → 0 < j → 0 < k → k + j < 32 → x < 2 ^ 32
    → rotate_right w32 (rotate_right w32 x j) k ≡ rotate_right w32 x (k + j)
rotate_right-rotate_right x j k pj pk few fits =
    let inner : rotate_right w32 x j < 2 ^ 32 = rotate_right-lt x j fits in
    same_from_bits_below 32 _ _ (rotate_right-lt (rotate_right w32 x j) k inner) (rotate_right-lt x (k + j) fits)
    (λ i low.
    let same : ((i + k) % 32 + j) % 32 ≡ (i + (k + j)) % 32 = omega arith in
    bit_at-rotate_right (rotate_right w32 x j) k i pk (omega arith) inner low
    ∙ bit_at-rotate_right x j ((i + k) % 32) pj (omega arith) fits (omega arith) ∙ ap (bit_at x) same
    ∙ sym (bit_at-rotate_right x (k + j) i (omega arith) few fits low))

-- two rotations of x under xor, with the one by a taken last, of both
pub rotated_two : (x a b : ℕ) → 0 < a → 0 < b → a + b < 32 → x < 2 ^ 32
    → rotate_right w32 (bit_xor x (rotate_right w32 x b)) a ≡ bit_xor (rotate_right w32 x a) (rotate_right w32 x (a + b))
rotated_two x a b pa pb few fits =
    rotate_right-xor x (rotate_right w32 x b) a pa (omega arith) fits (rotate_right-lt x b fits)
    ∙ ap (bit_xor (rotate_right w32 x a)) (rotate_right-rotate_right x b a pb pa few fits)

-- three rotations of x under xor, each taken of all that come after it
pub rotated_three : (x a b c : ℕ) → 0 < a → 0 < b → 0 < c → a + b + c < 32 → x < 2 ^ 32
    → rotate_right w32 (bit_xor x (rotate_right w32 (bit_xor x (rotate_right w32 x c)) b)) a
    ≡ bit_xor (bit_xor (rotate_right w32 x a) (rotate_right w32 x (a + b))) (rotate_right w32 x (a + b + c))
rotated_three x a b c pa pb pc few fits =
    let last : ℕ = rotate_right w32 x c in
    let two : ℕ = bit_xor x last in
    let two_fits : two < 2 ^ 32 = xor_lt 32 x last fits (rotate_right-lt x c fits) in
    rotate_right-xor x (rotate_right w32 two b) a pa (omega arith) fits (rotate_right-lt two b two_fits)
    ∙ ap (bit_xor (rotate_right w32 x a)) (rotate_right-rotate_right two b a pb pa (omega arith) two_fits ∙ rotated_two x (a + b) c (omega arith) pc few fits)
    ∙ sym (xor_assoc (rotate_right w32 x a) (rotate_right w32 x (a + b)) (rotate_right w32 x (a + b + c)))
