-- The blocks of a message with its padding.
use Rattle.std.proofs.Common.{◌≡◌, ℕ, ◌+◌, ◌-◌, ◌*◌, ◌%◌, ◌^◌, ◌<◌, ◌≤◌, List, ◌∷◌, ◌++◌, length, take, drop, replicate, slice_set, refl, sym, ap, ◌∙◌, arith, add-one, length-append, length-drop}
use Rattle.std.proofs.lemmas.List.{append_assoc, drop-append-le, drop-replicate, length-replicate, set_at, take-append-le, take-replicate, take_all}
use Rattle.std.proofs.Math.Seq.{take-append-add, drop-append-add}
use Rattle.std.specs.Int.{w32, w64}
use Rattle.bag_lanes.specs.declared.octets.ByteOrder.{ByteOrder}
use Rattle.bag_lanes.specs.declared.octets.ByteOrder.TheVariants.{LowFirst, HighFirst}
use Rattle.bag_lanes.specs.Standard.{octets_of, padded}

pub length-octets_of_word : (order : ByteOrder) (n : ℕ) → length (octets_of order w32 n) ≡ 4
length-octets_of_word LowFirst n = refl
length-octets_of_word HighFirst n = refl

length-octets_of : (order : ByteOrder) (n : ℕ) → length (octets_of order w64 n) ≡ 8
length-octets_of LowFirst n = refl
length-octets_of HighFirst n = refl

take_past : (xs ys : List ℕ) (n k : ℕ) → n ≡ length xs + k → take n (xs ++ ys) ≡ xs ++ take k ys
take_past xs ys n k e = ap (λ (i : ℕ). take i (xs ++ ys)) e ∙ take-append-add xs ys k

-- a block of zeros with the last octets of a message at its front, and the mark after them
pub mark_set : (rest octets : List ℕ) → length rest < 64 → octets ≡ rest ++ drop (0 + length rest) (replicate 64 0)
    → slice_set octets (length rest) 0x80 ≡ rest ++ 0x80 ∷ replicate (63 - length rest) 0
mark_set rest octets short e =
    let left : 64 - (0 + length rest) ≡ (63 - length rest) + 1 = omega arith in
    rw (e, drop-replicate {X = ℕ} (0 + length rest) 64 0, left, add-one)
    (set_at rest 0 (replicate (63 - length rest) 0) 0x80 (length rest) refl)

-- What follows is of a message m with its mark, this number of zeros, and its length in the 8 octets of a field, and of
-- the block from `start` on.
abbrev pub ended : List ℕ → ℕ → List ℕ → List ℕ
ended m zeros field = m ++ (0x80 ∷ replicate zeros 0 ++ field)

-- a block of the message alone
pub take-ended_before : (m field : List ℕ) (zeros start : ℕ) → start + 64 ≤ length m
    → take 64 (drop start (ended m zeros field)) ≡ take 64 (drop start m)
take-ended_before m field zeros start fits =
    rw (drop-append-le start m (0x80 ∷ replicate zeros 0 ++ field) (omega arith))
    (take-append-le 64 (drop start m) (0x80 ∷ replicate zeros 0 ++ field) (omega (arith, length-drop start m)))

-- a block with some of the message, or none, the mark and zeros
pub take-ended_marked : (m field : List ℕ) (zeros start : ℕ) → start ≤ length m → length m < start + 64 → 63 ≤ zeros + (length m - start)
    → take 64 (drop start (ended m zeros field)) ≡ drop start m ++ 0x80 ∷ replicate (63 - length (drop start m)) 0
take-ended_marked m field zeros start low high many =
    let rest : List ℕ = drop start m in
    let left : ℕ = 63 - length rest in
    let size : length rest ≡ length m - start = length-drop start m in
    let all : 64 ≡ length rest + (left + 1) = omega arith in
    let few : left ≤ zeros = omega arith in
    let within : left ≤ length (replicate {A = ℕ} zeros 0) = omega (arith, length-replicate {A = ℕ} zeros 0) in
    rw (drop-append-le start m (0x80 ∷ replicate zeros 0 ++ field) low)
    (take_past rest (0x80 ∷ replicate zeros 0 ++ field) 64 (left + 1) all
    ∙ ap (λ (ys : List ℕ). rest ++ ys)
    (rw add-one (ap (λ (ys : List ℕ). 0x80 ∷ ys) (take-append-le left (replicate zeros 0) field within ∙ take-replicate {X = ℕ} left zeros 0 few))))

-- a block with some of the message, or none, and all of its padding
pub take-ended_whole : (m field : List ℕ) (zeros start : ℕ) → start ≤ length m → length m < start + 56 → zeros + (length m - start) ≡ 55 → length field ≡ 8
    → take 64 (drop start (ended m zeros field)) ≡ take 56 (drop start m ++ 0x80 ∷ replicate (63 - length (drop start m)) 0) ++ field
take-ended_whole m field zeros start low high many size =
    let rest : List ℕ = drop start m in
    let left : ℕ = 63 - length rest in
    let short : length rest ≡ length m - start = length-drop start m in
    let front : 56 ≡ length rest + (zeros + 1) = omega arith in
    let whole : length (rest ++ (0x80 ∷ replicate zeros 0 ++ field)) ≤ 64 =
    omega (arith, length-append rest (0x80 ∷ replicate zeros 0 ++ field), length-append (0x80 ∷ replicate zeros 0) field, length-replicate {A = ℕ} zeros 0) in
    let cut : take 56 (rest ++ 0x80 ∷ replicate left 0) ≡ rest ++ 0x80 ∷ replicate zeros 0 =
    take_past rest (0x80 ∷ replicate left 0) 56 (zeros + 1) front
    ∙ ap (λ (ys : List ℕ). rest ++ ys) (rw add-one (ap (λ (ys : List ℕ). 0x80 ∷ ys) (take-replicate {X = ℕ} zeros left 0 (omega arith)))) in
    rw (drop-append-le start m (0x80 ∷ replicate zeros 0 ++ field) low, take_all 64 (rest ++ (0x80 ∷ replicate zeros 0 ++ field)) whole, cut)
    (sym (append_assoc rest (0x80 ∷ replicate zeros 0) field))

-- the last block, where it has nothing of the message
pub take-ended_after : (m field : List ℕ) (zeros start : ℕ) → length m < start → start + 56 ≡ length m + zeros + 1 → length field ≡ 8
    → take 64 (drop start (ended m zeros field)) ≡ replicate 56 0 ++ field
take-ended_after m field zeros start high many size =
    let past : ℕ = start - length m - 1 in
    let from : start ≡ length m + (past + 1) = omega arith in
    let fits : past ≤ length (replicate {A = ℕ} zeros 0) = omega (arith, length-replicate {A = ℕ} zeros 0) in
    let left : zeros - past ≡ 56 = omega arith in
    let rest : drop past (replicate {A = ℕ} zeros 0) ≡ replicate 56 0 =
    drop-replicate {X = ℕ} past zeros 0 ∙ ap (λ (n : ℕ). replicate n 0) left in
    let dropped : drop start (ended m zeros field) ≡ replicate 56 0 ++ field =
    ap (λ (n : ℕ). drop n (ended m zeros field)) from ∙ drop-append-add m (0x80 ∷ replicate zeros 0 ++ field) (past + 1)
    ∙ rw add-one (drop-append-le past (replicate zeros 0) field fits ∙ ap (λ (ys : List ℕ). ys ++ field) rest) in
    rw dropped (take_all 64 (replicate 56 0 ++ field) (omega (arith, length-append (replicate 56 0) field)))

-- how many octets a padded message has
pub length-padded : (order : ByteOrder) (m : List ℕ) → length (padded order m) ≡ length m + (119 - length m % 64) % 64 + 9
length-padded order m =
    let zeros : ℕ = (119 - length m % 64) % 64 in
    let field : List ℕ = octets_of order w64 (length m * 8 % 2 ^ 64) in
    omega (arith, length-append m (0x80 ∷ replicate zeros 0 ++ field), length-append (0x80 ∷ replicate zeros 0) field, length-replicate {A = ℕ} zeros 0, length-octets_of order (length m * 8 % 2 ^ 64))

-- the same for the blocks of a padded message, each from its first octet on
pub take-padded_before : (order : ByteOrder) (m : List ℕ) (start : ℕ) → start + 64 ≤ length m
    → take 64 (drop start (padded order m)) ≡ take 64 (drop start m)
take-padded_before order m start fits = take-ended_before m (octets_of order w64 (length m * 8 % 2 ^ 64)) ((119 - length m % 64) % 64) start fits

module _ (order : ByteOrder) (m : List ℕ) (start : ℕ) (edge : start % 64 ≡ 0) where
  pub take-padded_marked : start + 56 ≤ length m → length m < start + 64
      → take 64 (drop start (padded order m)) ≡ drop start m ++ 0x80 ∷ replicate (63 - length (drop start m)) 0
  take-padded_marked low high =
      take-ended_marked m (octets_of order w64 (length m * 8 % 2 ^ 64)) ((119 - length m % 64) % 64) start (omega arith) high (omega arith)

  pub take-padded_whole : start ≤ length m → length m < start + 56
      → take 64 (drop start (padded order m))
      ≡ take 56 (drop start m ++ 0x80 ∷ replicate (63 - length (drop start m)) 0) ++ octets_of order w64 (length m * 8 % 2 ^ 64)
  take-padded_whole low high =
      take-ended_whole m (octets_of order w64 (length m * 8 % 2 ^ 64)) ((119 - length m % 64) % 64) start low high (omega arith) (length-octets_of order _)

  pub take-padded_after : length m < start → start < length (padded order m)
      → take 64 (drop start (padded order m)) ≡ replicate 56 0 ++ octets_of order w64 (length m * 8 % 2 ^ 64)
  take-padded_after low within =
      take-ended_after m (octets_of order w64 (length m * 8 % 2 ^ 64)) ((119 - length m % 64) % 64) start low (omega (arith, length-padded order m)) (length-octets_of order _)
