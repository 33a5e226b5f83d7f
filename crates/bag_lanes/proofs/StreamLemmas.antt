-- Streams that lanes take piece by piece.
use Rattle.std.proofs.Common.{slice_index, slice_index_or, slice_set, ◌≡◌, ◌≢◌, ℕ, zero, suc, ◌+◌, ◌-◌, ◌*◌, ◌/◌, ◌%◌, ◌^◌, ◌<◌, ◌≤◌, List, [], ◌∷◌, ◌++◌, length, take, drop, replicate, refl, sym, ap, ◌∙◌, arith, length-append, length-drop}
use Rattle.std.proofs.lemmas.List.{append_assoc, append-nil, drop-append-le, drop-take, get_or-set_other, length-take-le, take-append-drop, take-append-le, take-take, take_all}
use Rattle.std.proofs.Math.Seq.{drop-append_seam}
use Rattle.std.specs.Borrow.{Bor}
use Rattle.std.specs.Int.{w64}
use Rattle.bag_lanes.specs.Standard.{HashFunction, block, block_count, final_value, hash_value, octets_of, padded}
use Rattle.bag_lanes.specs.Lanes.{lane}
use Rattle.bag_lanes.specs.Streams.{AreBlocks, Holds, IsValueOf, piece_at}
use Rattle.bag_lanes.proofs.LaneTasks.{hash_value_next, message_at_read}
use Rattle.bag_lanes.proofs.PaddedBlocks.{length-padded, take-padded_after, take-padded_marked, take-padded_whole}
use Rattle.bag_lanes.proofs.Vectors.{each_lane}

-- a hash value comes of the blocks that it counts alone
hash_value-append : (f : HashFunction) (front rest : List ℕ) (n : ℕ) → n * 64 ≤ length front → hash_value f (front ++ rest) n ≡ hash_value f front n
unfolding hash_value
hash_value-append f front rest zero low = refl
hash_value-append f front rest (suc n) low =
    let fits : 64 ≤ length (drop (n * 64) front) = omega (arith, length-drop (n * 64) front) in
    let same : block (front ++ rest) n ≡ block front n =
    rw (drop-append-le (n * 64) front rest (omega arith)) (take-append-le 64 (drop (n * 64) front) rest fits) in
    ap (λ (h : List ℕ). f.compress h (block (front ++ rest) n)) (hash_value-append f front rest n (omega arith))
    ∙ ap (f.compress (hash_value f front n)) same

-- before the first octet
pub value_of_none : (f : HashFunction) (value : List ℕ) → value ≡ f.initial → IsValueOf f [] value
unfolding hash_value
value_of_none f value e = record { whole = refl; value_is = e }

-- one block more
value_of_next : (f : HashFunction) (octets taken value next : List ℕ) → IsValueOf f octets value → length taken ≡ 64 → next ≡ f.compress value taken
    → IsValueOf f (octets ++ taken) next
value_of_next f octets taken value next held size e =
    let n : ℕ = length octets / 64 in
    let whole : length octets % 64 ≡ 0 = held.whole in
    let edge : n * 64 ≡ length octets = omega arith in
    let more : length (octets ++ taken) ≡ length octets + length taken = length-append octets taken in
    let count : length (octets ++ taken) / 64 ≡ n + 1 = omega arith in
    let last : block (octets ++ taken) n ≡ taken =
    ap (λ (i : ℕ). take 64 (drop i (octets ++ taken))) edge ∙ ap (take 64) (drop-append_seam octets taken) ∙ take_all 64 taken (omega arith) in
    let before : hash_value f (octets ++ taken) n ≡ value = hash_value-append f octets taken n (omega arith) ∙ sym held.value_is in
    record {
      whole = omega arith;
      value_is = rw (count, hash_value_next f (octets ++ taken) n, before, last) e;
    }

-- nothing of a piece yet
pub value_of_begun : (f : HashFunction) (octets piece value : List ℕ) → IsValueOf f octets value → IsValueOf f (octets ++ take 0 piece) value
value_of_begun f octets piece value held = rw append-nil held

-- one block more of a piece
pub value_of_more : (f : HashFunction) (octets piece taken value next : List ℕ) (j : ℕ) → IsValueOf f (octets ++ take (j * 64) piece) value → j * 64 + 64 ≤ length piece
    → taken ≡ take 64 (drop (j * 64) piece) → next ≡ f.compress value taken → IsValueOf f (octets ++ take ((j + 1) * 64) piece) next
value_of_more f octets piece taken value next j held fits et en =
    let size : length taken ≡ 64 = ap length et ∙ length-take-le 64 (drop (j * 64) piece) (omega (arith, length-drop (j * 64) piece)) in
    let at : (j + 1) * 64 ≡ j * 64 + 64 = omega arith in
    let whole : take (j * 64) (take (j * 64 + 64) piece) ++ drop (j * 64) (take (j * 64 + 64) piece) ≡ take (j * 64 + 64) piece = take-append-drop (j * 64) (take (j * 64 + 64) piece) in
    let grown : take ((j + 1) * 64) piece ≡ take (j * 64) piece ++ taken =
    rw (at, et) (sym (rw (take-take (j * 64) (j * 64 + 64) piece (omega arith), drop-take (j * 64) 64 piece) at whole)) in
    rw (grown, ← append_assoc octets (take (j * 64) piece) taken) (value_of_next f (octets ++ take (j * 64) piece) taken value next held size en)

-- a piece as it is read from the four
abbrev pub read_at : List (Bor (List ℕ)) → ℕ → List ℕ
read_at pieces i = (slice_index_or pieces i (record { ref_ptr = (0, 0); now = [] })).now

-- each piece has the blocks that the first has
pub blocks_fit : (pieces : List (Bor (List ℕ))) (i j : ℕ) → AreBlocks pieces → i < 4 → j < length (read_at pieces 0) / 64 → j * 64 + 64 ≤ length (read_at pieces i)
blocks_fit pieces i j are low within =
    let same : length (read_at pieces i) ≡ length (read_at pieces 0) =
    sym (ap (λ (xs : List ℕ). length xs) (message_at_read pieces i)) ∙ are.same i low ∙ ap (λ (xs : List ℕ). length xs) (message_at_read pieces 0) in
    omega arith

-- one block more of the piece for lane i
pub value_of_step : (f : HashFunction) (pieces : List (Bor (List ℕ))) (octets taken value next : List ℕ) (i j : ℕ) → AreBlocks pieces → i < 4
    → j < length (read_at pieces 0) / 64 → IsValueOf f (octets ++ take (j * 64) (piece_at pieces i)) value
    → taken ≡ block (read_at pieces i) j → next ≡ f.compress value taken → IsValueOf f (octets ++ take ((j + 1) * 64) (piece_at pieces i)) next
value_of_step f pieces octets taken value next i j are low within held et en =
    let fits : j * 64 + 64 ≤ length (read_at pieces i) = blocks_fit pieces i j are low within in
    let was : IsValueOf f (octets ++ take (j * 64) (read_at pieces i)) value = rw (message_at_read pieces i) at held in
    rw (message_at_read pieces i) (value_of_more f octets (read_at pieces i) taken value next j was fits et en)

-- all blocks of it
pub value_of_all : (f : HashFunction) (pieces : List (Bor (List ℕ))) (octets value : List ℕ) (i n : ℕ) → AreBlocks pieces → i < 4
    → n ≡ length (read_at pieces 0) / 64 → IsValueOf f (octets ++ take (n * 64) (piece_at pieces i)) value → IsValueOf f (octets ++ piece_at pieces i) value
value_of_all f pieces octets value i n are low count held =
    let first : length (piece_at pieces 0) ≡ length (read_at pieces 0) = ap (λ (xs : List ℕ). length xs) (message_at_read pieces 0) in
    let all : length (piece_at pieces i) ≤ n * 64 = omega (arith, are.same i low, are.whole) in
    rw (take_all (n * 64) (piece_at pieces i) all) at held

-- what the other lanes hold
pub held_beside : (f : HashFunction) (old state same : List (List ℕ)) (was counts : List ℕ) (i j count : ℕ) (octets : List ℕ) → state ≡ same → lane j same ≡ lane j old → counts ≡ was
    → j ≢ i → Holds f old was j octets → Holds f state (slice_set counts i count) j octets
held_beside f old state same was counts i j count octets e kept ec other held = record {
  value = rw (e, kept) held.value;
  count = get_or-set_other counts i j count 0 other ∙ ap (λ (xs : List ℕ). slice_index xs j) ec ∙ held.count;
}

-- the same block in each lane
pub same_block : (octets : List ℕ) (i : ℕ) → i < 4 → slice_index_or (octets ∷ octets ∷ octets ∷ octets ∷ []) i [] ≡ octets
same_block octets i low = each_lane (λ k. slice_index_or (octets ∷ octets ∷ octets ∷ octets ∷ []) k [] ≡ octets) refl refl refl refl i low

-- What follows is of the end of a stream: these octets, which are whole blocks, and a rest that is shorter than a
-- block.
module _ (f : HashFunction) (octets rest value : List ℕ) (held : IsValueOf f octets value) (count : ℕ)
    (counted : count ≡ (length octets + length rest) % 2 ^ 64) where
  whole_at : length octets / 64 * 64 ≡ length octets
  whole_at = omega (arith, held.whole)

  size : length (octets ++ rest) ≡ length octets + length rest
  size = length-append octets rest

  field_is : octets_of f.order w64 (count * 8 % 2 ^ 64) ≡ octets_of f.order w64 (length (octets ++ rest) * 8 % 2 ^ 64)
  field_is = ap (octets_of f.order w64) (omega (arith, counted, size))

  before : hash_value f (padded f.order (octets ++ rest)) (length octets / 64) ≡ value
  before =
      let end : List ℕ = 0x80 ∷ replicate ((119 - length (octets ++ rest) % 64) % 64) 0 ++ octets_of f.order w64 (length (octets ++ rest) * 8 % 2 ^ 64) in
      rw (append_assoc octets rest end) (hash_value-append f octets (rest ++ end) (length octets / 64) (omega (arith, whole_at))) ∙ sym held.value_is

  -- where all of the padding is in one block
  pub final_short : (taken next : List ℕ) → length rest < 56
      → taken ≡ take 56 (rest ++ 0x80 ∷ replicate (63 - length rest) 0) ++ octets_of f.order w64 (count * 8 % 2 ^ 64)
      → next ≡ f.compress value taken → next ≡ final_value f (octets ++ rest)
  final_short taken next short et en =
      let m : List ℕ = octets ++ rest in
      let n : ℕ = length octets / 64 in
      let blocks : block_count (padded f.order m) ≡ n + 1 = omega (arith, length-padded f.order m, size, held.whole) in
      let last : block (padded f.order m) n ≡ taken =
      take-padded_whole f.order m (n * 64) (omega arith) (omega (arith, size, whole_at)) (omega (arith, size, whole_at))
      ∙ rw (whole_at, drop-append_seam octets rest, ← field_is) (sym et) in
      rw (blocks, hash_value_next f (padded f.order m) n, before, last) en

  -- where it needs one block more
  pub final_long : (first second middle next : List ℕ) → 56 ≤ length rest → length rest < 64
      → first ≡ rest ++ 0x80 ∷ replicate (63 - length rest) 0
      → second ≡ replicate 56 0 ++ octets_of f.order w64 (count * 8 % 2 ^ 64)
      → middle ≡ f.compress value first → next ≡ f.compress middle second → next ≡ final_value f (octets ++ rest)
  final_long first second middle next long short ef es em en =
      let m : List ℕ = octets ++ rest in
      let n : ℕ = length octets / 64 in
      let blocks : block_count (padded f.order m) ≡ n + 1 + 1 = omega (arith, length-padded f.order m, size, held.whole) in
      let here : block (padded f.order m) n ≡ first =
      take-padded_marked f.order m (n * 64) (omega arith) (omega (arith, size, whole_at)) (omega (arith, size, whole_at))
      ∙ rw (whole_at, drop-append_seam octets rest) (sym ef) in
      let last : block (padded f.order m) (n + 1) ≡ second =
      take-padded_after f.order m ((n + 1) * 64) (omega arith) (omega (arith, size, whole_at)) (omega (arith, length-padded f.order m, size, whole_at))
      ∙ rw (← field_is) (sym es) in
      rw (blocks, hash_value_next f (padded f.order m) (n + 1), hash_value_next f (padded f.order m) n, before, here, ← em, last) en
