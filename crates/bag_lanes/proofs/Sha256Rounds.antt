-- The rounds of SHA-256, one after another.
use Rattle.std.proofs.Common.{◌≡◌, ℕ, ◌+◌, ◌*◌, ◌%◌, ◌<◌, ◌≤◌, max, List, length, slice_index, slice_set, refl, arith}
use Rattle.sha2.specs.Sha256.{IsWindow, round, round_constants, rounds, schedule, window_word, word_at}
use Rattle.sha2.proofs.Schedule256.{IsWindow_first, rounds_first, rounds_window}
use Rattle.bag_lanes.specs.Rounds.{IsSha256At}

-- the same round, spelled another way
pub sha256_at : (b h w v : List ℕ) (n k : ℕ) → n ≡ k → IsSha256At b h w v n → IsSha256At b h w v k
sha256_at b h w v n k e held = rw (← e) held

-- before the first round
pub sha256_start : (b h w : List ℕ) → length w ≡ 16 → ((k : ℕ) → k < 16 → slice_index w k ≡ word_at b (4 * k)) → IsSha256At b h w h 0
unfolding rounds
sha256_start b h w count words = record { words = IsWindow_first b w count words; variables = refl }

-- one of the first 16 rounds
pub sha256_first : (b h w v : List ℕ) (t k x : ℕ) (next : List ℕ) → t < 16 → IsSha256At b h w v t
    → k ≡ slice_index round_constants t → x ≡ slice_index w t → next ≡ round v k x → IsSha256At b h w next (t + 1)
sha256_first b h w v t k x next low held ek ex en =
    let now : max t 16 ≡ 16 = omega arith in
    let then : max (t + 1) 16 ≡ 16 = omega arith in
    let window : IsWindow w (schedule b 48) 16 = rw now at held.words in
    record { words = rw then window; variables = rounds_first b h w v t k x next low window held.variables ek ex en }

-- a round from 16 on
pub sha256_later : (b h w v : List ℕ) (t k x : ℕ) (next_w next : List ℕ) → 16 ≤ t → t < 64 → IsSha256At b h w v t
    → x ≡ window_word w t → next_w ≡ slice_set w (t % 16) x
    → k ≡ slice_index round_constants t → next ≡ round v k x → IsSha256At b h next_w next (t + 1)
sha256_later b h w v t k x next_w next high low held ex ew ek en =
    let now : max t 16 ≡ t = omega arith in
    let then : max (t + 1) 16 ≡ t + 1 = omega arith in
    let window : IsWindow w (schedule b 48) t = rw now at held.words in
    let both = rounds_window b h w v t k x next_w next high low window held.variables ex ew ek en in
    record { words = rw then both.0; variables = both.1 }
