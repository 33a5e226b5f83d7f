-- Each message of a list is begun in a lane, and its digest is written once the lane has ended it.
use Rattle.std.proofs.Common.{◌≡◌, ◌≢◌, ℕ, ◌+◌, ◌-◌, ◌<◌, ◌≤◌, List, [], ◌∷◌, Option, Some, None, ◌⊎◌, inl, inr, length, map, min, nat_lt, true, false, slice_index_or, slice_set, zero, suc, refl, sym, ap, ◌∙◌, subst, arith, length-set}
use Rattle.std.proofs.lemmas.Bool.{cases_eq, cases_lt}
use Rattle.std.proofs.lemmas.Bool.Decides.{nat_tests}
use Rattle.std.proofs.lemmas.List.{ext_get_or, get_or-set_other, get_or-set_same, get_or_default, length-map}
use Rattle.std.proofs.Math.ListN.{get_or-map}
use Rattle.std.specs.Borrow.{Bor}
use Rattle.std.specs.Option.{IsSomeAnd, option_map}
use Rattle.bag_lanes.specs.declared.tasks.Task.{Task}
use Rattle.bag_lanes.specs.Standard.{HashFunction, block_count, digest, final_value, hash_value}
use Rattle.bag_lanes.specs.Tasks.{AreAt, AreFilled, HasLane, IsAt, first_task, message_at, padded_at, task_after}

-- the task of message k, before its first block
abbrev pub fresh : HashFunction → List (Bor (List ℕ)) → ℕ → Task
fresh f messages k = record { message = k; taken = 0; left = block_count (padded_at f messages k) }

first_task_some : (f : HashFunction) (messages : List (Bor (List ℕ))) (k : ℕ) → k < length messages → first_task f messages k ≡ Some (fresh f messages k)
first_task_some f messages k low =
    let there : nat_lt k (length messages) ≡ true = grind (arith, nat_tests) in
    rw there refl

first_task_none : (f : HashFunction) (messages : List (Bor (List ℕ))) (k : ℕ) → length messages ≤ k → first_task f messages k ≡ None
first_task_none f messages k high =
    let past : nat_lt k (length messages) ≡ false = grind (arith, nat_tests) in
    rw past refl

-- once lane i has begun the next message, or is idle because there is none
pub AreFilled_next : (f : HashFunction) (messages : List (Bor (List ℕ))) (state : List (List ℕ)) (tasks new : List (Option Task)) (next after n m i : ℕ)
    → length tasks ≡ 4 → next ≤ length messages → i < 4 → AreAt f messages state new
    → ((j : ℕ) → j < n → slice_index_or tasks j None ≡ None → next ≡ length messages)
    → new ≡ slice_set tasks i (first_task f messages next) → after ≡ min (next + 1) (length messages)
    → ((j : ℕ) → j < m → j ≢ i → j < n) → AreFilled f messages state new after m
AreFilled_next f messages state tasks new next after n m i count bound here at busy set moved among =
    record {
      at = at;
      count = rw (set, length-set {A = Option Task} tasks i (first_task f messages next)) count;
      bound = omega arith;
      busy = λ j low none.
          elim (cases_lt next (length messages)) [
            | inl more ↦
                elim (cases_eq j i) [
                  | inl same ↦
                      let begun : slice_index_or new j None ≡ Some (fresh f messages next) =
                      rw (set, same) (get_or-set_same tasks i (first_task f messages next) None (omega arith)) ∙ first_task_some f messages next more in
                      cc
                  | inr other ↦
                      let old : slice_index_or tasks j None ≡ None = sym (get_or-set_other tasks i j (first_task f messages next) None other) ∙ rw set at none in
                      let end : next ≡ length messages = busy j (among j low other) old in
                      absurd (omega arith)
                ]
            | inr end ↦ omega arith
          ];
    }

-- what holds of the messages before the next one, done or in a lane, once lane i is free and has begun the next one
pub begun_next : (f : HashFunction) (messages : List (Bor (List ℕ))) (Done : ℕ → Type 0) (tasks new : List (Option Task)) (next after i : ℕ)
    → length tasks ≡ 4 → i < 4 → new ≡ slice_set tasks i (first_task f messages next) → after ≡ min (next + 1) (length messages)
    → ((k : ℕ) → IsSomeAnd (slice_index_or tasks i None) (λ task. task.message ≡ k) → Done k)
    → ((k : ℕ) → k < next → Done k ⊎ HasLane tasks k) → (k : ℕ) → k < after → Done k ⊎ HasLane new k
begun_next f messages Done tasks new next after i count here set moved free before k low =
    elim (cases_lt k next) [
      | inl old ↦
          elim (before k old) [
            | inl done ↦ inl done
            | inr at ↦
                elim (cases_eq at.0 i) [
                  | inl same ↦ inl (free k (subst (λ (j : ℕ). IsSomeAnd (slice_index_or tasks j None) (λ task. task.message ≡ k)) same at.2))
                  | inr other ↦
                      let kept : slice_index_or new at.0 None ≡ slice_index_or tasks at.0 None =
                      rw set (get_or-set_other tasks i at.0 (first_task f messages next) None other) in
                      inr (at.0, at.1, subst (λ (o : Option Task). IsSomeAnd o (λ task. task.message ≡ k)) (sym kept) at.2)
                ]
          ]
      | inr late ↦
          let same : next ≡ k = omega arith in
          let begun : slice_index_or new i None ≡ Some (fresh f messages next) =
          rw set (get_or-set_same tasks i (first_task f messages next) None (omega arith)) ∙ first_task_some f messages next (omega arith) in
          inr (i, here, subst (λ (o : Option Task). IsSomeAnd o (λ task. task.message ≡ k)) (sym begun) same)
    ]

-- blocks that are taken leave a message in its lane
pub HasLane_after : (n k : ℕ) (tasks new : List (Option Task))
    → ((i : ℕ) → i < 4 → slice_index_or new i None ≡ option_map (task_after n) (slice_index_or tasks i None)) → HasLane tasks k → HasLane new k
HasLane_after n k tasks new moved at =
    (at.0, at.1, subst (λ (o : Option Task). IsSomeAnd o (λ task. task.message ≡ k)) (sym (moved at.0 at.1)) (kept_by (slice_index_or tasks at.0 None) at.2))
  where
    kept_by : (o : Option Task) → IsSomeAnd o (λ task. task.message ≡ k) → IsSomeAnd (option_map (task_after n) o) (λ task. task.message ≡ k)
    kept_by None absent = absent
    kept_by (Some task) is = is

-- the same of all lanes
pub AreFilled_after : (f : HashFunction) (messages : List (Bor (List ℕ))) (state run : List (List ℕ)) (tasks new : List (Option Task)) (n next after : ℕ)
    → AreFilled f messages state tasks next 4 → AreAt f messages run new
    → ((i : ℕ) → i < 4 → slice_index_or new i None ≡ option_map (task_after n) (slice_index_or tasks i None)) → length new ≡ length tasks → after ≡ next
    → AreFilled f messages run new after 4
AreFilled_after f messages state run tasks new n next after filled at moved count same =
    record {
      at = at;
      count = count ∙ filled.count;
      bound = rw same filled.bound;
      busy = λ i low none. same ∙ filled.busy i low (none_before (slice_index_or tasks i None) (sym (moved i low) ∙ none));
    }
  where
    none_before : (o : Option Task) → option_map (task_after n) o ≡ None → o ≡ None
    none_before None e = refl
    none_before (Some task) e = cc

-- the digest of message k stands at its place
abbrev pub IsDone : HashFunction → List (Bor (List ℕ)) → List (List ℕ) → ℕ → Type 0
IsDone f messages digests k = slice_index_or digests k [] ≡ digest f (message_at messages k)

pub IsDone_new : (f : HashFunction) (messages : List (Bor (List ℕ))) (digests : List (List ℕ)) (m k : ℕ) (d : List ℕ) → m < length digests
    → d ≡ digest f (message_at messages m) → m ≡ k → IsDone f messages (slice_set digests m d) k
IsDone_new f messages digests m k d fits is same = rw (← same) (get_or-set_same digests m d [] fits ∙ is)

pub IsDone_kept : (f : HashFunction) (messages : List (Bor (List ℕ))) (digests : List (List ℕ)) (m k : ℕ) (d : List ℕ) → m < length digests
    → d ≡ digest f (message_at messages m) → IsDone f messages digests k → IsDone f messages (slice_set digests m d) k
IsDone_kept f messages digests m k d fits is done =
    elim (cases_eq m k) [
      | inl same ↦ IsDone_new f messages digests m k d fits is same
      | inr other ↦ get_or-set_other digests m k d [] (λ e. other (sym e)) ∙ done
    ]

-- a lane that has taken all blocks of its message has the message's hash value
pub IsAt_ended : (f : HashFunction) (messages : List (Bor (List ℕ))) (value : List ℕ) (task : Task) → IsAt f messages value (task_after task.left task)
    → value ≡ final_value f (message_at messages task.message)
IsAt_ended f messages value task at =
    let all : task.taken + task.left ≡ block_count (padded_at f messages task.message) = omega (arith, at.blocks) in
    at.taken ∙ ap (hash_value f (padded_at f messages task.message)) all

-- how many lanes have a task
abbrev pub busy : Option Task → ℕ
busy None = 0
busy (Some task) = 1

abbrev pub busy_count : List (Option Task) → ℕ
busy_count tasks = busy (slice_index_or tasks 0 None) + busy (slice_index_or tasks 1 None) + busy (slice_index_or tasks 2 None) + busy (slice_index_or tasks 3 None)

pub busy_count-after : (n : ℕ) (tasks new : List (Option Task))
    → ((i : ℕ) → i < 4 → slice_index_or new i None ≡ option_map (task_after n) (slice_index_or tasks i None)) → busy_count new ≡ busy_count tasks
busy_count-after n tasks new moved =
    rw (same 0 (omega arith), same 1 (omega arith), same 2 (omega arith), same 3 (omega arith)) refl
  where
    busy-map : (o : Option Task) → busy (option_map (task_after n) o) ≡ busy o
    busy-map None = refl
    busy-map (Some task) = refl

    same : (i : ℕ) → i < 4 → busy (slice_index_or new i None) ≡ busy (slice_index_or tasks i None)
    same i low = ap busy (moved i low) ∙ busy-map (slice_index_or tasks i None)

pub busy_count-set : (tasks : List (Option Task)) (i : ℕ) (o : Option Task) → length tasks ≡ 4 → i < 4
    → busy_count (slice_set tasks i o) + busy (slice_index_or tasks i None) ≡ busy_count tasks + busy o
busy_count-set [] i o count low = absurd (omega arith)
busy_count-set (a ∷ []) i o count low = absurd (omega arith)
busy_count-set (a ∷ b ∷ []) i o count low = absurd (omega arith)
busy_count-set (a ∷ b ∷ c ∷ []) i o count low = absurd (omega arith)
busy_count-set (a ∷ b ∷ c ∷ d ∷ e ∷ rest) i o count low = absurd (omega arith)
busy_count-set (a ∷ b ∷ c ∷ d ∷ []) zero o count low = omega arith
busy_count-set (a ∷ b ∷ c ∷ d ∷ []) (suc zero) o count low = omega arith
busy_count-set (a ∷ b ∷ c ∷ d ∷ []) (suc (suc zero)) o count low = omega arith
busy_count-set (a ∷ b ∷ c ∷ d ∷ []) (suc (suc (suc zero))) o count low = omega arith
busy_count-set (a ∷ b ∷ c ∷ d ∷ []) (suc (suc (suc (suc i)))) o count low = absurd (omega arith)

-- one message fewer is under way or not begun, once lane i has ended one and has begun the next
pub fewer : (f : HashFunction) (messages : List (Bor (List ℕ))) (n i next after : ℕ) (tasks moved new : List (Option Task)) (task : Task)
    → length moved ≡ 4 → i < 4 → next ≤ length messages → slice_index_or tasks i None ≡ Some task
    → ((j : ℕ) → j < 4 → slice_index_or moved j None ≡ option_map (task_after n) (slice_index_or tasks j None))
    → new ≡ slice_set moved i (first_task f messages next) → after ≡ min (next + 1) (length messages)
    → (length messages - after) + busy_count new < (length messages - next) + busy_count tasks
fewer f messages n i next after tasks moved new task count low bound is run set next_is =
    let kept : busy_count moved ≡ busy_count tasks = busy_count-after n tasks moved run in
    let was : slice_index_or moved i None ≡ Some (task_after n task) = run i low ∙ ap (option_map (task_after n)) is in
    let one : busy (slice_index_or moved i None) ≡ 1 = ap busy was in
    let count_set : busy_count (slice_set moved i (first_task f messages next)) + busy (slice_index_or moved i None) ≡ busy_count moved + busy (first_task f messages next) =
    busy_count-set moved i (first_task f messages next) count low in
    let new_count : busy_count new ≡ busy_count (slice_set moved i (first_task f messages next)) = ap busy_count set in
    elim (cases_lt next (length messages)) [
      | inl more ↦
          let begun : busy (first_task f messages next) ≡ 1 = ap busy (first_task_some f messages next more) in
          less next after (length messages) (busy_count new) (busy_count tasks) (busy (first_task f messages next)) bound next_is
          (sum_is (busy_count new) (busy_count (slice_set moved i (first_task f messages next))) (busy (slice_index_or moved i None)) (busy_count moved) (busy_count tasks) (busy (first_task f messages next)) new_count one count_set kept)
          (λ _. begun) (λ high. absurd (omega arith))
      | inr end ↦
          let idle : busy (first_task f messages next) ≡ 0 = ap busy (first_task_none f messages next end) in
          less next after (length messages) (busy_count new) (busy_count tasks) (busy (first_task f messages next)) bound next_is
          (sum_is (busy_count new) (busy_count (slice_set moved i (first_task f messages next))) (busy (slice_index_or moved i None)) (busy_count moved) (busy_count tasks) (busy (first_task f messages next)) new_count one count_set kept)
          (λ low. absurd (omega arith)) (λ _. idle)
    ]
  where
    sum_is : (new set old moved tasks first : ℕ) → new ≡ set → old ≡ 1 → set + old ≡ moved + first → moved ≡ tasks → new + 1 ≡ tasks + first
    sum_is new set old moved tasks first a b c d = omega arith

    less : (next after n new old first : ℕ) → next ≤ n → after ≡ min (next + 1) n → new + 1 ≡ old + first
        → (next < n → first ≡ 1) → (n ≤ next → first ≡ 0) → (n - after) + new < (n - next) + old
    less next after n new old first bound moved sum some none =
        elim (cases_lt next n) [
          | inl low ↦ let one : first ≡ 1 = some low in omega arith
          | inr high ↦ let zero_first : first ≡ 0 = none high in omega arith
        ]

-- all digests, once no lane has a task
pub all_done : (f : HashFunction) (messages : List (Bor (List ℕ))) (digests : List (List ℕ)) → length digests ≡ length messages
    → ((k : ℕ) → k < length messages → IsDone f messages digests k) → digests ≡ map (λ m. digest f m.now) messages
all_done f messages digests count done =
    ext_get_or [] digests (map (λ (m : Bor (List ℕ)). digest f m.now) messages) (count ∙ sym (length-map messages (λ (m : Bor (List ℕ)). digest f m.now)))
    (λ k low.
    let none : Bor (List ℕ) = record { ref_ptr = (0, 0); now = [] } in
    let there : k < length (map (λ (m : Bor (List ℕ)). digest f m.now) messages) = omega (arith, length-map messages (λ (m : Bor (List ℕ)). digest f m.now)) in
    done k (omega arith) ∙ ap (digest f) (get_or-map (λ (m : Bor (List ℕ)). m.now) messages k none)
    ∙ sym (get_or-map (λ (m : Bor (List ℕ)). digest f m.now) messages k none)
    ∙ sym (get_or_default (map (λ (m : Bor (List ℕ)). digest f m.now) messages) k [] (digest f []) there))

-- The messages before the next one, done or in a lane: where lane i has taken all of its blocks, its digest is written,
-- and the lane begins the next message.
pub done_next : (f : HashFunction) (messages : List (Bor (List ℕ))) (digests : List (List ℕ)) (tasks moved new : List (Option Task)) (task : Task) (d : List ℕ)
    (n i next after : ℕ) → length moved ≡ 4 → i < 4 → slice_index_or tasks i None ≡ Some task → task.message < length digests
    → d ≡ digest f (message_at messages task.message)
    → ((j : ℕ) → j < 4 → slice_index_or moved j None ≡ option_map (task_after n) (slice_index_or tasks j None))
    → new ≡ slice_set moved i (first_task f messages next) → after ≡ min (next + 1) (length messages)
    → ((k : ℕ) → k < next → IsDone f messages digests k ⊎ HasLane tasks k)
    → (k : ℕ) → k < after → IsDone f messages (slice_set digests task.message d) k ⊎ HasLane new k
done_next f messages digests tasks moved new task d n i next after count here is fits d_is run set next_is before =
    let was : slice_index_or moved i None ≡ Some (task_after n task) = run i here ∙ ap (option_map (task_after n)) is in
    begun_next f messages (IsDone f messages (slice_set digests task.message d)) moved new next after i count here set next_is
    (λ k at.
    let same : task.message ≡ k = subst (λ (o : Option Task). IsSomeAnd o (λ t. t.message ≡ k)) was at in
    IsDone_new f messages digests task.message k d fits d_is same)
    (λ k low.
    elim (before k low) [
      | inl done ↦ inl (IsDone_kept f messages digests task.message k d fits d_is done)
      | inr at ↦ inr (HasLane_after n k tasks moved run at)
    ])

-- no message is in a lane where no lane has a task
pub done_at_end : (f : HashFunction) (messages : List (Bor (List ℕ))) (digests : List (List ℕ)) (tasks : List (Option Task))
    → ((i : ℕ) → i < 4 → slice_index_or tasks i None ≡ None) → (k : ℕ) → IsDone f messages digests k ⊎ HasLane tasks k → IsDone f messages digests k
done_at_end f messages digests tasks none k (inl done) = done
done_at_end f messages digests tasks none k (inr at) =
    absurd (subst (λ (o : Option Task). IsSomeAnd o (λ task. task.message ≡ k)) (none at.0 at.1) at.2)
