-- The tasks of lanes, one block after another.
use Rattle.std.proofs.Common.{◌≡◌, ◌≢◌, ℕ, ◌+◌, ◌-◌, ◌^◌, ◌<◌, ◌≤◌, List, [], Option, Some, None, length, ◌⊎◌, inl, inr, slice_index_or, slice_set, refl, sym, ap, ◌∙◌, arith, subst, add-one}
use Rattle.std.proofs.lemmas.Bool.{cases_eq, cases_lt}
use Rattle.std.proofs.lemmas.List.{get_or-set_other, get_or-set_same, get_or_past, set_past}
use Rattle.std.proofs.Math.ListN.{get_or-map}
use Rattle.std.specs.Borrow.{Bor}
use Rattle.std.specs.Option.{ForSome, option_map}
use Rattle.bag_lanes.specs.declared.octets.ByteOrder.{ByteOrder}
use Rattle.bag_lanes.specs.declared.tasks.Task.{Task}
use Rattle.bag_lanes.specs.Standard.{HashFunction, block, block_count, hash_value, padded}
use Rattle.bag_lanes.specs.Tasks.{IsAt, message_at, padded_at, task_after}

-- a message as it is read from the list
pub message_at_read : (messages : List (Bor (List ℕ))) (k : ℕ)
    → message_at messages k ≡ (slice_index_or messages k (record { ref_ptr = (0, 0); now = [] })).now
message_at_read messages k = get_or-map (λ (m : Bor (List ℕ)). m.now) messages k (record { ref_ptr = (0, 0); now = [] })

-- the hash value after one block more
pub hash_value_next : (f : HashFunction) (octets : List ℕ) (n : ℕ) → hash_value f octets (n + 1) ≡ f.compress (hash_value f octets n) (block octets n)
unfolding hash_value
hash_value_next f octets n = rw add-one refl

-- a lane that takes the next block of its message
pub IsAt_next : (f : HashFunction) (messages : List (Bor (List ℕ))) (value next taken : List ℕ) (task : Task) → IsAt f messages value task → 0 < task.left
    → taken ≡ block (padded_at f messages task.message) task.taken → next ≡ f.compress value taken → IsAt f messages next (task_after 1 task)
IsAt_next f messages value next taken task held more e en =
    record {
      place = held.place;
      blocks = omega (arith, held.blocks);
      counts = omega (arith, held.counts);
      taken = rw (en, e, held.taken) (sym (hash_value_next f (padded_at f messages task.message) task.taken));
    }

-- what an option holds, if it came from another by a function
pub from_option_map : {X : Type 0} (g : X → X) (o : Option X) (y : X) → option_map g o ≡ Some y → (x : X) × (o ≡ Some x) × (g x ≡ y)
from_option_map g None y e = absurd (let no : None ≡ Some y = e in cc)
from_option_map g (Some x) y e = (x, refl, (let same : Some (g x) ≡ Some y = e in cc))

-- the same in a list of tasks after one of them was written
pub from_set : (tasks : List (Option Task)) (i j : ℕ) (new : Option Task) (x : Task) → slice_index_or (slice_set tasks i new) j None ≡ Some x
    → ((i ≡ j) × (new ≡ Some x)) ⊎ ((j ≢ i) × (slice_index_or tasks j None ≡ Some x))
from_set tasks i j new x e =
    elim (cases_eq i j) [
      | inl same ↦
          elim (cases_lt i (length tasks)) [
            | inl in_range ↦ inl (same, sym (get_or-set_same tasks i new None in_range) ∙ ap (λ (k : ℕ). slice_index_or (slice_set tasks i new) k None) same ∙ e)
            | inr out ↦
                let none : None ≡ Some x =
                sym (get_or_past tasks j None (omega arith)) ∙ ap (λ (xs : List (Option Task)). slice_index_or xs j None) (sym (set_past tasks i new out)) ∙ e in
                cc
          ]
      | inr other ↦ inr ((λ same. other (sym same)), sym (get_or-set_other tasks i j new None (λ same. other (sym same))) ∙ e)
    ]

-- a lane that begins with a message
pub IsAt_first : (f : HashFunction) (messages : List (Bor (List ℕ))) (value : List ℕ) (k count : ℕ) → k < length messages
    → count ≡ block_count (padded_at f messages k) → count < 2 ^ 64 → value ≡ f.initial
    → IsAt f messages value (record { message = k; taken = 0; left = count })
unfolding hash_value
IsAt_first f messages value k count place e fits ev = record { place = place; blocks = omega (arith, e); counts = omega arith; taken = ev }

-- a lane whose next block is taken
pub IsAt_moved : (f : HashFunction) (messages : List (Bor (List ℕ))) (order : ByteOrder) (value next taken : List ℕ) (old new : Option Task) (x : Task)
    → order ≡ f.order → ForSome old (IsAt f messages value) → ForSome old (λ task. 1 ≤ task.left)
    → ForSome old (λ task. taken ≡ block (padded order (message_at messages task.message)) task.taken)
    → next ≡ f.compress value taken → new ≡ option_map (task_after 1) old → new ≡ Some x → IsAt f messages next x
IsAt_moved f messages order value next taken old new x eo at left block_is en moved is =
    let from = from_option_map (task_after 1) old x (sym moved ∙ is) in
    let same : taken ≡ block (padded_at f messages from.0.message) from.0.taken =
    subst (λ (o : ByteOrder). taken ≡ block (padded o (message_at messages from.0.message)) from.0.taken) eo (block_is from.0 from.1) in
    subst (λ (task : Task). IsAt f messages next task) from.2 (IsAt_next f messages value next taken from.0 (at from.0 from.1) (left from.0 from.1) same en)

-- n blocks and then one more
pub after_more : (n : ℕ) (old : Option Task) → option_map (task_after 1) (option_map (task_after n) old) ≡ option_map (task_after (n + 1)) old
after_more n None = refl
after_more n (Some task) =
    let taken : task.taken + n + 1 ≡ task.taken + (n + 1) = omega arith in
    let left : task.left - n - 1 ≡ task.left - (n + 1) = omega arith in
    rw (taken, left) refl

pub after_none : (old : Option Task) → old ≡ option_map (task_after 0) old
after_none None = refl
after_none (Some task) =
    let taken : task.taken + 0 ≡ task.taken = omega arith in
    let left : task.left - 0 ≡ task.left = omega arith in
    rw (taken, left) refl

-- what is left after n blocks, of at least m
pub left_after : (n m : ℕ) (old new : Option Task) (x : Task) → ForSome old (λ task. m ≤ task.left) → n < m → new ≡ option_map (task_after n) old
    → new ≡ Some x → 1 ≤ x.left
left_after n m old new x left fewer moved is =
    let from = from_option_map (task_after n) old x (sym moved ∙ is) in
    let enough : m ≤ from.0.left = left from.0 from.1 in
    let same : from.0.left - n ≡ x.left = ap (λ (task : Task). task.left) from.2 in
    omega arith
