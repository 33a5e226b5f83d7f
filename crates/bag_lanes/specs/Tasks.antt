-- The messages that lanes are at, and how far they have come.
use Rattle.std.specs.Prelude.{◌≡◌, ◌+◌, ◌-◌, ◌^◌, ◌<◌, ◌≤◌, ℕ, List, [], Option, Some, None, length, map, nat_lt, slice_index_or, if◌then◌else◌}
use Rattle.std.specs.Borrow.{Bor}
use Rattle.std.specs.Option.{ForSome, IsSomeAnd, option_map}
use Rattle.bag_lanes.specs.declared.lanes.Queue.{Queue}
use Rattle.bag_lanes.specs.declared.tasks.Task.{Task}
use Rattle.bag_lanes.specs.Lanes.{lane}
use Rattle.bag_lanes.specs.Standard.{HashFunction, block_count, hash_value, padded}

-- message k of a list
abbrev pub message_at : List (Bor (List ℕ)) → ℕ → List ℕ
message_at messages k = slice_index_or (map (λ m. m.now) messages) k []

-- message k with its padding
abbrev pub padded_at : HashFunction → List (Bor (List ℕ)) → ℕ → List ℕ
padded_at f messages k = padded f.order (message_at messages k)

-- A lane with this hash value is at the task: it has taken the first blocks of a message of the list, as many as the
-- task says, and has the rest left.
pub record IsAt (f : HashFunction) (messages : List (Bor (List ℕ))) (value : List ℕ) (task : Task)
    : Type 0 where
  pub place : task.message < length messages
  pub blocks : task.taken + task.left ≡ block_count (padded_at f messages task.message)
  pub counts : task.taken + task.left < 2 ^ 64
  pub taken : value ≡ hash_value f (padded_at f messages task.message) task.taken

-- each lane is at its task, if it has one
abbrev pub AreAt : HashFunction → List (Bor (List ℕ)) → List (List ℕ) → List (Option Task) → Type 0
AreAt f messages state tasks = (i : ℕ) → i < 4
    → ForSome (slice_index_or tasks i None) (IsAt f messages (lane i state))

-- each lane that has a task has n blocks left or more
abbrev pub HaveLeft : ℕ → List (Option Task) → Type 0
HaveLeft n tasks = (i : ℕ) → i < 4 → ForSome (slice_index_or tasks i None) (λ task. n ≤ task.left)

-- the task once n more blocks are taken
abbrev pub task_after : ℕ → Task → Task
task_after n task = record task { taken = task.taken + n; left = task.left - n }

-- the task of a lane that begins with message k, where there is one
abbrev pub first_task : HashFunction → List (Bor (List ℕ)) → ℕ → Option Task
first_task f messages k =
    if nat_lt k (length messages)
    then Some (record { message = k; taken = 0; left = block_count (padded_at f messages k) })
    else None

-- Each lane has taken n blocks of its message, which takes the hash values to this state: the tasks say so, and the
-- rest of the queue is the same.
pub record TakesBlocks (f : HashFunction) (messages : List (Bor (List ℕ))) (n : ℕ)
    (state : List (List ℕ)) (old new : Queue) : Type 0 where
  pub at : AreAt f messages state new.tasks
  pub tasks : (i : ℕ) → i < 4
      → slice_index_or new.tasks i None
      ≡ option_map (task_after n) (slice_index_or old.tasks i None)
  pub count : length new.tasks ≡ length old.tasks
  pub next : new.next ≡ old.next

-- message k is at a lane
abbrev pub HasLane : List (Option Task) → ℕ → Type 0
HasLane tasks k = (i : ℕ) × (i < 4)
    × IsSomeAnd (slice_index_or tasks i None) (λ task. task.message ≡ k)

-- Lanes with these hash values are each at its task, and of the first n none is idle as long as there is a next
-- message.
pub record AreFilled (f : HashFunction) (messages : List (Bor (List ℕ))) (state : List (List ℕ))
    (tasks : List (Option Task)) (next n : ℕ) : Type 0 where
  pub at : AreAt f messages state tasks
  pub count : length tasks ≡ 4
  pub bound : next ≤ length messages
  pub busy : (i : ℕ) → i < n → slice_index_or tasks i None ≡ None → next ≡ length messages
