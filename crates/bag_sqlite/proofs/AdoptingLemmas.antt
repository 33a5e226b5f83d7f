-- What a database shows while it is read and verified.
use Rattle.std.proofs.Common.{ap, Result, Ok, Err, IfOk, IfSome, IfNone, Option, None, Some, ◌≡◌, ◌<◌, ◌+◌, ◌++◌, ℕ, ℤ, get_or, suc, take, List, [], ◌∷◌, arith, length, map, refl, subst, sym, ◌∙◌, false, IsTrue, slice_index_or}
use Rattle.bag_sqlite.proofs.Words.{AllByRecursion, bytes, column, Database, file_in, Files, Format, Ghosts, HasCleanDisk, Held, insert_entry, Int, IsLeft, IsRead, nat_cmp, OnlyQueries, OnlyReads, Row, slice_cmp, Stands, State, state, take-suc, Tells, TellsOne, TransferPasses, Value, with_files}
use Rattle.bag_sqlite.specs.Reading.{ShowsRows}
use Rattle.bag_sqlite.proofs.ReadingLemmas.{was_open}
use Rattle.bag_sqlite.proofs.SqlLemmas.{survives_both, survives_same}
use Rattle.bag_sqlite.proofs.TransferRows.{files_put}
use Rattle.bag_rules.proofs.HasLemmas.{all_last}

-- READS

pub read_by : (old new : State) → old.in_transaction ≡ false → IsLeft old new → IsRead old new
read_by old new idle left = record {
  was_open = left.was_open;
  committed = left.committed;
  settled = λ before is_open. left.now is_open idle ∙ sym (left.committed is_open);
}

pub read_same : (s : State) → IsRead s s
read_same s = record { was_open = λ h. h; committed = λ _. refl; settled = λ h. h }

pub read_then : (a b c : State) → IsRead a b → IsRead b c → IsRead a c
read_then a b c p q = record { was_open = λ h. p.was_open (q.was_open h); committed = λ h. q.committed h ∙ p.committed (q.was_open h); settled = λ h. q.settled (p.settled h) }

pub left_then : (a b c : State) → b.in_transaction ≡ false → IsLeft a b → IsLeft b c → IsLeft a c
left_then a b c idle p q = record {
  mode = q.mode ∙ p.mode;
  was_open = λ h. p.was_open (q.was_open h);
  committed = λ h. q.committed h ∙ p.committed (q.was_open h);
  now = λ h _. q.now h idle ∙ p.committed (q.was_open h);
}

-- a call that reads nothing
pub reads_same : {S : Type 0} {g : Ghosts S} {held : Held S} → held.in_transaction ≡ false → OnlyReads g held held
reads_same {S} {g} {held} idle = record { read = λ _. read_same (state g held); idle = idle; survives = survives_same (state g held) }

-- calls in sequence
pub reads_then : {S : Type 0} {g : Ghosts S} {a b c : Held S} → OnlyReads g a b → OnlyReads g b c → OnlyReads g a c
reads_then {S} {g} {a} {b} {c} p q = record {
  read = λ clean.
      let early : HasCleanDisk (state g b) = omega (arith, clean, q.survives.clean) in
      read_then (state g a) (state g b) (state g c) (p.read early) (q.read clean);
  idle = q.idle;
  survives = survives_both (state g a) (state g b) (state g c) p.survives q.survives;
}

-- queries in sequence
pub queries_then : {S : Type 0} {g : Ghosts S} {a b c : Held S} → OnlyQueries g a b → OnlyQueries g b c → OnlyQueries g a c
queries_then {S} {g} {a} {b} {c} p q = record {
  left = λ clean.
      let early : HasCleanDisk (state g b) = omega (arith, clean, q.survives.clean) in
      left_then (state g a) (state g b) (state g c) p.idle (p.left early) (q.left clean);
  idle = q.idle;
  survives = survives_both (state g a) (state g b) (state g c) p.survives q.survives;
}

-- a query is a read
pub reads_by : {S : Type 0} {g : Ghosts S} {old new : Held S} → old.in_transaction ≡ false → OnlyQueries g old new → OnlyReads g old new
reads_by {S} {g} {old} {new} idle p = record { read = λ clean. read_by (state g old) (state g new) idle (p.left clean); idle = p.idle; survives = p.survives }

pub stands_still : (old new : State) (db : Database) → IsRead old new → Stands old db → Stands new db
stands_still old new db read stands is_open =
    let was = stands (read.was_open is_open) in
    let committed = read.committed is_open ∙ was.1 in
    (read.settled (λ _. was.0 ∙ sym was.1) is_open ∙ committed, committed)

pub told_by : {S : Type 0} (g : Ghosts S) (db : Database) (old : Held S) (sql : List ℕ) (params : Row) (rows : List Row) → Stands (state g old) db → ShowsRows g sql params old rows → Tells g db sql params rows
told_by g db old sql params rows stands shows =
    let is_open : IsTrue (state g old).is_open = was_open (state g (record old { in_transaction = _ })) (state g shows.then) sql params rows shows.shown in
    record { at = old; is = (stands is_open).0; shown = shows }

-- the only row
pub only_row : (rows : List Row) → length rows ≡ 1 → rows ≡ slice_index_or rows 0 [] ∷ []
only_row [] one = absurd (omega (arith, one))
only_row (row ∷ []) one = refl
only_row (row ∷ next ∷ more) one = absurd (omega (arith, one))

pub no_row : (rows : List Row) → length rows ≡ 0 → rows ≡ []
no_row [] none = refl
no_row (row ∷ rows) none = absurd (omega (arith, none))

-- it is the one at its index
pub row_at : (rows : List Row) (row : Row) → length rows ≡ 1 → row ≡ slice_index_or rows 0 row → slice_index_or rows 0 [] ≡ row
row_at [] row one is = absurd (omega (arith, one))
row_at (first ∷ rows) row one is = sym is

pub one_told : {S : Type 0} (g : Ghosts S) (db : Database) (sql : List ℕ) (params : Row) (rows : List Row) (value : Value) → length rows ≡ 1 → column (slice_index_or rows 0 []) 0 ≡ value → Tells g db sql params rows
    → TellsOne g db sql params value
one_told g db sql params rows value one is told = record { row = slice_index_or rows 0 []; told = subst (Tells g db sql params) (only_row rows one) told; value_is = is }

-- TAG FILES

pub put_as_with : (files : Files) (rows : List Row) → files_put files rows ≡ with_files files (map file_in rows)
put_as_with files [] = refl
put_as_with files (row ∷ rows) = put_as_with (insert_entry (slice_cmp nat_cmp) files (bytes (column row 0)) (bytes (column row 1))) rows

-- ROWS IN SEQUENCE

-- the transfer in this row is valid
abbrev pub Verifies : {S : Type 0} → Ghosts S → Database → Format → Row → Type 0
Verifies g db format row = (transfer : ℤ) × (column row 0 ≡ Int transfer) × TransferPasses g db format transfer

-- one more row
pub all_more : (P : Row → Type 0) (rows : List Row) (i : ℕ) (row : Row) → i < length rows → row ≡ get_or rows i row → AllByRecursion P (take i rows) → P row → AllByRecursion P (take (i + 1) rows)
all_more P rows i row low at all here =
    let next : i + 1 ≡ suc i = omega arith in
    let split : take (i + 1) rows ≡ take i rows ++ row ∷ [] = rw next (take-suc rows i row low) ∙ ap (λ r. take i rows ++ r ∷ []) (sym at) in
    subst (AllByRecursion P) (sym split) (all_last P (take i rows) row all here)

-- what holds of every `Ok`
pub ok_some : {A E : Type 0} (r : Result (Option A) E) (P Q : A → Type 0) → ((a : A) → P a → Q a) → IfOk r (λ o. IfSome o P) → IfOk r (λ o. IfSome o Q)
ok_some (Ok (Some a)) P Q f h = f a h
ok_some (Ok None) P Q f h = tt
ok_some (Err e) P Q f h = tt

pub ok_none : {A E : Type 0} {P Q : Type 0} (r : Result (Option A) E) → (P → Q) → IfOk r (λ o. IfNone o P) → IfOk r (λ o. IfNone o Q)
ok_none (Ok (Some a)) f h = tt
ok_none (Ok None) f h = f h
ok_none (Err e) f h = tt
