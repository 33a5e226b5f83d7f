-- Why a database isn't opened, from the results of its reads.
use Rattle.std.proofs.Common.{◌∙◌, ◌≡◌, ◌≢◌, ◌⊎◌, ◌<◌, ◌≤◌, ℕ, ℤ, zero, suc, List, [], ◌∷◌, Option, None, Some, Err, IfErr, IfNone, MatchResult, Ok, OnOk, string_bytes, Result, IsTrue, ap, arith, codes, get_or, inl, inr, length, refl, subst, sym, slice_index_or}
use Rattle.bag_sqlite.proofs.Words.{adopt_fault, AdoptFault, AllByRecursion, AreNoneFor, Broken, cases_lt, column, Command, Compiled, Corrupt, Damaged, Database, Error, ExecuteReturnedResults, Fails, FailsToQuery, FailsToShow, Format, Full, Ghosts, HasFormat, HasLedgerRows, HasNoFormat, Int, IntegralValueOutOfRange, InvalidColumnIndex, InvalidColumnType, InvalidParameterCount, InvalidQuery, Io, IsAsked, IsBlob, IsDamaged, IsInt, IsNoLedger, IsNoneFor, IsNoQuery, IsNoStatement, IsNotRun, IsReadError, IsText, IsTooLate, IsUnchanged, MayShow, MultipleStatement, NotALedger, Null, number_of, OutOfMemory, params_of, QueryReturnedNoRows, Question, RefusesToAdopt, RefusesToRead, RefusesTransfer, RefusesTransfers, Returning, Row, Rows, SaysFormat, Select, SqlInputError, SqliteFailure, State, store_error, StoreError, Tells, Text, text_of, TransferFails, understood, Unstorable, Utf8Error, Value}
use Rattle.sqlite.specs.Given.{IsPlain}
use Rattle.sqlite.specs.declared.error.ErrorCode.TheVariants as code
use Rattle.bag_sqlite.proofs.AdoptingLemmas.{row_at}
use Rattle.bag_sqlite.specs.declared.adopting.AdoptFault.TheVariants.{Memory, Store}

-- QUERIES THAT FAIL

by_cause : (R : Type 0) (cause : StoreError) → IsNoneFor R (adopt_fault (store_error cause))
by_cause R OutOfMemory = tt
by_cause R Io = tt
by_cause R Corrupt = tt
by_cause R Full = tt
by_cause R Broken = tt
by_cause R Unstorable = tt

-- an error of any kind is reported as one of the two
pub either_fault : (R : Type 0) → R → (e : Error) → IsNoneFor R (adopt_fault e)
either_fault R r (SqliteFailure code.OutOfMemory) = tt
either_fault R r (SqliteFailure code.NotADatabase) = r
either_fault R r (SqliteFailure _) = tt
either_fault R r (SqlInputError fault) = r
either_fault R r (InvalidParameterCount given wanted) = tt
either_fault R r ExecuteReturnedResults = tt
either_fault R r InvalidQuery = tt
either_fault R r MultipleStatement = tt
either_fault R r QueryReturnedNoRows = tt
either_fault R r (InvalidColumnIndex at) = r
either_fault R r (InvalidColumnType at kind) = r
either_fault R r (IntegralValueOutOfRange at) = r
either_fault R r (Utf8Error at) = r

told_as : (R : Type 0) (e f : Error) → e ≡ f → IsNoneFor R (adopt_fault f) → IsNoneFor R (adopt_fault e)
told_as R e f same h = subst (λ x. IsNoneFor R (adopt_fault x)) (sym same) h

module _ (sql : List ℕ) (params : Row) (old new : State) where
  abbrev Reason : Type 0
  Reason = IsTrue old.is_open × IsNoQuery old.now.schema sql

  failed : (too_big : Type 0) (e : Error) → Fails old new too_big e → IsNoneFor Reason (adopt_fault e)
  failed too_big e h = told_as Reason e (store_error h.0) h.1 (by_cause Reason h.0)

  no_statement : (e : Error) → IsNoStatement old sql params e → IsUnchanged old new → IsNoneFor Reason (adopt_fault e)
  no_statement e (inl it) same = told_as Reason e (SqlInputError it.0) it.2 (same.0.was_open, λ plain. subst IsPlain it.1 plain)
  no_statement e (inr it) same = elim it.2 [
    | inl many ↦ told_as Reason e MultipleStatement many.1 tt
    | inr (inl given) ↦ told_as Reason e (InvalidParameterCount (length params) (length it.0.names)) given.1 tt
    | inr (inr clock) ↦ told_as Reason e (SqliteFailure code.NoClock) clock.1 tt
  ]

  refused_read : (limit : Option ℕ) (command : Command) (db : Database) (given : Row) (e : Error) → RefusesToRead limit command db given e → IsNoneFor Reason (adopt_fault e)
  refused_read limit (Select q names) db given e (inl h) = told_as Reason e (SqliteFailure code.TypeMismatch) h.0 tt
  refused_read limit (Select q names) db given e (inr (inl h)) = told_as Reason e (SqliteFailure code.IntegerOverflow) h.0 tt
  refused_read limit (Select q names) db given e (inr (inr h)) = told_as Reason e (SqliteFailure code.OperationInterrupted) h.0 tt
  refused_read limit (Rows values width names) db given e h = told_as Reason e (SqliteFailure code.OperationInterrupted) h.0 tt
  refused_read limit _ db given e h = told_as Reason e InvalidQuery h tt

  not_shown : (c : Compiled) (given : Row) (e : Error) (o : Option Returning) → c.returning ≡ o → understood old.now.schema sql ≡ Ok c → FailsToShow old new sql c given e o → IsNoneFor Reason (adopt_fault e)
  not_shown c given e None none is h = refused_read old.step_limit c.command h.0 given e h.2
  not_shown c given e (Some what) some is (inl h) = either_fault Reason (h.1.0.was_open, λ plain. (let none : c.returning ≡ None = (subst IsPlain is plain).0 in cc (none, some))) e
  not_shown c given e (Some what) some is (inr h) = failed _ e h

  pub query_error : (e : Error) → FailsToQuery sql params old new e ⊎ IsTooLate sql params old new e → IsNoneFor Reason (adopt_fault e)
  unfolding FailsToQuery IsNotRun
  query_error e (inl (inl (inl it))) = no_statement e it.0 it.1
  query_error e (inl (inl (inr it))) = failed ⊥ e it
  query_error e (inl (inr it)) = not_shown it.0 _ e it.0.returning refl it.1.is it.2
  query_error e (inr late) = told_as Reason e (SqliteFailure code.TransactionState) late.4 tt

-- COLUMNS THAT CAN'T BE READ

past_columns : (row : Row) (at : ℕ) → length row ≤ at → column row at ≡ Null
past_columns [] at past = refl
past_columns (v ∷ row) zero past = absurd (omega (arith, past))
past_columns (v ∷ row) (suc at) past = past_columns row at (omega (arith, past))

misread_as : (R : Type 0) (e f : Error) → e ≡ f → AreNoneFor R (adopt_fault f) → AreNoneFor R (adopt_fault e)
misread_as R e f same h = subst (λ x. AreNoneFor R (adopt_fault x)) (sym same) h

pub misread : (P : Value → Type 0) → ¬ P Null → (row : Row) (at : ℕ) (e : Error) → IsReadError at (column row at) e
    → (e ≢ SqliteFailure code.OutOfMemory → at < length row → ¬ P (column row at)) → AreNoneFor (¬ P (column row at)) (adopt_fault e)
misread P none row at e named kind = elim named [
  | inl index ↦ misread_as _ e (InvalidColumnIndex at) index (unlike (λ m. cc (index, m)))
  | inr (inl type) ↦ misread_as _ e _ type (unlike (λ m. cc (type, m)))
  | inr (inr (inl range)) ↦ misread_as _ e (IntegralValueOutOfRange at) range (unlike (λ m. cc (range, m)))
  | inr (inr (inr (inl text))) ↦ misread_as _ e (Utf8Error at) text (unlike (λ m. cc (text, m)))
  | inr (inr (inr (inr memory))) ↦ misread_as _ e (SqliteFailure code.OutOfMemory) memory tt
]
  where
    unlike : e ≢ SqliteFailure code.OutOfMemory → ¬ P (column row at)
    unlike other p = elim (cases_lt at (length row)) [
      | inl low ↦ kind other low p
      | inr high ↦ none (subst P (past_columns row at high) p)
    ]

-- another reason, if the store is involved
pub rows_for : (P Q : Type 0) → (P → Q) → (fault : AdoptFault) → AreNoneFor P fault → AreNoneFor Q fault
rows_for P Q f NotALedger h = f h
rows_for P Q f (Damaged name path) h = absurd h
rows_for P Q f Memory h = tt
rows_for P Q f (Store error) h = absurd h

pub by_rows : (P Q : Type 0) → (P → Q) → (fault : AdoptFault) → AreNoneFor P fault → IsNoneFor Q fault
by_rows P Q f NotALedger h = f h
by_rows P Q f (Damaged name path) h = absurd h
by_rows P Q f Memory h = tt
by_rows P Q f (Store error) h = absurd h

pub not_read : (P : Value → Type 0) → ¬ P Null → (row : Row) (at : ℕ) (e : Error) → IsReadError at (column row at) e
    → (e ≢ SqliteFailure code.OutOfMemory → at < length row → ¬ P (column row at)) → IsNoneFor (¬ P (column row at)) (adopt_fault e)
not_read P none row at e named kind = by_rows (¬ P (column row at)) (¬ P (column row at)) (λ h. h) (adopt_fault e) (misread P none row at e named kind)

pub null_text : ¬ IsText Null
null_text it = let e = it.1 in cc

pub null_blob : ¬ IsBlob Null
null_blob it = let e = it.1 in cc

-- another reason
pub none_for : (P Q : Type 0) → (P → Q) → (fault : AdoptFault) → IsNoneFor P fault → IsNoneFor Q fault
none_for P Q f NotALedger h = f h
none_for P Q f (Damaged name path) h = absurd h
none_for P Q f Memory h = tt
none_for P Q f (Store error) h = tt

pub null_int : ¬ IsInt Null
null_int it = let e = it.1 in cc

-- WHAT IS REPORTED FOR A COLUMN OR A QUERY

module _ {S : Type 0} (g : Ghosts S) (db : Database) (format : Format) where
  -- the query can't be understood
  pub no_query : (asked : Question) → IsAsked format asked → (fault : AdoptFault) → IsNoneFor (IsNoQuery db.schema (text_of format asked)) fault → IsNoneFor (IsNoLedger g db format) fault
  no_query asked is fault h = none_for _ _ (λ no. (asked, is, inl no)) fault h

  -- a column can't be read
  pub no_column : (asked : Question) → IsAsked format asked → (P : Value → Type 0) → ¬ P Null → (row : Row) (at : ℕ) (e : Error) (rows : List Row) → Tells g db (text_of format asked) (params_of asked) rows → (MayShow asked rows → P (column row at))
      → IsReadError at (column row at) e → (e ≢ SqliteFailure code.OutOfMemory → at < length row → ¬ P (column row at)) → IsNoneFor (IsNoLedger g db format) (adopt_fault e)
  no_column asked is P none row at e rows told such named kind =
      none_for (¬ P (column row at)) (IsNoLedger g db format) (λ no. (asked, is, inr (rows, told, λ may. no (such may)))) (adopt_fault e) (not_read P none row at e named kind)

  pub to_transfers : (fault : AdoptFault) → IsNoneFor (IsNoLedger g db format) fault → RefusesTransfers g db format fault
  to_transfers NotALedger h = h
  to_transfers (Damaged name path) h = absurd h
  to_transfers Memory h = tt
  to_transfers (Store error) h = tt

  pub to_transfer : (transfer : ℤ) (name : List ℕ) (fault : AdoptFault) → IsNoneFor (IsNoLedger g db format) fault → RefusesTransfer g db format transfer name fault
  to_transfer transfer name NotALedger h = h
  to_transfer transfer name (Damaged named path) h = absurd h
  to_transfer transfer name Memory h = tt
  to_transfer transfer name (Store error) h = tt

-- THE ORDER OF THE TESTS

module _ {S : Type 0} (g : Ghosts S) (db : Database) where
  -- when the format is read
  pub by_format : (fault : AdoptFault) → IsNoneFor (HasNoFormat g db) fault → RefusesToAdopt g db fault
  by_format NotALedger h = inl h
  by_format (Damaged name path) h = absurd h
  by_format Memory h = tt
  by_format (Store error) h = tt

  module _ (format : Format) (named : HasFormat g db (number_of format)) where
    -- once the format was checked
    pub to_adopt : (fault : AdoptFault) → IsNoneFor (IsNoLedger g db format) fault → RefusesToAdopt g db fault
    to_adopt NotALedger h = inr (format, named, h)
    to_adopt (Damaged name path) h = absurd h
    to_adopt Memory h = tt
    to_adopt (Store error) h = tt

    -- once the format and the rows were checked
    pub in_order : (fault : AdoptFault) → HasLedgerRows g db format → RefusesTransfers g db format fault → RefusesToAdopt g db fault
    in_order NotALedger rows h = inr (format, named, h)
    in_order (Damaged name path) rows h = (format, named, (rows, h))
    in_order Memory rows h = tt
    in_order (Store error) rows h = tt

-- what holds of each row holds of the one at an index
pub all_at : {X : Type 0} (P : X → Type 0) (xs : List X) (i : ℕ) (x : X) → AllByRecursion P xs → i < length xs → x ≡ get_or xs i x → P x
all_at P [] i x all low is = absurd (omega (arith, low))
all_at P (first ∷ xs) zero x all low is = subst P (sym is) all.0
all_at P (first ∷ xs) (suc i) x all low is = all_at P xs i x all.1 (omega (arith, low)) is

pub if_err : {A E : Type 0} (r : Result A E) (P Q : E → Type 0) → ((e : E) → P e → Q e) → IfErr r P → IfErr r Q
if_err (Ok a) P Q f h = tt
if_err (Err e) P Q f h = f e h

pub match_map : {A E : Type 0} (r : Result A E) (P P' : A → Type 0) (Q Q' : E → Type 0) → ((a : A) → P a → P' a) → ((e : E) → Q e → Q' e) → MatchResult r P Q → MatchResult r P' Q'
match_map (Ok a) P P' Q Q' f h it = f a it
match_map (Err e) P P' Q Q' f h it = h e it

pub none_map : {A : Type 0} {P Q : Type 0} (o : Option A) → (P → Q) → IfNone o P → IfNone o Q
none_map None f h = f h
none_map (Some a) f h = tt

-- an error of reading a column is never reported as damage
pub not_damage : (at : ℕ) (v : Value) (e : Error) → IsReadError at v e → e ≢ SqliteFailure code.DatabaseCorrupt
not_damage at v e (inl h) d = absurd (cc (h, d))
not_damage at v e (inr (inl h)) d = absurd (cc (h, d))
not_damage at v e (inr (inr (inl h))) d = absurd (cc (h, d))
not_damage at v e (inr (inr (inr (inl h)))) d = absurd (cc (h, d))
not_damage at v e (inr (inr (inr (inr h)))) d = absurd (cc (h, d))

-- a path that can't be read is reported as an error of the store
pub path_error : {A : Type 0} (R X : Type 0) (r : Result A Error) (e : Error) (fault : AdoptFault) → r ≡ Err e → IfErr r (λ x. ((x ≡ SqliteFailure code.DatabaseCorrupt) × X) ⊎ (x ≡ SqliteFailure code.OutOfMemory)) → fault ≡ adopt_fault e → IsNoneFor R fault
path_error R X r e fault is said told = subst (IsNoneFor R) (sym told) (elim (rw is at said) [
  | inl damaged ↦ told_as R e (SqliteFailure code.DatabaseCorrupt) damaged.0 tt
  | inr memory ↦ told_as R e (SqliteFailure code.OutOfMemory) memory tt
])

pub bad_path : {A : Type 0} (X : Type 0) (r : Result A Error) → r ≡ Err (SqliteFailure code.DatabaseCorrupt) → IfErr r (λ x. ((x ≡ SqliteFailure code.DatabaseCorrupt) × X) ⊎ (x ≡ SqliteFailure code.OutOfMemory)) → X
bad_path X r is said = elim (rw is at said) [ inl damaged ↦ damaged.1 | inr memory ↦ absurd cc ]

pub tags_error : {A : Type 0} (R X : Type 0) (r : Result A Error) (e : Error) (fault : AdoptFault) → r ≡ Err e → IfErr r (λ x. (x ≡ SqliteFailure code.DatabaseCorrupt → X) × IsNoneFor R (adopt_fault x)) → fault ≡ adopt_fault e → IsNoneFor R fault
tags_error R X r e fault is said told = subst (IsNoneFor R) (sym told) (rw is at said).1

pub bad_tag : {A : Type 0} (R X : Type 0) (r : Result A Error) → r ≡ Err (SqliteFailure code.DatabaseCorrupt) → IfErr r (λ x. (x ≡ SqliteFailure code.DatabaseCorrupt → X) × IsNoneFor R (adopt_fault x)) → X
bad_tag R X r is said = (rw is at said).0 refl

module _ {S : Type 0} (g : Ghosts S) (db : Database) (format : Format) where
  -- a transfer that isn't accepted, with what is known of it
  pub adopt_transfer : (transfer : ℤ) (name : List ℕ) (fault : AdoptFault) → ((path : List ℕ) → TransferFails g db format transfer path → IsDamaged g db format name path) → RefusesTransfer g db format transfer name fault → RefusesTransfers g db format fault
  adopt_transfer transfer name NotALedger damaged h = h
  adopt_transfer transfer name (Damaged named path) damaged h = subst (λ n. IsDamaged g db format n (string_bytes path)) (sym h.0) (damaged (string_bytes path) h.1)
  adopt_transfer transfer name Memory damaged h = tt
  adopt_transfer transfer name (Store error) damaged h = tt

pub both_ways : {A E P P' : Type 0} (r : Result A E) (Q Q' : E → Type 0) → (P → P') → ((e : E) → Q e → Q' e) → OnOk r P → IfErr r Q → MatchResult r (λ _. P') Q'
both_ways (Ok a) Q Q' f h p q = f p
both_ways (Err e) Q Q' f h p q = h e q

-- A FORMAT

-- what the only row says
pub says_at : (rows : List Row) (row : Row) (format : ℤ) → length rows ≡ 1 → row ≡ slice_index_or rows 0 row → SaysFormat rows format → (column row 0 ≡ Text (codes "bag-ledger")) × (column row 1 ≡ Int format)
says_at rows row format one is says =
    let same : says.0 ≡ row = sym (ap (λ rs. slice_index_or rs 0 []) says.1) ∙ row_at rows row one is in
    (subst (λ r. column r 0 ≡ Text (codes "bag-ledger")) same says.2, subst (λ r. column r 1 ≡ Int format) same says.3)

pub one_format : (rows : List Row) (a b : ℤ) → SaysFormat rows a → SaysFormat rows b → a ≡ b
one_format rows a b one two = let rows_are = one.1 in let rows_too = two.1 in let first = one.3 in let second = two.3 in cc
