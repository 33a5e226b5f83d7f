-- A query commits nothing, and queries are read in sequence.
use Rattle.std.proofs.Common.{false, ◌≡◌, ◌⊎◌, ◌<◌, ◌+◌, inl, inr, ℕ, suc, List, [], ◌∷◌, ◌++◌, Option, Some, None, Result, Ok, Err, IfOk, IsTrue, true, get_or, length, map, string_bytes, take, ap, refl, subst, sym, if◌then◌else◌, ◌∙◌, arith}
use Rattle.bag_sqlite.proofs.Words.{bytes, column, CommitsNothingWithin, Compiled, Database, Error, FailsToQuery, FailsToShow, Ghosts, Global, HasCleanDisk, Held, HoldsLedger, IsDatabaseOf, IsLeft, IsNotRun, IsRolledBack, IsTooLate, IsUnchanged, KeepsCommit, Layout, Ledger, map_twice, MayLeaveLedger, MutBor, OnlyQueries, Returning, Row, Shown, ShowsLedger, ShowsRows, State, state, String, Survives, survives_begin, take-suc, Text, unchanged_keeps, Value}
use Rattle.bag_ledger.specs.Keeping.{Reads}
use Rattle.bag_sqlite.proofs.MakingLemmas.{kept_since, left_by_undoing}
use Rattle.bag_sqlite.proofs.SqlLemmas.{survives_both}

module _ (old new : State) (sql : List ℕ) (params : Row) where
  kept_by : (c : Compiled) (given : Row) (rows : List Row) (o : Option Returning) → IsTrue old.in_transaction → ShowsRows old new sql c given rows o → KeepsCommit old new
  kept_by c given rows None mode h = unchanged_keeps old new (inl h.3)
  kept_by c given rows (Some what) mode h =
      let shown = h.1.shown in
      record { was_open = λ _. shown.was_open; committed = λ _. shown.committed_is ∙ ap (λ b. if b then old.committed else new.now) mode }

  pub kept_shown : (rows : List Row) → IsTrue old.in_transaction → Shown sql params old new rows → KeepsCommit old new
  unfolding Shown
  kept_shown rows mode h = kept_by h.0 _ rows h.0.returning mode h.2

  open_by : (c : Compiled) (given : Row) (rows : List Row) (o : Option Returning) → ShowsRows old new sql c given rows o → IsTrue old.is_open
  open_by c given rows None h = h.3.0.was_open
  open_by c given rows (Some what) h = h.1.shown.was_open

  -- a connection that shows rows is open
  pub was_open : (rows : List Row) → Shown sql params old new rows → IsTrue old.is_open
  unfolding Shown
  was_open rows h = open_by h.0 _ rows h.0.returning h.2

  mode_by : (c : Compiled) (given : Row) (rows : List Row) (o : Option Returning) → ShowsRows old new sql c given rows o → new.in_transaction ≡ old.in_transaction
  mode_by c given rows None h = h.3.0.mode
  mode_by c given rows (Some what) h = h.1.shown.mode

  -- a query ends no transaction
  pub same_mode : (rows : List Row) → Shown sql params old new rows → new.in_transaction ≡ old.in_transaction
  unfolding Shown
  same_mode rows h = mode_by h.0 _ rows h.0.returning h.2

  stays_by : (c : Compiled) (given : Row) (e : Error) (o : Option Returning) → FailsToShow old new sql c given e o → IsUnchanged old new ⊎ IsRolledBack old new
  stays_by c given e None h = inl h.3
  stays_by c given e (Some what) (inl refused) = inl refused.1
  stays_by c given e (Some what) (inr failed) = inr failed.3

  stays : (e : Error) → FailsToQuery sql params old new e → IsUnchanged old new ⊎ IsRolledBack old new
  unfolding FailsToQuery IsNotRun
  stays e (inl (inl refused)) = inl refused.1
  stays e (inl (inr failed)) = inr failed.3
  stays e (inr shown) = stays_by shown.0 _ e shown.0.returning shown.2

  pub kept_failed : (e : Error) → FailsToQuery sql params old new e ⊎ IsTooLate sql params old new e → KeepsCommit old new
  kept_failed e (inl failed) = unchanged_keeps old new (stays e failed)
  kept_failed e (inr late) = unchanged_keeps old new (inl late.5)

-- in a transaction that began at this connection
module _ {S : Type 0} (g : Ghosts S) (old begun : Held S) (mid : State) (sql : List ℕ) (params : Row) (is : begun ≡ record old { in_transaction = true }) where
  pub kept_query : (rows : List Row) → Shown sql params (state g begun) mid rows → KeepsCommit (state g old) mid
  kept_query rows shown =
      let start = state g (record old { in_transaction = true }) in
      kept_since g old mid (kept_shown start mid sql params rows refl (subst (λ (h : Held S). Shown sql params (state g h) mid rows) is shown))

  pub kept_refusal : (e : Error) → FailsToQuery sql params (state g begun) mid e ⊎ IsTooLate sql params (state g begun) mid e → KeepsCommit (state g old) mid
  kept_refusal e failed =
      let start = state g (record old { in_transaction = true }) in
      kept_since g old mid (kept_failed start mid sql params e (subst (λ (h : Held S). FailsToQuery sql params (state g h) mid e ⊎ IsTooLate sql params (state g h) mid e) is failed))

-- in a transaction that was under way
module _ {S : Type 0} {g : Ghosts S} {old new : MutBor (Held S)} (sql : List ℕ) (params : Row) (same : new.ghost_name ≡ old.ghost_name) (survives : Survives (state g old.now) (state g new.now) (λ _. ⊥)) where
  pub within_query : (rows : List Row) → (HasCleanDisk (state g new.now) → Shown sql params (state g old.now) (state g new.now) rows) → CommitsNothingWithin g old new
  within_query rows shown = record { same_reference = same; commit = λ clean mode. kept_shown (state g old.now) (state g new.now) sql params rows mode (shown clean); survives = survives }

  pub within_refusal : (e : Error) → (HasCleanDisk (state g new.now) → FailsToQuery sql params (state g old.now) (state g new.now) e ⊎ IsTooLate sql params (state g old.now) (state g new.now) e) → CommitsNothingWithin g old new
  within_refusal e failed = record { same_reference = same; commit = λ clean mode. kept_failed (state g old.now) (state g new.now) sql params e (failed clean); survives = survives }

-- it was undone
pub queries_undone : {S : Type 0} (g : Ghosts S) (old end : Held S) (mid : State) → old.in_transaction ≡ false → end.in_transaction ≡ false
    → (HasCleanDisk mid → KeepsCommit (state g old) mid) → Survives (state g (record old { in_transaction = true })) mid (λ _. ⊥)
    → (HasCleanDisk (state g end) → IsRolledBack mid (state g end)) → Survives mid (state g end) (λ _. ⊥) → OnlyQueries g old end
queries_undone g old end mid idle ended kept ran undone ends = record {
  left = λ clean.
      let early : HasCleanDisk mid = omega (arith, clean, ends.clean) in
      left_by_undoing (state g old) mid (state g end) idle (kept early) (undone clean);
  idle = ended;
  survives = survives_both (state g old) mid (state g end) (survives_begin g old mid _ ran) ends;
}

-- A SECOND READ

-- after a read the connection shows what it showed before
pub same_shown : (old new : State) → IsLeft old new → old.in_transaction ≡ false → IsTrue new.is_open → old.committed ≡ old.now → new.now ≡ old.now
same_shown old new left idle is_open committed = left.now is_open idle ∙ committed

-- and shows the ledger that it showed before
pub still_shows : {l : Layout} (old new : State) (ledger : Ledger) → IsLeft old new → old.in_transaction ≡ false → IsTrue new.is_open → ShowsLedger l old ledger → ShowsLedger l new ledger
still_shows {l} old new ledger left idle is_open shows =
    let same = same_shown old new left idle is_open shows.committed in
    record {
      schema_is = ap (λ (d : Database). d.schema) same ∙ shows.schema_is;
      database = subst (λ (d : Database). IsDatabaseOf l d.trees ledger) (sym same) shows.database;
      committed = left.committed is_open ∙ sym (left.now is_open idle);
    }

-- and holds what it held before
pub still_holds : (old new : State) (ledger : Ledger) → HasCleanDisk new → IsLeft old new → old.in_transaction ≡ false → Survives old new (λ _. ⊥) → HoldsLedger old ledger → HoldsLedger new ledger
still_holds old new ledger clean left idle survives holds = record {
  sound = holds.sound;
  shows = λ is_open.
      let (o, shows) = holds.shows (left.was_open is_open) in
      (o, still_shows old new ledger left idle is_open shows);
  outcomes = λ trees may. holds.outcomes trees (elim (survives.crash clean trees may) [ inl before ↦ before | inr none ↦ absurd none ]);
}

-- a keeper that only runs queries answers for what it answered for
abbrev pub ReadsLedger : {S : Type 0} → Ghosts S → Held S → Held S → Type 0
ReadsLedger {S} g old new = Reads (λ (h : Held S). HoldsLedger (state g h)) (λ h. MayLeaveLedger (state g h)) (λ h. HasCleanDisk (state g h)) old new

pub keeps_reading : {S : Type 0} (g : Ghosts S) (old new : Held S) → (state g old).in_transaction ≡ false → OnlyQueries g old new → ReadsLedger g old new
keeps_reading g old new idle queries = record {
  was_clean = λ clean. omega (arith, clean, queries.survives.clean);
  held = λ clean ledger. still_holds (state g old) (state g new) ledger clean (queries.left clean) idle queries.survives;
  left = λ clean crashed may. (may.0, elim (queries.survives.crash clean may.0 may.1) [ inl before ↦ before | inr none ↦ absurd none ], may.2);
}

-- the same for a structure that contains the connection
pub keeps_reading_in : {S L : Type 0} (g : Ghosts S) (part : L → Held S) (old new : L) → (part old).in_transaction ≡ false → OnlyQueries g (part old) (part new)
    → Reads (λ l. HoldsLedger (state g (part l))) (λ l. MayLeaveLedger (state g (part l))) (λ l. HasCleanDisk (state g (part l))) old new
keeps_reading_in g part old new idle queries =
    let reads = keeps_reading g (part old) (part new) idle queries in
    record { was_clean = reads.was_clean; held = reads.held; left = reads.left }

-- QUERIES

abbrev pub as_text : String Global → Value
as_text text = Text (string_bytes text)

abbrev pub first_of : Row → Value
first_of row = column row 0

map_push : {X Y : Type 0} (f : X → Y) (xs : List X) (y : X) → map f (xs ++ y ∷ []) ≡ map f xs ++ f y ∷ []
map_push f [] y = refl
map_push f (x ∷ xs) y = ap (λ rest. f x ∷ rest) (map_push f xs y)

pub texts_grow : (rows : List Row) (i : ℕ) (row : Row) (texts : List (String Global)) (text : String Global) → i < length rows → row ≡ get_or rows i row → first_of row ≡ as_text text
    → map as_text texts ≡ map first_of (take i rows) → map as_text (texts ++ text ∷ []) ≡ map first_of (take (i + 1) rows)
texts_grow rows i row texts text low at is so_far =
    let next : i + 1 ≡ suc i = omega arith in
    let split : take (i + 1) rows ≡ take i rows ++ get_or rows i row ∷ [] = rw next (take-suc rows i row low) in
    map_push as_text texts text ∙ ap (λ l. l ++ as_text text ∷ []) so_far ∙ ap (λ v. map first_of (take i rows) ++ v ∷ []) (sym is ∙ ap first_of at)
    ∙ sym (map_push first_of (take i rows) (get_or rows i row)) ∙ ap (map first_of) (sym split)

rows_named : (names : List (List ℕ)) → map bytes (map first_of (map (λ name. Text name ∷ []) names)) ≡ names
rows_named [] = refl
rows_named (n ∷ ns) = ap (λ rest. n ∷ rest) (rows_named ns)

-- texts read from rows of one text each
pub texts_named : (rows : List Row) (texts : List (String Global)) (names : List (List ℕ)) → rows ≡ map (λ name. Text name ∷ []) names → map as_text texts ≡ map first_of rows
    → map string_bytes texts ≡ names
texts_named rows texts names is read = sym (map_twice as_text bytes texts) ∙ ap (map bytes) (read ∙ ap (map first_of) is) ∙ rows_named names

pub if_ok : {A E : Type 0} (r : Result A E) (P Q : A → Type 0) → ((a : A) → P a → Q a) → IfOk r P → IfOk r Q
if_ok (Ok a) P Q f h = f a h
if_ok (Err e) P Q f h = tt
