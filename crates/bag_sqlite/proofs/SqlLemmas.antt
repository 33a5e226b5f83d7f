-- Statements in sequence, in a transaction.
use Rattle.std.proofs.Common.{ℕ, ◌≡◌, Bool, true, false, cond, Ok, Err, Result, OnOk, OnErr, IfErr, IfOk, MatchResult, IsTrue, List, arith, inl, inr, refl, subst, sym, ◌∙◌, ℤ}
use Rattle.bag_sqlite.proofs.Words.{cases_Bool, cast, CommitsNothing, CommitsNothingWithin, Error, ExecutesInside, Ghosts, HasCleanDisk, Held, inside_keeps, Int, Integer, KeepsCommit, MutBor, Null, Row, Spent, State, state, StoreFault, Survives, survives_then, unary, UsesStore, Value}

pub on_ok : {A E P Q : Type 0} (r : Result A E) → (P → Q) → OnOk r P → OnOk r Q
on_ok (Ok a) f h = f h
on_ok (Err e) f h = tt

-- what holds in any case
pub whichever : {A E P : Type 0} (r : Result A E) → P → OnOk r P
whichever (Ok a) h = h
whichever (Err e) h = tt

pub if_ok_where : {A E Z : Type 0} (r : Result A E) (P Q : A → Type 0) → OnOk r Z → ((a : A) → Z → P a → Q a) → IfOk r P → IfOk r Q
if_ok_where (Ok a) P Q z f h = f a z h
if_ok_where (Err e) P Q z f h = tt

pub on_err : {A E : Type 0} {Q : Type 0} {F : E → Type 0} (r : Result A E) → ((e : E) → F e → Q) → IfErr r F → OnErr r Q
on_err (Ok a) f h = tt
on_err (Err e) f h = f e h

pub by_result : {A E D P : Type 0} {F : E → Type 0} {Q R : Type 0} (r : Result A E) → (D → OnOk r P) → (D → IfErr r F) → ((D → P) → Q) → ((e : E) → (D → F e) → R) → MatchResult r (λ _. Q) (λ _. R)
by_result (Ok a) ok err f g = f ok
by_result (Err e) ok err f g = g e err

-- WHAT A COLUMN STORES FOR A VALUE

either : (b : Bool) (x : Value) → cond b x x ≡ x
either true x = refl
either false x = refl

pub cast_null : cast Integer Null ≡ Null
unfolding unary
cast_null = either _ Null

pub cast_int : (n : ℤ) → cast Integer (Int n) ≡ Int n
unfolding unary
cast_int n = either _ (Int n)

-- THE COMMITTED DATABASE IS UNCHANGED

pub survives_same : (s : State) → Survives s s (λ _. ⊥)
survives_same s = record { clean = omega arith; shield = λ h. h; counts = omega arith; limit = refl; closes = λ _ h. inl h; crash = λ _ db h. inl h }

pub survives_both : (a b c : State) → Survives a b (λ _. ⊥) → Survives b c (λ _. ⊥) → Survives a c (λ _. ⊥)
survives_both a b c p q = survives_then a b c _ _ _ (λ _ db none. none) (λ _ db none. none) p q

pub kept_then : (a b c : State) → KeepsCommit a b → KeepsCommit b c → KeepsCommit a c
kept_then a b c p q = record { was_open = λ h. p.was_open (q.was_open h); committed = λ h. q.committed h ∙ p.committed (q.was_open h) }

kept_same : (s : State) → KeepsCommit s s
kept_same s = record { was_open = λ h. h; committed = λ _. refl }

pub nothing_same : {S : Type 0} {g : Ghosts S} {held : MutBor (Held S)} → CommitsNothing g held held
nothing_same {S} {g} {held} = record { same_reference = refl; commit = λ _. kept_same (state g held.now); survives = survives_same (state g held.now) }

-- one statement
pub nothing_executed : {S : Type 0} {g : Ghosts S} {old new : MutBor (Held S)} (sql : List ℕ) (params : Row) (r : Result ℕ Error) → new.ghost_name ≡ old.ghost_name
    → ((state g old.now).in_transaction ≡ false → new.now ≡ old.now)
    → (HasCleanDisk (state g new.now) → IsTrue (state g old.now).in_transaction → ExecutesInside 0 sql params (state g old.now) (state g new.now) r)
    → Survives (state g old.now) (state g new.now) (λ _. ⊥) → CommitsNothing g old new
nothing_executed {S} {g} {old} {new} sql params r same ended runs survives = record {
  same_reference = same;
  commit = λ clean. elim (cases_Bool (state g old.now).in_transaction) [
    | inl inside ↦ inside_keeps (state g old.now) (state g new.now) 0 false sql params r (runs clean inside)
    | inr outside ↦ subst (λ (h : Held S). KeepsCommit (state g old.now) (state g h)) (sym (ended outside)) (kept_same (state g old.now))
  ];
  survives = survives;
}

-- statements in sequence
pub nothing_then : {S : Type 0} {g : Ghosts S} {a b c : MutBor (Held S)} → CommitsNothing g a b → CommitsNothing g b c → CommitsNothing g a c
nothing_then {S} {g} {a} {b} {c} p q = record {
  same_reference = q.same_reference ∙ p.same_reference;
  commit = λ clean.
      let early : HasCleanDisk (state g b.now) = omega (arith, clean, q.survives.clean) in
      kept_then (state g a.now) (state g b.now) (state g c.now) (p.commit early) (q.commit clean);
  survives = survives_both (state g a.now) (state g b.now) (state g c.now) p.survives q.survives;
}

-- in a transaction that no failure has ended
pub within_transaction : {S : Type 0} {g : Ghosts S} {old new : MutBor (Held S)} → CommitsNothing g old new → CommitsNothingWithin g old new
within_transaction {S} {g} {old} {new} kept = record { same_reference = kept.same_reference; commit = λ clean inside. kept.commit clean; survives = kept.survives }

pub within_then : {S : Type 0} {g : Ghosts S} {a b c : MutBor (Held S)} → CommitsNothingWithin g a b → (HasCleanDisk (state g b.now) → IsTrue (state g a.now).in_transaction → IsTrue (state g b.now).in_transaction) → CommitsNothingWithin g b c
    → CommitsNothingWithin g a c
within_then {S} {g} {a} {b} {c} p inside q = record {
  same_reference = q.same_reference ∙ p.same_reference;
  commit = λ clean mode.
      let early : HasCleanDisk (state g b.now) = omega (arith, clean, q.survives.clean) in
      kept_then (state g a.now) (state g b.now) (state g c.now) (p.commit early mode) (q.commit clean (inside early mode));
  survives = survives_both (state g a.now) (state g b.now) (state g c.now) p.survives q.survives;
}

-- HOW A FAILURE IS REPORTED

-- the same failure, stated for a structure that contains the store
pub uses_as : {K L : Type 0} (part : L → K) (failures : K → ℕ) (spent : K → Type 0) (old new : L) (F G : StoreFault → Type 0) → ((fault : StoreFault) → F fault → G fault) → ((fault : StoreFault) → G fault → F fault)
    → UsesStore failures spent (part old) (part new) F → UsesStore (λ l. failures (part l)) (λ l. spent (part l)) old new G
uses_as part failures spent old new F G to from uses = record {
  counted = record {
    rises = λ some. uses.counted.rises (some.0, from some.0 some.1);
    stays = λ none. uses.counted.stays (λ some. none (some.0, to some.0 some.1));
  };
  spent_before = λ before. to Spent (uses.spent_before before);
  spent_first = λ told. uses.spent_first (from Spent told);
  spent_now = ((λ now. let it = uses.spent_now.0 now in (it.0, to it.0 it.1)), (λ some. uses.spent_now.1 (some.0, from some.0 some.1)));
}

pub same_fault : {A E : Type 0} {a b : E} → ◌≡◌ {A = Result A E} (Err a) (Err b) → a ≡ b
same_fault e = cc

-- what follows from a property that holds in every `Ok`
pub if_open : {A E P : Type 0} (r : Result A E) (Q : A → Type 0) → OnOk r P → (P → IfOk r Q) → IfOk r Q
if_open (Ok a) Q h f = f h
if_open (Err e) Q h f = tt
