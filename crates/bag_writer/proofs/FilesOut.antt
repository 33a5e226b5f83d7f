-- Files of a tree and of a sink that are out, and the counts that they have raised.
use Rattle.std.proofs.Common.{◌≡◌, ◌∙◌, ◌+◌, ◌-◌, ℕ, Bool, Option, arith, refl, subst, sym}
use Rattle.bag_digest.specs.Failures.{CountsIf, IsRaised}
use Rattle.bag_rules.specs.Returning.{AreOut, LeavesOut}
use Rattle.bag_rules.proofs.Words.{Shown}
use Rattle.bag_writer.specs.OpenSinks.{LeavesSink}
use Rattle.bag_writer.specs.Returned.{LeavesCopies, TakesCopiesBack}
use Rattle.bag_writer.specs.Sinks.{Stored}
use Rattle.bag_rules.proofs.ReturningLemmas.{keeps_same, leaves_same}

-- THE COUNT

pub count_less : (n base a b : ℕ) → b ≡ a - 1 → AreOut base (n + 1) a → AreOut base n b
count_less n base a b less out = (omega (arith, less, out.0), λ some. let most = out.1 (omega arith) in omega (arith, less, most))

pub count_more : (n base a b : ℕ) → IsRaised a b → AreOut base n a → AreOut base (n + 1) b
count_more n base a b raised out = (omega (arith, raised.0, out.0), λ some. raised.1)

pub count_same : (n base a b : ℕ) → b ≡ a → AreOut base n a → AreOut base n b
count_same n base a b same out = subst (AreOut base n) (sym same) out

count_failed : {F : Type 0} (base a b : ℕ) → b ≡ a → F → AreOut base 1 a → CountsIf F base b
count_failed base a b same failed out = record {
  rises = λ f. let most = out.1 (omega arith) in omega (arith, same, out.0, most);
  stays = λ not. absurd (not failed);
}

count_none : {F : Type 0} (base a : ℕ) → ¬ F → AreOut base 0 a → CountsIf F base a
count_none base a not out = record { rises = λ f. absurd (not f); stays = λ no. omega (arith, out.0) }

-- OF A TREE

module _ {T : Type 0} {shown : T → Shown} {failures : T → ℕ} {sure : T → Type 0} where
  pub tree_same : (n : ℕ) {a : T} → LeavesOut shown failures sure n n a a
  tree_same n = leaves_same n keeps_same refl

  pub tree_still : (n : ℕ) {a : T} → LeavesOut shown failures sure (n + 0) n a a
  tree_still n {a} = subst (λ m. LeavesOut shown failures sure m n a a) (let e : n ≡ n + 0 = omega arith in e) (tree_same n)

-- OF A SINK

module _ {S : Type 0} {stored : S → Option Stored} {is_open : S → Bool} {failures : S → ℕ} {sure : S → Type 0} where
  pub sink_same : (n : ℕ) {a : S} → LeavesCopies stored is_open failures sure n n a a
  sink_same n = record { held = refl; as_open = refl; stays_sure = λ s. s; counted = λ base out. out }

  pub sink_still : (n : ℕ) {a : S} → LeavesCopies stored is_open failures sure (n + 0) n a a
  sink_still n {a} = subst (λ m. LeavesCopies stored is_open failures sure m n a a) (let e : n ≡ n + 0 = omega arith in e) (sink_same n)

  pub sink_after : (l m n : ℕ) {a b c : S} → LeavesCopies stored is_open failures sure l m a b → LeavesCopies stored is_open failures sure m n b c → LeavesCopies stored is_open failures sure l n a c
  sink_after l m n p q = record {
    held = q.held ∙ p.held;
    as_open = q.as_open ∙ p.as_open;
    stays_sure = λ s. q.stays_sure (p.stays_sure s);
    counted = λ base out. q.counted base (p.counted base out);
  }

  pub sink_less : (n : ℕ) {a b : S} → LeavesSink stored is_open sure a b → failures b ≡ failures a - 1 → LeavesCopies stored is_open failures sure (n + 1) n a b
  sink_less n {a} {b} rest less = record { held = rest.held; as_open = rest.as_open; stays_sure = rest.stays_sure; counted = λ base. count_less n base (failures a) (failures b) less }

  pub sink_more : (n : ℕ) {a b : S} → LeavesSink stored is_open sure a b → IsRaised (failures a) (failures b) → LeavesCopies stored is_open failures sure n (n + 1) a b
  sink_more n {a} {b} rest raised = record { held = rest.held; as_open = rest.as_open; stays_sure = rest.stays_sure; counted = λ base. count_more n base (failures a) (failures b) raised }

  pub sink_failed : {F : Type 0} {a b : S} → LeavesSink stored is_open sure a b → failures b ≡ failures a → F → TakesCopiesBack stored is_open failures sure 1 F a b
  sink_failed {F} {a} {b} rest same failed = record { held = rest.held; as_open = rest.as_open; stays_sure = rest.stays_sure; counted = λ base. count_failed base (failures a) (failures b) same failed }

  pub sink_none_back : {F : Type 0} (n : ℕ) {a b : S} → LeavesCopies stored is_open failures sure n 0 a b → ¬ F → TakesCopiesBack stored is_open failures sure n F a b
  sink_none_back n {a} {b} left not = record { held = left.held; as_open = left.as_open; stays_sure = left.stays_sure; counted = λ base out. count_none base (failures b) not (left.counted base out) }

  pub sink_back : {F : Type 0} (m n : ℕ) {a b c : S} → LeavesCopies stored is_open failures sure m n a b → TakesCopiesBack stored is_open failures sure n F b c → TakesCopiesBack stored is_open failures sure m F a c
  sink_back m n p q = record {
    held = q.held ∙ p.held;
    as_open = q.as_open ∙ p.as_open;
    stays_sure = λ s. q.stays_sure (p.stays_sure s);
    counted = λ base out. q.counted base (p.counted base out);
  }
