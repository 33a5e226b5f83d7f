-- Files of a tree that are out, and the count that they have raised.
use Rattle.std.proofs.Common.{◌≡◌, ◌∙◌, ◌+◌, ◌-◌, ◌<◌, ◌++◌, ◌∷◌, [], ℕ, List, Option, Some, Result, Err, MatchResult, ap, arith, inl, inr, length, length-append, refl, slice_get, subst, sym, take}
use Rattle.std.specs.Prelude.{option_to_list}
use Rattle.std.proofs.lemmas.List.{length-take-le}
use Rattle.bag_digest.specs.declared.reading.SourceFault.{SourceFault}
use Rattle.bag_digest.specs.declared.reading.SourceFault.TheVariants.{Read, TooLarge}
use Rattle.bag_digest.specs.Failures.{IsRaised}
use Rattle.bag_rules.specs.declared.batch_reading.FrontFault.{FrontFault}
use Rattle.bag_rules.specs.declared.batch_reading.FrontFault.TheVariants.{Memory}
use Rattle.bag_rules.specs.BatchReading.{files_with}
use Rattle.bag_rules.specs.OpenTrees.{IsBehind}
use Rattle.bag_rules.specs.Returning.{AreOut, IsStopped, LeavesOut, TakesAllBack}
use Rattle.bag_rules.proofs.FileReadLemmas.{push_at, push_before}
use Rattle.bag_rules.proofs.FirstFiles.{in_front}
use Rattle.bag_rules.proofs.Words.{KeepsTree, Shown, slice_get_within, UsesTree}

module _ {T : Type 0} {shown : T → Shown} {sure : T → Type 0} where
  pub keeps_on : {a b c : T} → KeepsTree shown sure a b → KeepsTree shown sure b c → KeepsTree shown sure a c
  keeps_on p q = record { same = q.same ∙ p.same; stays_sure = λ s. q.stays_sure (p.stays_sure s) }

  pub keeps_same : {a : T} → KeepsTree shown sure a a
  keeps_same = record { same = refl; stays_sure = λ s. s }

module _ {T : Type 0} {shown : T → Shown} {failures : T → ℕ} {sure : T → Type 0} where
  -- nothing was given out, one file was, or one was taken back
  pub leaves_same : (n : ℕ) {a b : T} → KeepsTree shown sure a b → failures b ≡ failures a → LeavesOut shown failures sure n n a b
  leaves_same n {a} {b} kept same = record {
    kept = kept;
    counted = λ base out. subst (AreOut base n) (sym same) out;
  }

  pub leaves_more : (n : ℕ) {a b : T} → KeepsTree shown sure a b → IsRaised (failures a) (failures b) → LeavesOut shown failures sure n (n + 1) a b
  leaves_more n kept raised = record {
    kept = kept;
    counted = λ base out. (omega (arith, raised.0, out.0), λ some. raised.1);
  }

  pub leaves_less : (n : ℕ) {a b : T} → KeepsTree shown sure a b → failures b ≡ failures a - 1 → LeavesOut shown failures sure (n + 1) n a b
  leaves_less n kept less = record {
    kept = kept;
    counted = λ base out. (omega (arith, less, out.0), λ some. let most = out.1 (omega arith) in omega (arith, less, most));
  }

  -- a call that gave out what comes with its fault, or that ran out of memory
  pub leaves_error : {F X : Type 0} (n : ℕ) {a b : T} (r : Result X (FrontFault F)) (done : X → Type 0) (fault told : FrontFault F) → r ≡ Err told → told ≡ fault → LeavesOut shown failures sure n (n + files_with fault) a b
      → MatchResult r done (λ other. LeavesOut shown failures sure n (n + files_with other) a b)
  leaves_error n r done fault told is same left = rw is (rw same left)

  pub leaves_memory : {F X : Type 0} (n : ℕ) {a b : T} (r : Result X (FrontFault F)) (done : X → Type 0) (told : FrontFault F) → r ≡ Err told → told ≡ Memory → LeavesOut shown failures sure n n a b
      → MatchResult r done (λ other. LeavesOut shown failures sure n (n + files_with other) a b)
  leaves_memory n {a} {b} r done told is same left = rw is (rw same (subst (λ m. LeavesOut shown failures sure n m a b) (let e : n ≡ n + 0 = omega arith in e) left))

  -- one call after another
  pub leaves_on : (l m n : ℕ) {a b c : T} → LeavesOut shown failures sure l m a b → LeavesOut shown failures sure m n b c → LeavesOut shown failures sure l n a c
  leaves_on l m n p q = record {
    kept = keeps_on p.kept q.kept;
    counted = λ base out. q.counted base (p.counted base out);
  }

  -- one file fewer
  pub leaves_last : (l m n : ℕ) {a b c : T} → m ≡ n + 1 → LeavesOut shown failures sure l m a b → KeepsTree shown sure b c → failures c ≡ failures b - 1 → LeavesOut shown failures sure l n a c
  leaves_last l m n more p kept less = record {
    kept = keeps_on p.kept kept;
    counted = λ base out. let mid = p.counted base out in (
      omega (arith, less, mid.0, more),
      λ some. let most = mid.1 (omega (arith, more)) in omega (arith, less, most),
    );
  }

  -- the last file was taken back, as the failure of the tree or because it didn't fail
  pub back_failed : {F : Type 0} {a b : T} → KeepsTree shown sure a b → failures b ≡ failures a → F → TakesAllBack shown failures sure 1 F a b
  back_failed kept same failed = record {
    kept = kept;
    counted = λ base out. record {
      rises = λ f. let most = out.1 (omega arith) in omega (arith, same, out.0, most);
      stays = λ not. absurd (not failed);
    };
  }

  pub back_none : {F : Type 0} (n : ℕ) {a b : T} → LeavesOut shown failures sure n 0 a b → ¬ F → TakesAllBack shown failures sure n F a b
  back_none n left not = record {
    kept = left.kept;
    counted = λ base out. record {
      rises = λ f. absurd (not f);
      stays = λ no. let all = left.counted base out in omega (arith, all.0);
    };
  }

  pub back_on : {F : Type 0} (m n : ℕ) {a b c : T} → LeavesOut shown failures sure m n a b → TakesAllBack shown failures sure n F b c → TakesAllBack shown failures sure m F a c
  back_on m n p q = record {
    kept = keeps_on p.kept q.kept;
    counted = λ base out. q.counted base (p.counted base out);
  }

  -- the same for another result
  pub back_so : {F G : Type 0} (n : ℕ) {a b : T} → TakesAllBack shown failures sure n F a b → (F → G) → (G → F) → TakesAllBack shown failures sure n G a b
  back_so n p there back = record {
    kept = p.kept;
    counted = λ base out. let c = p.counted base out in record { rises = λ g. c.rises (back g); stays = λ not. c.stays (λ f. not (there f)) };
  }

  -- what was done to a tree from which no file was out
  pub used_by : {F : Type 0} {a b : T} → TakesAllBack shown failures sure 0 F a b → (sure a → ¬ F) → UsesTree shown failures sure a b F
  used_by {F} {a} p not = record {
    same = p.kept.same;
    counted = p.counted (failures a) (omega arith, λ some. absurd (omega (arith, some)));
    stays_sure = λ s. (p.kept.stays_sure s, not s);
  }

  -- all that were out were taken back, or all but one
  pub all_back : (n m : ℕ) {a b : T} → m ≡ n → ((k : ℕ) → LeavesOut shown failures sure (k + m) k a b) → LeavesOut shown failures sure n 0 a b
  all_back n m {a} {b} same left = subst (λ l. LeavesOut shown failures sure l 0 a b) (let e : 0 + m ≡ n = omega (arith, same) in e) (left 0)

  pub more_back : (n m : ℕ) {a b : T} → m ≡ n → ((k : ℕ) → LeavesOut shown failures sure (k + m) k a b) → LeavesOut shown failures sure (n + 1) 1 a b
  more_back n m {a} {b} same left = subst (λ l. LeavesOut shown failures sure l 1 a b) (let e : 1 + m ≡ n + 1 = omega (arith, same) in e) (left 1)

  pub none_out : {a : T} → LeavesOut shown failures sure 0 0 a a
  none_out = leaves_same 0 keeps_same refl

-- THE LAST OF SOME FILES

-- all but the last, which was taken away
module _ {X : Type 0} (xs ys : List X) (last : Option X) (all : xs ≡ ys ++ option_to_list last) where
  pub last_count : (x : X) → last ≡ Some x → length xs ≡ length ys + 1
  last_count x is = ap length (all ∙ ap (λ (o : Option X). ys ++ option_to_list o) is) ∙ length-append ys (x ∷ [])

  pub last_at : (x : X) → last ≡ Some x → slice_get xs (length ys) ≡ Some x
  last_at x is = ap (λ zs. slice_get zs (length ys)) (all ∙ ap (λ (o : Option X). ys ++ option_to_list o) is) ∙ push_at ys x

  pub rest_at : (x : X) → last ≡ Some x → (k : ℕ) (y : X) → slice_get ys k ≡ Some y → slice_get xs k ≡ Some y
  rest_at x is k y at = ap (λ zs. slice_get zs k) (all ∙ ap (λ (o : Option X). ys ++ option_to_list o) is) ∙ push_before ys x k (slice_get_within ys k y at) ∙ at

-- the last of the first ones
module _ {X : Type 0} (xs ys zs : List X) (n : ℕ) (last : Option X) (inside : n < length xs) (front : ys ≡ take (n + 1) xs) (all : ys ≡ zs ++ option_to_list last) where
  front_count : length ys ≡ n + 1
  front_count = ap length front ∙ length-take-le (n + 1) xs (omega (arith, inside))

  pub some_left : (count : ℕ) → count ≡ length ys → count ≡ 0 → ⊥
  some_left count is none = omega (arith, front_count, is, none)

  module _ (x : X) (is : last ≡ Some x) where
    pub rest_count : length zs ≡ n
    rest_count = omega (arith, front_count, last_count ys zs last all x is)

    pub last_there : slice_get xs n ≡ Some x
    last_there = (in_front xs (n + 1) n x (subst (λ ls. slice_get ls n ≡ Some x) front (subst (λ k. slice_get ys k ≡ Some x) rest_count (last_at ys zs last all x is)))).1

    pub rest_there : (k : ℕ) (y : X) → slice_get zs k ≡ Some y → (k < n) × (slice_get xs k ≡ Some y)
    rest_there k y at = (
      let below = slice_get_within zs k y at in omega (arith, below, rest_count),
      (in_front xs (n + 1) k y (subst (λ ls. slice_get ls k ≡ Some y) front (rest_at ys zs last all x is k y at))).1,
    )

-- BEHIND THE FIRST THAT HAS STOPPED

module _ {F : Type 0} (place : F → ℕ) (failures : F → ℕ) (shown : Shown) where
  pub behind_stopped : (fault : SourceFault) (first file : F) → IsStopped place failures shown fault first → place first < place file → IsBehind place failures shown first file
  behind_stopped Read first file is later = record { later = later; stopped = inl (is.failed refl) }
  behind_stopped TooLarge first file is later = record { later = later; stopped = inr (is.large refl) }
