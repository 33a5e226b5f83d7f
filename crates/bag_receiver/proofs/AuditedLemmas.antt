-- Payload files that were read again, while some of them are held.
use Rattle.std.proofs.Common.{◌≡◌, ◌∙◌, ◌↔◌, ◌||◌, ◌+◌, ◌<◌, ◌++◌, ◌∷◌, [], zero, suc, ℕ, All, Bool, List, Option, None, Some, MatchResult, IsTrue, Result, Vec, ap, append-nil, append_assoc, arith, drop, get_or, is_ok, length, map, refl, slice_get, subst, sym}
use Rattle.std.proofs.lemmas.Option.{slice_get_read}
use Rattle.std.specs.declared.alloc.Global.{Global}
use Rattle.bag_digest.proofs.EachLemmas.{at_last}
use Rattle.bag_digest.specs.Algorithm.{has}
use Rattle.bag_digest.specs.ShortContents.{AddsContent, AreSumsOfEach, WantsAlso}
use Rattle.bag_digest.specs.declared.algorithm.AlgSet.{AlgSet}
use Rattle.bag_digest.specs.declared.short_contents.ShortContents.{ShortContents}
use Rattle.bag_digest.specs.declared.sums.Sums.{Sums}
use Rattle.bag_rules.proofs.BatchLemmas.{or_left, or_right}
use Rattle.bag_rules.proofs.PassingLemmas.{wanted_passes}
use Rattle.bag_rules.proofs.WantedLemmas.{told_wanted}
use Rattle.bag_rules.specs.Plans.{item_paths}
use Rattle.bag_rules.specs.Wants.{AreSumsFor, CoversWant, IsFirstMisfitOf, lists_by}
use Rattle.bag_rules.specs.declared.plan.ItemSize.{ItemSize}
use Rattle.bag_receiver.specs.Auditeds.{AreSound, AreWhole}
use Rattle.bag_receiver.specs.AuditsInside.{IsKnownOf}
use Rattle.bag_receiver.specs.Holdings.{AreValidSizes, SomePass}
use Rattle.bag_receiver.specs.declared.audit.Audited.{Audited}
use Rattle.bag_receiver.specs.declared.audit.Untested.{Untested}
use Rattle.bag_receiver.proofs.ValidSizes.{comes_among}
use Rattle.bag_receiver.proofs.Words.{Alg, AreRising, Files, IsWanted, map-append, WantFault}
use Rattle.bag_digest.proofs.ListLemmas.{stands}

abbrev size_of : Untested → ItemSize
size_of known = known.size

-- the next element, and those after it
next_suc : {X : Type 0} (xs : List X) (i : ℕ) (x : X) (rest : List X) → drop i xs ≡ x ∷ rest → (slice_get xs i ≡ Some x) × (drop (suc i) xs ≡ rest) × (i < length xs)
next_suc [] zero x rest e = absurd (cc)
next_suc [] (suc i) x rest e = absurd (cc)
next_suc (y ∷ xs) zero x rest e = (let k : y ≡ x = cc in ap Some k, let k : xs ≡ rest = cc in k, omega arith)
next_suc (y ∷ xs) (suc i) x rest e = let is = next_suc xs i x rest e in (is.0, is.1, omega (arith, is.2))

pub next_at : {X : Type 0} (xs : List X) (i : ℕ) (x : X) (rest : List X) → drop i xs ≡ x ∷ rest → (slice_get xs i ≡ Some x) × (drop (i + 1) xs ≡ rest) × (i < length xs)
next_at xs i x rest e =
    let is = next_suc xs i x rest e in
    let next : i + 1 ≡ suc i = omega arith in
    (is.0, ap (λ n. drop n xs) next ∙ is.1, is.2)

-- what holds of each element holds of one element more
pub all_small : {X : Type 0} (P : X → Type 0) (xs : List X) (x : X) → All P xs → P x → All P (xs ++ x ∷ [])
all_small P [] x all is zero d low = is
all_small P [] x all is (suc k) d low = absurd (omega (arith, low))
all_small P (y ∷ xs) x all is zero d low = all zero d (omega arith)
all_small P (y ∷ xs) x all is (suc k) d low = all_small P xs x (λ n e l. all (suc n) e (omega (arith, l))) is k d (omega (arith, low))

-- none are left
pub none_after : (valid : List ItemSize) (left : List Untested) (sizes : List ItemSize) → length left ≡ 0 → valid ++ map size_of left ≡ sizes → valid ≡ sizes
none_after valid [] sizes none all = sym (append-nil valid) ∙ all
none_after valid (known ∷ left) sizes none all = absurd (omega (arith, none))

pub held_more : (old middle new : ShortContents Untested) (set : AlgSet) (known : Untested) (content : Vec ℕ Global) → WantsAlso set old middle → AddsContent known content middle new
    → new.contents.items ≡ old.contents.items ++ content ∷ []
held_more old middle new set known content wants adds = adds.held_too ∙ ap (λ v. v.items ++ content ∷ []) wants.contents

-- A FILE THAT IS HELD

-- the file at a place among those that are held, whose sums were taken
pub record IsAt (audited : Audited) (place : ℕ) (known : Untested) (rest : List Untested) (sums : Sums) : Type 0 where
  pub here : drop place audited.held.known.items ≡ known ∷ rest
  pub next : drop (place + 1) audited.held.known.items ≡ rest
  pub low : place < length audited.held.known.items
  pub known_at : slice_get audited.held.known.items place ≡ Some known
  pub content : Vec ℕ Global
  pub content_at : slice_get audited.held.contents.items place ≡ Some content
  pub are_for : (tags : Files) → AreSound tags audited → AreSumsFor known.want content.items sums

pub is_at : (audited : Audited) (each : List Sums) (place : ℕ) (known : Untested) (rest left : List Untested) (sums : Sums) → left ≡ drop place audited.held.known.items → left ≡ known ∷ rest
    → AreSumsOfEach audited.held.set audited.held.contents.items each → sums ≡ get_or each place sums → IsAt audited place known rest sums
is_at audited each place known rest left sums left_is steps taken is =
    let here = sym left_is ∙ steps in
    let (known_at, next, low) = next_at audited.held.known.items place known rest here in
    let contents_low : place < length audited.held.contents.items = omega (arith, low, audited.held.paired, audited.held.known.ok.0, audited.held.contents.ok.0) in
    let (content, content_at) = stands audited.held.contents.items place contents_low in
    record {
      here = here;
      next = next;
      low = low;
      known_at = known_at;
      content = content;
      content_at = content_at;
      are_for = λ tags sound. record {
        set = audited.held.set;
        are_sums = taken.sums place content sums content_at (slice_get_read each (length each) place sums refl (omega (arith, contents_low, taken.count)) is);
        covers = sound.covered place known known_at;
      };
    }

module _ (audited : Audited) (place : ℕ) (known : Untested) (rest : List Untested) (sums : Sums) (at : IsAt audited place known rest sums) where
  module _ (result : Result Unit WantFault) (told : Bool) (told_is : told ≡ is_ok result)
      (test : (octets : List ℕ) → AreSumsFor known.want octets sums → MatchResult result (λ done. IsWanted known.want octets) (IsFirstMisfitOf known.want octets)) where
    told_by : (tags : Files) → AreSound tags audited → IsTrue told ↔ IsWanted known.want at.content.items
    told_by tags sound = told_wanted known.want at.content.items result told told_is (test at.content.items (at.are_for tags sound))

    -- it is valid if it was found so
    pub some_passes : (tags : Files) → AreSound tags audited → IsTrue told → SomePass tags known.size.path known.size.octets
    some_passes tags sound so =
        let is = sound.known place known at.content at.known_at at.content_at in
        (at.content.items, is.sized, wanted_passes tags known.size.path at.content.items known.want is.want_of is.within ((told_by tags sound).0 so))

    -- it is found so if it is one of those that are valid
    pub is_told : (tags : Files) (sizes : List ItemSize) → AreSound tags audited → AreWhole sizes audited → IsTrue told
    is_told tags sizes sound whole = (told_by tags sound).1 (whole.wanted place known at.content at.known_at at.content_at)

  pub rising_next : (valid sizes : List ItemSize) → valid ++ map size_of (drop place audited.held.known.items) ≡ sizes → AreRising (item_paths sizes) → AreRising (item_paths (valid ++ known.size ∷ []))
  rising_next valid sizes all rising = comes_among valid known.size (map size_of rest) sizes (ap (λ list. valid ++ map size_of list) (sym at.here) ∙ all) rising

  pub whole_next : (valid more sizes : List ItemSize) → more ≡ valid ++ known.size ∷ [] → valid ++ map size_of (drop place audited.held.known.items) ≡ sizes
      → more ++ map size_of (drop (place + 1) audited.held.known.items) ≡ sizes
  whole_next valid more sizes pushed all =
      (λ t. pushed t ++ map size_of (at.next t)) ∙ append_assoc valid (known.size ∷ []) (map size_of rest) ∙ ap (λ list. valid ++ map size_of list) (sym at.here) ∙ all

-- ONE FILE MORE

module _ (old new : Audited) (known : Untested) (content : Vec ℕ Global) (middle : ShortContents Untested) (set : AlgSet)
    (algs : (alg : Alg) → has set alg ≡ lists_by known.want.manifests.now known.want.path.now alg)
    (wants : WantsAlso set old.held middle) (adds : AddsContent known content middle new.held) (same : new.valid ≡ old.valid) where
  knowns : new.held.known.items ≡ old.held.known.items ++ known ∷ []
  knowns = adds.known_too ∙ ap (λ v. v.items ++ known ∷ []) wants.known

  contents : new.held.contents.items ≡ old.held.contents.items ++ content ∷ []
  contents = held_more old.held middle new.held set known content wants adds

  joined : (alg : Alg) → has new.held.set alg ≡ (has old.held.set alg || has set alg)
  joined alg = ap (λ s. has s alg) adds.same_algs ∙ wants.algs alg

  -- what holds of each file that is held, and of the new one
  both : (P : Untested → Vec ℕ Global → Type 0)
      → ((i : ℕ) (k : Untested) (c : Vec ℕ Global) → slice_get old.held.known.items i ≡ Some k → slice_get old.held.contents.items i ≡ Some c → P k c) → P known content
      → (i : ℕ) (k : Untested) (c : Vec ℕ Global) → slice_get new.held.known.items i ≡ Some k → slice_get new.held.contents.items i ≡ Some c → P k c
  both P before last i k c at_k at_c = pairs old.held.known.items old.held.contents.items
      (omega (arith, old.held.paired, old.held.known.ok.0, old.held.contents.ok.0)) before i k c (ap (λ xs. slice_get xs i) (sym knowns) ∙ at_k) (ap (λ xs. slice_get xs i) (sym contents) ∙ at_c) where
        pairs : (ks : List Untested) (cs : List (Vec ℕ Global)) → length ks ≡ length cs
            → ((i : ℕ) (k : Untested) (c : Vec ℕ Global) → slice_get ks i ≡ Some k → slice_get cs i ≡ Some c → P k c)
            → (i : ℕ) (k : Untested) (c : Vec ℕ Global) → slice_get (ks ++ known ∷ []) i ≡ Some k → slice_get (cs ++ content ∷ []) i ≡ Some c → P k c
        pairs [] [] count before zero k c at_k at_c = (let ek : known ≡ k = cc in let ec : content ≡ c = cc in subst (λ x. P x c) ek (subst (P known) ec last))
        pairs [] [] count before (suc i) k c at_k at_c = absurd (let e : ◌≡◌ {A = Option Untested} None (Some k) = at_k in cc)
        pairs [] (x ∷ cs) count before i k c at_k at_c = absurd (omega (arith, count))
        pairs (x ∷ ks) [] count before i k c at_k at_c = absurd (omega (arith, count))
        pairs (x ∷ ks) (y ∷ cs) count before zero k c at_k at_c = before zero k c at_k at_c
        pairs (x ∷ ks) (y ∷ cs) count before (suc i) k c at_k at_c = pairs ks cs (omega (arith, count)) (λ n. before (suc n)) i k c at_k at_c

  pub sound_more : (tags : Files) → AreSound tags old → IsKnownOf tags known content.items → AreSound tags new
  sound_more tags sound is = record {
    valid = subst (λ v. AreValidSizes tags v.items) (sym same) sound.valid;
    known = both (λ k c. IsKnownOf tags k c.items) sound.known is;
    covered = λ i k at. at_last old.held.known.items known (λ n k. CoversWant new.held.set k.want)
        (λ n k there alg listed. joined alg ∙ or_left (has old.held.set alg) (has set alg) (sound.covered n k there alg listed))
        (λ alg listed. joined alg ∙ or_right (has old.held.set alg) (has set alg) (algs alg ∙ listed))
        i k (ap (λ xs. slice_get xs i) (sym knowns) ∙ at);
  }

  pub whole_more : (sizes : List ItemSize) → AreWhole sizes old → IsWanted known.want content.items → AreWhole (sizes ++ known.size ∷ []) new
  whole_more sizes whole wanted = record {
    all = (λ t. (same t).items ++ map size_of (knowns t)) ∙ ap (λ list. old.valid.items ++ list) (map-append size_of old.held.known.items (known ∷ []))
        ∙ sym (append_assoc old.valid.items (map size_of old.held.known.items) (known.size ∷ [])) ∙ ap (λ list. list ++ known.size ∷ []) whole.all;
    wanted = both (λ k c. IsWanted k.want c.items) whole.wanted wanted;
  }
