-- Payload files that are tested together, and what is known of the rows that were read before they are tested.
use Rattle.std.proofs.Common.{IfNone, IfSome, MatchOption, None, Option, Some, string_bytes, ◌≡◌, ◌||◌, ◌∙◌, ◌++◌, ◌∷◌, ◌+◌, ◌<◌, ◌≤◌, ◌⊎◌, [], ℕ, ℤ, List, Vec, ap, arith, drop, get_or, inl, inr, length, pos, refl, suc, subst, sym, take, unwrap_or}
use Rattle.bag_sqlite.proofs.Words.{Alg, AlgSet, AllByRecursion, AreCovered, AreSumsFor, AreSumsOfEach, AreWanted, ShortItems, column, CoversWant, Database, drop-cons, Files, Format, Ghosts, Global, has, HasContent, HasDamagedItem, HasMisfit, HasOneMore, Int, IsEmpty, FindsItem, IsWanted, IsWantOf, ItemFails, ItemPasses, items_text, LARGEST_ITEM, or-true, passes_wanted, Row, RowPasses, slice_get_read, String, Sums, Tells, Text, Untested, Want, wanted_passes}
use Rattle.std.proofs.lemmas.Option.{get_or_from_slice_get}
use Rattle.bag_ledger.specs.Findings.{FindsContent}
use Rattle.bag_ledger.specs.declared.finding.Finding.{Finding}
use Rattle.bag_ledger.specs.declared.finding.Finding.TheVariants.{Damaged, Valid}
use Rattle.bag_sqlite.proofs.AdoptingLemmas.{all_more}
use Rattle.bag_sqlite.proofs.RefusingLemmas.{all_at}
use Rattle.bag_digest.proofs.ListLemmas.{stands}

-- WHAT IS WANTED

-- a complete payload file is valid if its content is the one that is wanted, and otherwise it isn't
pub known_by : {S : Type 0} (g : Ghosts S) (db : Database) (format : Format) (tags : Files) (item : ℤ) (path : List ℕ) (size : ℤ) (octets : ℕ) (content : List ℕ) (want : Want) → IsWantOf tags path want → HasContent g db format item content
    → size ≡ pos octets → octets ≤ LARGEST_ITEM → octets ≡ length content → (IsWanted want content → ItemPasses g db format tags item path size) × ((¬ IsWanted want content) → ItemFails g db format tags item path size)
known_by g db format tags item path size octets content want is has same within count = (
  λ wanted. record { content = content; has = has; size_is = same ∙ ap pos count; passes = wanted_passes tags path content want is (omega (arith, within, count)) wanted },
  λ other. inr (inr (octets, same, inr (record { content = content; has = has; size_is = count; other = λ passes. other (passes_wanted tags path content want is passes) }))),
)

-- what is found of the content tells what is found of the payload file
pub found_item : {S : Type 0} (g : Ghosts S) (db : Database) (format : Format) (tags : Files) (item : ℤ) (path : List ℕ) (size : ℤ) (want : Want) (content : List ℕ) (finding : Finding) → want.path.now ≡ path
    → (IsWanted want content → ItemPasses g db format tags item path size) × ((¬ IsWanted want content) → ItemFails g db format tags item path size) → FindsContent want content finding → FindsItem g db format tags item path size finding
found_item g db format tags item path size want content Valid named known wanted = known.0 wanted
found_item g db format tags item path size want content Damaged named known other = known.1 other
found_item g db format tags item path size want content (Untested same octets) named known (is, all) = (
  ap (λ (w : Want). w.path.now) is ∙ named,
  λ wanted. known.0 (subst (λ w. IsWanted w content) is (subst (IsWanted same) all wanted)),
  λ other. known.1 (λ wanted. other (subst (IsWanted same) (sym all) (subst (λ w. IsWanted w content) (sym is) wanted))),
)

-- BATCHES

pub covers_by : (set wanted new : AlgSet) (want : Want) → ((alg : Alg) → has new alg ≡ (has set alg || has wanted alg)) → CoversWant set want ⊎ CoversWant wanted want → CoversWant new want
covers_by set wanted new want joined (inl old) alg listed = joined alg ∙ ap (λ b. b || has wanted alg) (old alg listed)
covers_by set wanted new want joined (inr own) alg listed = joined alg ∙ ap (λ b. has set alg || b) (own alg listed) ∙ or-true (has set alg)

pub covered_more : (set wanted new : AlgSet) (wants : List Want) (want : Want) → ((alg : Alg) → has new alg ≡ (has set alg || has wanted alg)) → AllByRecursion (CoversWant set) wants → CoversWant wanted want → AllByRecursion (CoversWant new) (wants ++ want ∷ [])
covered_more set wanted new [] want joined all own = (covers_by set wanted new want joined (inr own), tt)
covered_more set wanted new (first ∷ wants) want joined all own = (covers_by set wanted new first joined (inl all.0), covered_more set wanted new wants want joined all.1 own)

pub drop_next : {X : Type 0} (xs : List X) (i : ℕ) (x : X) → i < length xs → x ≡ get_or xs i x → drop i xs ≡ x ∷ drop (i + 1) xs
drop_next xs i x low is =
    let next : suc i ≡ i + 1 = omega arith in
    drop-cons xs i x low ∙ ap (λ y. y ∷ drop (suc i) xs) (sym is) ∙ ap (λ n. x ∷ drop n xs) next

-- the file at a place of the batch, whose sums were taken
pub record IsAt (batch : ShortItems) (i : ℕ) (want : Want) (sums : Sums) : Type 0 where
  pub content : Vec ℕ Global
  pub wants : drop i batch.held.known.items ≡ want ∷ drop (i + 1) batch.held.known.items
  pub contents : drop i batch.held.contents.items ≡ content ∷ drop (i + 1) batch.held.contents.items
  pub are_for : AreCovered batch → AreSumsFor want content.items sums

pub is_at : (batch : ShortItems) (each : List Sums) (i : ℕ) (known : List Want) (want : Want) (sums : Sums) → known ≡ batch.held.known.items → i < length known → want ≡ get_or known i want
    → AreSumsOfEach batch.held.set batch.held.contents.items each → sums ≡ get_or each i sums → IsAt batch i want sums
is_at batch each i known want sums same below want_is taken is =
    let low : i < length batch.held.known.items = omega (arith, below, ap length same) in
    let here = want_is ∙ ap (λ wants. get_or wants i want) same in
    let contents_low : i < length batch.held.contents.items = omega (arith, low, batch.held.paired, batch.held.known.ok.0, batch.held.contents.ok.0) in
    let (content, there) = stands batch.held.contents.items i contents_low in
    record {
      content = content;
      wants = drop_next batch.held.known.items i want low here;
      contents = drop_next batch.held.contents.items i content contents_low (sym (get_or_from_slice_get batch.held.contents.items i content content there));
      are_for = λ covered. record {
        set = batch.held.set;
        are_sums = taken.sums i content sums there (slice_get_read each (length each) i sums refl (omega (arith, contents_low, taken.count)) is);
        covers = all_at _ batch.held.known.items i want covered low here;
      };
    }

pub wanted_split : (wants : List Want) (contents : List (Vec ℕ Global)) (want : Want) (content : Vec ℕ Global) → length wants ≡ length contents → AreWanted (wants ++ want ∷ []) (contents ++ content ∷ [])
    → AreWanted wants contents × IsWanted want content.items
wanted_split [] [] want content same all = (tt, all.0)
wanted_split [] (c ∷ cs) want content same all = absurd (omega (arith, same))
wanted_split (w ∷ ws) [] want content same all = absurd (omega (arith, same))
wanted_split (w ∷ ws) (c ∷ cs) want content same all = let rest = wanted_split ws cs want content (omega (arith, same)) all.1 in ((all.0, rest.0), rest.1)

pub misfit_split : (wants : List Want) (contents : List (Vec ℕ Global)) (want : Want) (content : Vec ℕ Global) (path : List ℕ) → length wants ≡ length contents → HasMisfit (wants ++ want ∷ []) (contents ++ content ∷ []) path
    → HasMisfit wants contents path ⊎ (AreWanted wants contents × (¬ IsWanted want content.items) × (want.path.now ≡ path))
misfit_split [] [] want content path same (inl here) = inr (tt, here.0, here.1)
misfit_split [] [] want content path same (inr later) = absurd later.1
misfit_split [] (c ∷ cs) want content path same misfit = absurd (omega (arith, same))
misfit_split (w ∷ ws) [] want content path same misfit = absurd (omega (arith, same))
misfit_split (w ∷ ws) (c ∷ cs) want content path same (inl here) = inl (inl here)
misfit_split (w ∷ ws) (c ∷ cs) want content path same (inr later) = elim (misfit_split ws cs want content path (omega (arith, same)) later.1) [
  | inl before ↦ inl (inr (later.0, before))
  | inr last ↦ inr ((later.0, last.0), last.1, last.2)
]

pub if_none : {A P Q : Type 0} (M : A → Type 0) (o : Option A) → (P → Q) → MatchOption o P M → IfNone o Q
if_none M None f h = f h
if_none M (Some a) f h = tt

pub if_some : {A : Type 0} (P : Type 0) (M N : A → Type 0) (o : Option A) → ((a : A) → M a → N a) → MatchOption o P M → IfSome o N
if_some P M N None f h = tt
if_some P M N (Some a) f h = f a h

-- the path of a file of the batch, or else this one
pub either_path : {P : Type 0} (M N : List ℕ → Type 0) (o : Option (String Global)) (path : String Global) → ((q : List ℕ) → M q → N q) → (P → N (string_bytes path)) → MatchOption o P (λ q. M (string_bytes q)) → N (string_bytes (unwrap_or o path))
either_path M N None path f h is = h is
either_path M N (Some q) path f h is = f (string_bytes q) is

-- ROWS SO FAR

-- the row names this payload file
abbrev pub Shows : Row → ℤ → List ℕ → ℤ → Type 0
Shows row item path size = (column row 0 ≡ Int item) × (column row 1 ≡ Text path) × (column row 2 ≡ Int size)

module _ {S : Type 0} (g : Ghosts S) (db : Database) (format : Format) (tags : Files) (rows : List Row) where
  -- a payload file with this path is the first of these that isn't valid
  abbrev pub IsFirst : List ℕ → Type 0
  IsFirst path = (transfer : ℤ) → Tells g db (items_text format) (Int transfer ∷ []) rows → HasDamagedItem g db format tags transfer path

  -- once the files of the batch are tested, so are the rows before this place
  pub record SoFar (batch : ShortItems) (place : ℕ) : Type 0 where
    pub covered : AreCovered batch
    pub passing : AreWanted batch.held.known.items batch.held.contents.items → AllByRecursion (RowPasses g db format tags) (take place rows)
    pub damaged : (path : List ℕ) → HasMisfit batch.held.known.items batch.held.contents.items path → IsFirst path

  -- the batch is empty
  pub none_left : (batch : ShortItems) (place : ℕ) → IsEmpty batch → AllByRecursion (RowPasses g db format tags) (take place rows) → SoFar batch place
  none_left batch place empty all = record {
    covered = rw empty.0 tt;
    passing = λ _. all;
    damaged = λ path misfit. absurd (rw empty.0 at misfit);
  }

  module _ (place : ℕ) (row : Row) (low : place < length rows) (here : row ≡ get_or rows place row) (item : ℤ) (path : List ℕ) (size : ℤ) (row_is : Shows row item path size) where
    passes_more : AllByRecursion (RowPasses g db format tags) (take place rows) → ItemPasses g db format tags item path size → AllByRecursion (RowPasses g db format tags) (take (place + 1) rows)
    passes_more all passes = all_more (RowPasses g db format tags) rows place row low here all (record { item = item; path = path; size = size; row_is = row_is; passes = passes })

    pub first_at : AllByRecursion (RowPasses g db format tags) (take place rows) → ItemFails g db format tags item path size → IsFirst path
    first_at all fails transfer told = record {
      rows = rows;
      told = told;
      at = place;
      row = row;
      here = slice_get_read rows (length rows) place row refl low here;
      passing = all;
      item = item;
      size = size;
      row_is = row_is;
      fails = fails;
    }

    pub one_passes : (batch : ShortItems) → SoFar batch place → ItemPasses g db format tags item path size → SoFar batch (place + 1)
    one_passes batch so_far passes = record { covered = so_far.covered; passing = λ all. passes_more (so_far.passing all) passes; damaged = so_far.damaged }

    pub one_added : (want : Want) (content : Vec ℕ Global) (old new : ShortItems) → SoFar old place → HasOneMore want content old new → FindsItem g db format tags item path size (Untested want content) → SoFar new (place + 1)
    one_added want content old new so_far adds found =
        let same : length old.held.known.items ≡ length old.held.contents.items = omega (arith, old.held.paired, old.held.known.ok.0, old.held.contents.ok.0) in
        record {
          covered = adds.covered so_far.covered;
          passing = λ all. (let both = wanted_split old.held.known.items old.held.contents.items want content same (rw (adds.wants, adds.contents) at all) in passes_more (so_far.passing both.0) (found.1 both.1));
          damaged = λ named misfit. elim (misfit_split old.held.known.items old.held.contents.items want content named same (rw (adds.wants, adds.contents) at misfit)) [
            | inl before ↦ so_far.damaged named before
            | inr last ↦ subst IsFirst (sym found.0 ∙ last.2) (first_at (so_far.passing last.0) (found.2 last.1))
          ];
        }
