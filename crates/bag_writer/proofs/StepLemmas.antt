-- Files that are written one after another, and what a sink holds after them.
use Rattle.std.proofs.Common.{◌≡◌, ◌<◌, ◌≤◌, ◌+◌, ℕ, zero, suc, List, [], ◌∷◌, ◌++◌, Option, Some, None, length, take, slice_get, Contains, refl, sym, ap, ◌∙◌, subst, inl, inr, arith}
use Rattle.std.proofs.Math.Seq.{take-append-add, take-append_seam}
use Rattle.std.proofs.lemmas.List.{take-append-le, take_all}
use Rattle.std.proofs.lemmas.List.Sums.{fold-append}
use Rattle.bag_rules.proofs.Words.{cases_lt}
use Rattle.std.proofs.lemmas.List.Elements.{All-contains, All-contains_itself, All-head, All-nil, All-tail, All-weaker}
use Rattle.std.proofs.lemmas.Map.Views.{All-keys-insert_entry}
use Rattle.std.proofs.lemmas.Option.{slice_get_past}
use Rattle.std.specs.Cmp.Lexicographic.{slice_cmp}
use Rattle.std.specs.List.{All}
use Rattle.std.specs.Map.{keys_of}
use Rattle.std.specs.Ordering.{nat_cmp}
use Rattle.std.specs.Option.{option_map}
use Rattle.bag_rules.specs.Bags.{paths_of}
use Rattle.bag_rules.specs.Files.{Files}
use Rattle.bag_writer.specs.Sinks.{IsFree, StaysOrIsLost, Stored, with_begun, with_ended, with_octets, without_begun}
use Rattle.bag_writer.specs.Steps.{ArePart, AreWhole, HasFrontOf, HasNoFile, with_whole, with_wholes}

abbrev File : Type 0
File = List ℕ × List ℕ

-- ONE FILE

-- a file was begun, and these octets of it were written
abbrev pub with_front : List ℕ → List ℕ → Stored → Stored
with_front path octets stored = with_octets octets (with_begun path stored)

-- A file was begun and these octets of it were written, if it is known what the sink holds.
pub record HasBegun (path octets : List ℕ) (old new : Option Stored) : Type 0 where
  pub front : new ≡ option_map (with_front path octets) old

twice : (f g : Stored → Stored) (o : Option Stored) → option_map g (option_map f o) ≡ option_map (λ s. g (f s)) o
twice f g None = refl
twice f g (Some stored) = refl

itself : (o : Option Stored) → option_map (λ s. s) o ≡ o
itself None = refl
itself (Some stored) = refl

-- the file was begun and is empty
pub begun_empty : {old new : Option Stored} (path : List ℕ) → new ≡ option_map (with_begun path) old → HasBegun path [] old new
begun_empty path e = record { front = e }

-- more octets after those that were written
pub begun_more : {old mid new : Option Stored} {path octets : List ℕ} (more : List ℕ) → HasBegun path octets old mid → new ≡ option_map (with_octets more) mid → HasBegun path (octets ++ more) old new
begun_more {old} {mid} {new} {path} {octets} more begun e = record {
  front = e ∙ ap (option_map (with_octets more)) begun.front ∙ twice (with_front path octets) (with_octets more) old;
}

-- the file was ended and is whole
pub begun_ended : {old mid new : Option Stored} {path octets : List ℕ} → HasBegun path octets old mid → new ≡ option_map with_ended mid → AreWhole ((path, octets) ∷ []) old new
begun_ended {old} {mid} {new} {path} {octets} begun e =
    e ∙ ap (option_map with_ended) begun.front ∙ twice (with_front path octets) with_ended old

-- octets that were written are a front of the file, whatever comes after them
pub begun_front : {old new : Option Stored} {path octets : List ℕ} (rest : List ℕ) → HasBegun path octets old new → HasFrontOf (Some (path, octets ++ rest)) old new
begun_front {old} {new} {path} {octets} rest begun = inr (inl (
  length octets,
  subst (λ front. new ≡ option_map (with_front path front) old) (sym (take-append_seam octets rest)) begun.front,
))

-- if it couldn't be ended, it still is begun or is lost
pub begun_lost : {old mid new : Option Stored} {path octets : List ℕ} (rest : List ℕ) → HasBegun path octets old mid → StaysOrIsLost mid new → HasFrontOf (Some (path, octets ++ rest)) old new
begun_lost {old} {mid} {new} {path} {octets} rest begun (inl stays) = begun_front rest (record { front = stays ∙ begun.front })
begun_lost {old} {mid} {new} {path} {octets} rest begun (inr lost) =
    inr (inr (lost ∙ ap (option_map without_begun) begun.front ∙ twice (with_front path octets) without_begun old))

-- WHOLE FILES

pub whole_none : (s : Option Stored) → AreWhole [] s s
whole_none s = sym (itself s)

pub whole_on : (files more : Files) (a b c : Option Stored) → AreWhole files a b → AreWhole more b c → AreWhole (files ++ more) a c
whole_on files more a b c first second =
    second ∙ ap (option_map (with_wholes more)) first ∙ twice (with_wholes files) (with_wholes more) a
    ∙ ap (λ f. option_map f a) (λ t stored. sym (fold-append with_whole stored files more) t)

-- PART OF THE FILES

-- nothing of the next file is there
pub front_none : (file : Option File) (old new : Option Stored) → new ≡ old → HasFrontOf file old new
front_none None old new e = e
front_none (Some file) old new e = inl e

-- what a front leaves of the first file
pub front_part : (file : File) (rest : Files) (old new : Option Stored) → HasFrontOf (Some file) old new → ArePart (file ∷ rest) old new
front_part file rest old new front = (0, subst (λ s. HasFrontOf (Some file) s new) (whole_none old) front)

pub get_before : {X : Type 0} (xs ys : List X) (i : ℕ) → i < length xs → slice_get (xs ++ ys) i ≡ slice_get xs i
get_before [] ys i h = absurd (omega (arith, h))
get_before (x ∷ xs) ys zero h = refl
get_before (x ∷ xs) ys (suc i) h = get_before xs ys i (omega (arith, h))

get_after : {X : Type 0} (xs ys : List X) (i : ℕ) → slice_get (xs ++ ys) (length xs + i) ≡ slice_get ys i
get_after [] ys i = ap (slice_get ys) (omega arith)
get_after (x ∷ xs) ys i = let e : suc (length xs) + i ≡ suc (length xs + i) = omega arith in ap (slice_get (x ∷ xs ++ ys)) e ∙ get_after xs ys i

-- files that are whole come before
pub part_after : (files more : Files) (a b c : Option Stored) → AreWhole files a b → ArePart more b c → ArePart (files ++ more) a c
part_after files more a b c whole part = (
  length files + part.0,
  subst (λ file. HasFrontOf file (option_map (with_wholes (take (length files + part.0) (files ++ more))) a) c) (sym (get_after files more part.0))
      (subst (λ list. HasFrontOf (slice_get more part.0) (option_map (with_wholes list) a) c) (sym (take-append-add files more part.0))
      (subst (λ s. HasFrontOf (slice_get more part.0) s c) (whole_on files (take part.0 more) a b _ whole refl) part.1)),
)

-- nothing was done, or all was done
pub part_none : (files : Files) (s : Option Stored) → ArePart files s s
part_none files s = (0, front_none (slice_get files 0) _ _ (whole_none s))

pub part_whole : (files more : Files) (old new : Option Stored) → AreWhole files old new → ArePart (files ++ more) old new
part_whole files more old new whole = part_after files more old new new whole (part_none more new)

past_end : (files : Files) (n : ℕ) (old new : Option Stored) → length files ≤ n → HasFrontOf (slice_get files n) (option_map (with_wholes (take n files)) old) new → AreWhole files old new
past_end files n old new past front =
    subst (λ list. new ≡ option_map (with_wholes list) old) (take_all n files past)
    (subst (λ file. HasFrontOf file (option_map (with_wholes (take n files)) old) new) (slice_get_past files n past) front)

-- after the files come others
pub part_more : (files more : Files) (old new : Option Stored) → ArePart files old new → ArePart (files ++ more) old new
part_more files more old new (n, front) = elim (cases_lt n (length files)) [
  | inl below ↦ (
    n,
    subst (λ file. HasFrontOf file (option_map (with_wholes (take n (files ++ more))) old) new) (sym (get_before files more n below))
        (subst (λ list. HasFrontOf (slice_get files n) (option_map (with_wholes list) old) new) (sym (take-append-le n files more (omega (arith, below)))) front),
  )
  | inr past ↦ part_whole files more old new (past_end files n old new past front)
]

-- THE PATHS THAT ARE THERE

-- what holds for the paths that are there and for those that are written holds for all
pub all_paths : (P : List ℕ → Type 0) (files : Files) (stored : Stored) → All P (paths_of stored.bag) → All P (keys_of files) → All P (paths_of (with_wholes files stored).bag)
all_paths P [] stored there more = there
all_paths P (file ∷ files) stored there more =
    all_paths P files (with_whole stored file)
    (All-keys-insert_entry (slice_cmp nat_cmp) file.0 file.1 P stored.bag.files there (All-head P file.0 (keys_of files) more))
    (All-tail P file.0 (keys_of files) more)

pub none_is : (paths : List (List ℕ)) (path : List ℕ) → ¬ Contains paths path → All (λ p. ¬ (p ≡ path)) paths
none_is paths path absent = All-weaker (Contains paths) (λ p. ¬ (p ≡ path)) (λ p here e. absent (subst (Contains paths) e here)) paths (All-contains_itself paths)

free_in : (files : Files) (path : List ℕ) (old : Option Stored) → IsFree old path → ¬ Contains (keys_of files) path → IsFree (option_map (with_wholes files) old) path
free_in files path None free absent stored e = absurd (cc)
free_in files path (Some before) free absent stored e =
    let same : with_wholes files before ≡ stored = cc in
    let all = all_paths (λ p. ¬ (p ≡ path)) files before (none_is (paths_of before.bag) path (free before refl)) (none_is (keys_of files) path absent) in
    λ found. All-contains (λ p. ¬ (p ≡ path)) (paths_of stored.bag) path (subst (λ (s : Stored). All (λ p. ¬ (p ≡ path)) (paths_of s.bag)) same all) found refl

-- a path stays free if none of the files that were written has it
pub free_still : (files : Files) (path : List ℕ) (old new : Option Stored) → IsFree old path → ¬ Contains (keys_of files) path → AreWhole files old new → IsFree new path
free_still files path old new free absent whole = subst (λ s. IsFree s path) (sym whole) (free_in files path old free absent)

-- every path is free if no file is there
pub free_at_first : (known : Option Stored) (path : List ℕ) → HasNoFile known → IsFree known path
free_at_first known path none stored e = λ found. All-contains (λ p. ¬ (p ≡ path)) (paths_of stored.bag) path (subst (λ files. All (λ p. ¬ (p ≡ path)) (keys_of files)) (sym (none stored e)) (All-nil (λ p. ¬ (p ≡ path)))) found refl
