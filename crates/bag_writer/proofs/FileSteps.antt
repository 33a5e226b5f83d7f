-- One payload file, which is read, and written unless it is a hole.
use Rattle.std.proofs.Common.{◌≡◌, ℕ, Bool, false, List, [], ◌∷◌, ◌++◌, Option, Some, None, Result, Ok, Err, MatchResult, slice_get, take, drop, arith, length-append, refl, sym, ap, ◌∙◌, subst, append-nil, append_assoc}
use Rattle.std.proofs.lemmas.List.{take-append-drop}
use Rattle.std.specs.Io.KnownBytes.{Consumes}
use Rattle.std.specs.Option.{option_and_then, option_map}
use Rattle.bag_rules.proofs.Words.{octets_in, paths_in, same_Some, Shown, slice_get-map}
use Rattle.bag_digest.specs.Reading.{GaveAll}
use Rattle.bag_rules.specs.declared.limits.TheConstants.{LARGEST_FILE}
use Rattle.bag_digest.specs.declared.algorithm.AlgSet.{AlgSet}
use Rattle.bag_digest.specs.declared.reading.SourceRead.{SourceRead}
use Rattle.bag_digest.specs.declared.reading.SourceRead.TheVariants.{Whole, Hashed}
use Rattle.bag_writer.specs.PayloadSteps.{AreOctetsOf, HasFrontFrom, IsCutShort, IsFoundOf, IsReadAs, IsTaken, IsReadUntil, IsReadWhole, IsInBuffer, unless_hole, Writes, WritesFront}
use Rattle.bag_writer.specs.Sinks.{StaysOrIsLost, Stored, with_begun}
use Rattle.bag_writer.specs.Steps.{ArePart, AreWhole, HasFrontOf}
use Rattle.bag_writer.specs.declared.too_large.Large.{Large}
use Rattle.bag_writer.specs.declared.too_large.Large.TheVariants.{File}
use Rattle.bag_writer.specs.declared.write_fault.WriteFault.{WriteFault}
use Rattle.bag_writer.specs.declared.write_fault.WriteFault.TheVariants.{TooLarge}
use Rattle.bag_writer.specs.declared.payload.CopyFault.{CopyFault}
use Rattle.bag_writer.specs.declared.payload.CopyFault.TheVariants as copy
use Rattle.bag_writer.proofs.StepLemmas.{begun_empty, begun_front, begun_lost, begun_more, front_part, HasBegun, part_none, part_whole}
use Rattle.bag_digest.proofs.StreamLemmas.{consumes_none}

-- A FILE THAT IS BEGUN

module _ (path octets : List ℕ) {old mid new : Option Stored} (begun : mid ≡ option_map (with_begun path) old) where
  -- some first octets were written
  pub part_begun : WritesFront octets mid new → HasFrontFrom path octets old new
  part_begun (n, written) = λ rest.
      subst (λ list. HasFrontOf (Some (path, list)) old new)
      (sym (append_assoc (take n octets) (drop n octets) rest) ∙ ap (λ list. list ++ rest) (take-append-drop n octets))
      (begun_front (drop n octets ++ rest) (begun_more (take n octets) (begun_empty path begun) written))

  -- all were written
  all_begun : Writes octets mid new → HasBegun path octets old new
  all_begun written = begun_more octets (begun_empty path begun) written

  -- all were written, and the file couldn't be ended
  pub not_ended : {end : Option Stored} → Writes octets mid new → StaysOrIsLost new end → HasFrontFrom path octets old end
  not_ended {end} written lost = λ rest. begun_lost rest (all_begun written) lost

-- what was read whole was read until the sink failed
pub until_sink : {set : AlgSet} {source left : Option (List ℕ)} {buffer : List ℕ} {found : SourceRead} {octets : List ℕ} → IsReadWhole set source left buffer found octets → IsReadUntil source left copy.Sink octets
until_sink whole = record { gave = whole.gave.gave; long = λ e. cc }

-- nothing was read until a fault
pub none_until : (source : Option (List ℕ)) (fault : CopyFault) → ¬ (fault ≡ copy.TooLarge) → IsReadUntil source source fault []
none_until source fault other = record { gave = consumes_none source; long = λ e. absurd (other e) }

-- a file that isn't a hole is processed if it is copied
pub taken_as_file : (set : AlgSet) (source left : Option (List ℕ)) (path octets : List ℕ) (old new : Option Stored) (buffer : List ℕ) (is_hole : Bool) → is_hole ≡ false → (result : Result SourceRead CopyFault)
    → MatchResult result (λ found. IsReadWhole set source left buffer found octets × AreWhole ((path, octets) ∷ []) old new) (λ fault. IsReadUntil source left fault octets × HasFrontFrom path octets old new)
    → MatchResult result (λ found. IsReadWhole set source left buffer found octets × AreWhole (unless_hole is_hole (path, octets)) old new) (λ fault. IsReadUntil source left fault octets × ((rest : List ℕ) → ArePart (unless_hole is_hole (path, octets ++ rest)) old new))
taken_as_file set source left path octets old new buffer is_hole e (Ok found) copied = rw e copied
taken_as_file set source left path octets old new buffer is_hole e (Err fault) copied = rw e (copied.0, λ rest. front_part (path, octets ++ rest) [] old new (copied.1 rest))

-- A FILE OF A TREE

-- octets that were given begin those that are known; if all were given, they are the same
pub some_octets : (known left : Option (List ℕ)) (given : List ℕ) → Consumes known left given → (rest : List ℕ) × AreOctetsOf known (given ++ rest)
some_octets None left given gave = ([], tt)
some_octets (Some known) None given gave = absurd gave
some_octets (Some known) (Some rest) given gave = (rest, sym gave)

pub all_octets : (known left : Option (List ℕ)) (limit : ℕ) (given : List ℕ) → GaveAll known left limit given → AreOctetsOf known given
all_octets None left limit given gave = tt
all_octets (Some known) None limit given gave = absurd gave.gave
all_octets (Some known) (Some rest) limit given gave = sym (gave.gave ∙ ap (λ end. given ++ end) gave.none_left ∙ append-nil given)

-- octets of a file of which none were read
pub octets_unread : (known : Option (List ℕ)) → (octets : List ℕ) × AreOctetsOf known octets
octets_unread None = ([], tt)
octets_unread (Some known) = (known, refl)

-- a file that wasn't read, for another reason than that it is too large
pub cut_unread : (is_hole : Bool) (shown : List ℕ × Option (List ℕ)) (s : Option Stored) (fault : WriteFault) → ((large : Large) → ¬ (fault ≡ TooLarge large)) → (file : List ℕ × List ℕ) × IsReadAs shown file × IsCutShort is_hole file s s fault
cut_unread is_hole shown s fault other =
    let some = octets_unread shown.1 in
    ((shown.0, some.0), (refl, some.1), record { long = λ large e. absurd (other large e); written = part_none (unless_hole is_hole (shown.0, some.0)) s })

module _ (is_hole : Bool) (set : AlgSet) (shown : List ℕ × Option (List ℕ)) (path octets : List ℕ) (source left : Option (List ℕ)) (old new : Option Stored) (named : path ≡ shown.0) (started : source ≡ shown.1) where
  -- a file that was read until a fault
  pub cut_short : (fault : CopyFault) (told : WriteFault) → ((large : Large) → told ≡ TooLarge large → (large ≡ File path) × (fault ≡ copy.TooLarge)) → IsReadUntil source left fault octets → ((rest : List ℕ) → ArePart (unless_hole is_hole (path, octets ++ rest)) old new) → (file : List ℕ × List ℕ) × IsReadAs shown file × IsCutShort is_hole file old new told
  cut_short fault told names until part =
      let some = some_octets shown.1 left octets (subst (λ s. Consumes s left octets) started until.gave) in (
        (path, octets ++ some.0),
        (named, some.1),
        record {
          long = λ large e. let it = names large e in let k = until.long it.1 in (it.0, omega (arith, k, length-append octets some.0));
          written = part some.0;
        },
      )

  -- a file that was read whole
  pub taken_whole : (buffer : List ℕ) (found : SourceRead) → IsReadWhole set source left buffer found octets → AreWhole (unless_hole is_hole (path, octets)) old new
      → (file : List ℕ × List ℕ) × IsReadAs shown file × IsTaken set is_hole file old new buffer (path, found)
  taken_whole buffer found whole written = (
    (path, octets),
    (named, all_octets shown.1 left LARGEST_FILE octets (subst (λ s. GaveAll s left LARGEST_FILE octets) started whole.gave)),
    record { path_is = refl; found_is = whole.found_is; within = whole.gave.within; written = written },
  )

-- what was found of octets is within the buffer, if it is there
pub within_of : (set : AlgSet) (buffer : List ℕ) (found : SourceRead) (octets : List ℕ) → IsFoundOf set buffer found octets → IsInBuffer buffer found
within_of set buffer (Whole n) octets is = is.0
within_of set buffer (Hashed sums) octets is = tt

-- a file that was written, after which there was another fault than that it is too large
pub cut_after : (set : AlgSet) (is_hole : Bool) (file : List ℕ × List ℕ) (old new : Option Stored) (buffer : List ℕ) (found : List ℕ × SourceRead) (fault : WriteFault) → IsTaken set is_hole file old new buffer found → ((large : Large) → ¬ (fault ≡ TooLarge large)) → IsCutShort is_hole file old new fault
cut_after set is_hole file old new buffer found fault taken other = record {
  long = λ large e. absurd (other large e);
  written = subst (λ list. ArePart list old new) (append-nil (unless_hole is_hole file)) (part_whole (unless_hole is_hole file) [] old new taken.written);
}

-- what a tree shows of the file at a place
module _ (tree : Shown) (i : ℕ) (shown : List ℕ × Option (List ℕ)) (here : slice_get tree.files i ≡ Some shown) where
  pub path_here : slice_get (paths_in tree) i ≡ Some shown.0
  path_here = slice_get-map (λ (file : List ℕ × Option (List ℕ)). file.0) tree.files i ∙ ap (option_map (λ (file : List ℕ × Option (List ℕ)). file.0)) here

  pub octets_here : octets_in tree i ≡ shown.1
  octets_here = ap (option_and_then (λ (file : List ℕ × Option (List ℕ)). file.1)) here

  pub named_here : (path : List ℕ) → slice_get (paths_in tree) i ≡ Some path → path ≡ shown.0
  named_here path e = same_Some path shown.0 (sym e ∙ path_here)
