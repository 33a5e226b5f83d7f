-- One more piece of a file that is copied.
use Rattle.std.proofs.Common.{◌≡◌, ◌≢◌, ◌∙◌, ◌-◌, ◌≤◌, ◌<◌, ◌++◌, ℕ, List, Some, Ok, Err, ap, append-nil, arith, length, length-append, refl, slice_get, subst, sym, take}
use Rattle.std.specs.Prelude.{IsErrOf}
use Rattle.std.specs.Io.KnownBytes.{Consumes, IsAtEnd}
use Rattle.std.proofs.KnownBytes.{Consumes-trans}
use Rattle.std.proofs.lemmas.List.{length-take-le}
use Rattle.bag_digest.specs.Failures.{CountsIf, UsesSource}
use Rattle.bag_digest.specs.Reading.{GaveBefore, GavePiece, read_fault}
use Rattle.bag_digest.specs.declared.reading.SourceFault.{SourceFault}
use Rattle.bag_digest.specs.declared.reading.SourceFault.TheVariants as cause
use Rattle.bag_rules.specs.Trees.{octets_in, paths_in}
use Rattle.bag_rules.specs.declared.limits.TheConstants.{LARGEST_FILE}
use Rattle.bag_writer.specs.Copying.{CopiesPiece, IsCopiedTo, IsStopped, Sides, Work}
use Rattle.bag_writer.specs.PayloadSteps.{copy_fault}
use Rattle.bag_writer.specs.declared.payload.CopyFault.{CopyFault}
use Rattle.bag_writer.specs.declared.payload.CopyFault.TheVariants.{Sink, TooLarge, Tree}
use Rattle.bag_digest.proofs.StreamLemmas.{err_same, ok_not}

-- a count that rose from 0
pub risen : (old new : ℕ) (failed : Type 0) → CountsIf failed old new → failed → 0 < new
risen old new failed counts is = omega (arith, counts.rises is)

module _ {F G : Type 0} (s : Sides F G) (work : Work) {octets : List ℕ} {a b : F} {t u : G} (copied : IsCopiedTo s work octets a t) (same : s.place b ≡ s.place a) (beside : s.copy_place u ≡ s.copy_place t) where
  named_on : slice_get (paths_in work.shown) (s.place b) ≡ Some copied.path
  named_on = subst (λ i. slice_get (paths_in work.shown) i ≡ Some copied.path) (sym same) copied.named

  beside_on : s.copy_place u ≡ s.place b
  beside_on = beside ∙ copied.beside ∙ sym same

  gave_on : (more : List ℕ) → Consumes (s.remaining a) (s.remaining b) more → Consumes (octets_in work.shown (s.place b)) (s.remaining b) (octets ++ more)
  gave_on more gave = subst (λ i. Consumes (octets_in work.shown i) (s.remaining b) (octets ++ more)) (sym same) (Consumes-trans _ _ _ octets more copied.gave gave)

  -- these octets were copied too
  pub copied_on : (more : List ℕ) → Consumes (s.remaining a) (s.remaining b) more → length (octets ++ more) ≤ LARGEST_FILE → s.failures b ≡ s.failures a → (s.ready a → s.ready b)
      → s.holds u copied.path (octets ++ more) → s.copy_failures u ≡ s.copy_failures t → (s.copy_sure t → s.copy_sure u) → IsCopiedTo s work (octets ++ more) b u
  copied_on more gave within unfailed ready held copy_unfailed sure = record {
    path = copied.path;
    named = named_on;
    beside = beside_on;
    gave = gave_on more gave;
    within = within;
    held = held;
    unfailed = unfailed ∙ copied.unfailed;
    copy_unfailed = copy_unfailed ∙ copied.copy_unfailed;
    ready = λ h. ready (copied.ready h);
    sure = λ h. sure (copied.sure h);
  }

  -- copying stopped after these octets
  pub stopped_on : (fault : CopyFault) (more : List ℕ) → Consumes (s.remaining a) (s.remaining b) more → (fault ≡ TooLarge → LARGEST_FILE < length (octets ++ more))
      → (fault ≡ Tree → (0 < s.failures b) × (s.ready a → ⊥)) → (fault ≢ Tree → s.failures b ≡ s.failures a)
      → (fault ≡ Sink → (0 < s.copy_failures u) × (s.copy_sure t → ⊥)) → IsStopped s work b u fault
  stopped_on fault more gave long failed unfailed copy_failed = record {
    path = copied.path;
    named = named_on;
    beside = beside_on;
    octets = octets ++ more;
    until = record { gave = gave_on more gave; long = long };
    failed = λ e. ((failed e).0, λ h. (failed e).1 (copied.ready h));
    unfailed = λ not. unfailed not ∙ copied.unfailed;
    copy_failed = λ e. ((copy_failed e).0, λ h. (copy_failed e).1 (copied.sure h));
  }

module _ {F G : Type 0} (s : Sides F G) (keeps : F → F → Type 0) (law : (a b : F) → keeps a b → s.place b ≡ s.place a) (work : Work) (octets : List ℕ) (n : ℕ) (count : n ≡ length octets) {a b : F} {t : G} (copied : IsCopiedTo s work octets a t) where
  -- a read failed, or the file is too large
  pub read_stops : {A : Type 0} (fault : SourceFault) → GaveBefore (s.remaining a) (s.remaining b) (LARGEST_FILE - n) (read_fault fault)
      → UsesSource s.failures s.ready keeps a b (IsErrOf {T = A} (Err fault) cause.Read) → IsStopped s work b t (copy_fault fault)
  read_stops cause.Read more uses =
      stopped_on s work copied (law a b uses.kept) refl Tree more.0 more.1 (λ no. cc)
      (λ _. (
        risen (s.failures a) (s.failures b) _ uses.counted refl,
        λ h. (uses.stays_ready h).1 refl,
      ))
      (λ not. absurd (not refl)) (λ no. absurd (let k : Tree ≡ Sink = no in cc))
  read_stops {A} cause.TooLarge more uses =
      stopped_on s work copied (law a b uses.kept) refl TooLarge more.0 more.1 (λ _. omega (arith, count, copied.within, more.2, length-append octets more.0))
      (λ no. absurd (let k : TooLarge ≡ Tree = no in cc)) (λ _. uses.counted.stays (λ f. (let k : cause.TooLarge ≡ cause.Read = err_same {A = A} f in cc))) (λ no. absurd (let k : TooLarge ≡ Sink = no in cc))

module _ {F G : Type 0} (s : Sides F G) (keeps : F → F → Type 0) (law : (a b : F) → keeps a b → s.place b ≡ s.place a) (work : Work) (octets buffer : List ℕ) (done n : ℕ) (count : done ≡ length octets) {a b : F} {t : G} (copied : IsCopiedTo s work octets a t)
    (piece : GavePiece (s.remaining a) (s.remaining b) (LARGEST_FILE - done) n buffer) (uses : UsesSource s.failures s.ready keeps a b (IsErrOf (Ok n) cause.Read)) where
  unfailed : s.failures b ≡ s.failures a
  unfailed = uses.counted.stays (λ f. ok_not f)

  within : length (octets ++ take n buffer) ≤ LARGEST_FILE
  within = omega (arith, count, copied.within, piece.within, length-append octets (take n buffer), length-take-le n buffer piece.bound)

  -- the piece was written
  pub piece_copied : {u : G} → (n < length buffer → IsAtEnd (s.remaining b)) → ((path before : List ℕ) → s.holds t path before → s.holds u path (before ++ take n buffer)) → s.copy_place u ≡ s.copy_place t
      → s.copy_failures u ≡ s.copy_failures t → (s.copy_sure t → s.copy_sure u) → CopiesPiece s work octets buffer b u n
  piece_copied {u} end written beside stays sure = record {
    bound = piece.bound;
    copied = copied_on s work copied (law a b uses.kept) beside (take n buffer) piece.gave within unfailed (λ h. (uses.stays_ready h).0) (written copied.path octets copied.held) stays sure;
    end = end;
  }

  -- it is empty
  pub none_copied : n ≡ 0 → (n < length buffer → IsAtEnd (s.remaining b)) → CopiesPiece s work octets buffer b t n
  none_copied zero end =
      let same : octets ++ take n buffer ≡ octets = ap (λ k. octets ++ take k buffer) zero ∙ append-nil octets in
      record {
        bound = piece.bound;
        copied = copied_on s work copied (law a b uses.kept) refl (take n buffer) piece.gave within unfailed (λ h. (uses.stays_ready h).0) (subst (s.holds t copied.path) (sym same) copied.held) refl (λ h. h);
        end = end;
      }

  -- it couldn't be written
  pub write_fails : {u : G} → s.copy_place u ≡ s.copy_place t → 0 < s.copy_failures u → (s.copy_sure t → ⊥) → IsStopped s work b u Sink
  write_fails {u} beside failed sure =
      stopped_on s work copied (law a b uses.kept) beside Sink (take n buffer) piece.gave (λ no. cc) (λ no. absurd (let k : Sink ≡ Tree = no in cc)) (λ _. unfailed) (λ _. (failed, sure))
