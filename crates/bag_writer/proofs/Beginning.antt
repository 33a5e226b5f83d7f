-- A file that was opened, and whose copy was begun.
use Rattle.std.proofs.Common.{◌≡◌, ◌∙◌, ◌<◌, [], ◌∷◌, ℕ, zero, suc, Bool, true, List, Option, Some, None, ap, arith, length, refl, slice_get, inl, inr, subst, sym, take}
use Rattle.std.specs.Prelude.{IsSomeAnd}
use Rattle.std.specs.Io.KnownBytes.{Consumes, IsAtEnd}
use Rattle.std.proofs.lemmas.Bool.{cases_lt}
use Rattle.std.proofs.lemmas.List.{length-take-le, take_all}
use Rattle.bag_digest.specs.declared.reading.SourceRead.{SourceRead}
use Rattle.bag_digest.specs.declared.reading.SourceRead.TheVariants.{Whole}
use Rattle.bag_rules.proofs.Words.{Shown, octets_in, paths_in}
use Rattle.bag_writer.specs.Copying.{CopiesPiece, IsCopiedTo, IsFreshBy, IsStopped, Sides, Work}
use Rattle.bag_writer.specs.OpenSinks.{IsBegun}
use Rattle.bag_writer.specs.Pending.{AddsCopy, CanBegin, CanCopy, IsBeginFault, IsHeld, IsOpenFault, IsReadable, copies_with, work_of}
use Rattle.bag_writer.specs.PayloadSteps.{IsFoundOf}
use Rattle.bag_writer.specs.declared.payload_beside.NotBegun.{NotBegun}
use Rattle.bag_writer.specs.declared.payload_beside.NotBegun.TheVariants.{Memory, Stopped, Unopened}
use Rattle.bag_digest.specs.declared.buffers.TheConstants.{FRONT}
use Rattle.bag_writer.specs.Sinks.{Stored}
use Rattle.bag_writer.specs.declared.copying.Copying.{Copying}
use Rattle.bag_writer.specs.declared.payload.CopyFault.TheVariants.{Sink, TooLarge, Tree}
use Rattle.bag_digest.proofs.ListLemmas.{stands}

-- nothing of no octets
pub take_none : (n : ℕ) (xs : List ℕ) → length xs ≡ 0 → take n xs ≡ []
take_none zero [] none = refl
take_none (suc n) [] none = refl
take_none n (x ∷ xs) none = absurd (omega (arith, none))

module _ {F G : Type 0} (s : Sides F G) where
  -- by what opening and beginning say
  pub can_copy : (shown : Shown) (tree_sure sink_sure : Bool) (sure calm : Type 0) (is_open : Bool) (known : Option Stored) (i : ℕ) (path : List ℕ) (each : Copying F G) → slice_get (paths_in shown) i ≡ Some path
      → IsReadable s.place s.remaining s.failures s.ready shown sure i each.source → IsBegun s.copy_place s.holds s.copy_failures s.copy_sure calm is_open known i path each.target
      → (tree_sure ≡ true → sure) → (sink_sure ≡ true → CanBegin calm is_open known shown i) → CanCopy s (work_of shown tree_sure sink_sure) i each
  can_copy shown tree_sure sink_sure sure calm is_open known i path each named opened begun ready can = record {
    placed = opened.placed;
    path = path;
    named = ap (slice_get (paths_in shown)) opened.placed ∙ named;
    beside = begun.placed ∙ sym opened.placed;
    unread = subst (λ j. Consumes (octets_in shown j) (s.remaining each.source) []) (sym opened.placed) opened.unread;
    unfailed = opened.unfailed;
    ready = λ e. opened.is_ready (ready e);
    empty = begun.empty;
    sure = λ e. let it = can e in begun.is_sure it.is_sure it.closed (it.free path named);
  }

  -- the same by what is known of a tree and of a sink
  pub can_copy_next : {shown now : Shown} {sure calm : Type 0} {is_open : Bool} {known : Option Stored} {i : ℕ} {source : F} {each : Copying F G} → i < length (paths_in shown) → now ≡ shown → IsReadable s.place s.remaining s.failures s.ready shown sure i source
      → (each.source ≡ source) × (each.found ≡ None) × ((path : List ℕ) → slice_get (paths_in now) i ≡ Some path → IsBegun s.copy_place s.holds s.copy_failures s.copy_sure calm is_open known i path each.target)
      → (tree_sure sink_sure : Bool) → (tree_sure ≡ true → sure) → (sink_sure ≡ true → CanBegin calm is_open known shown i) → CanCopy s (work_of shown tree_sure sink_sure) i each
  can_copy_next {shown} {now} {sure} {calm} {is_open} {known} {i} {source} {each} inside same opened begun tree_sure sink_sure =
      let path = stands (paths_in shown) i inside in
      can_copy shown tree_sure sink_sure sure calm is_open known i path.0 each path.1
      (subst (λ a. IsReadable s.place s.remaining s.failures s.ready shown sure i a) (sym begun.0) opened)
      (begun.2 path.0 (ap (λ (all : Shown). slice_get (paths_in all) i) same ∙ path.1))

  module _ (work : Work) (i : ℕ) (each : Copying F G) (can : CanCopy s work i each) where
    -- nothing was copied yet
    pub none_copied_yet : s.copy_failures each.target ≡ 0 → IsCopiedTo s work [] each.source each.target
    none_copied_yet unfailed = record {
      path = can.path;
      named = can.named;
      beside = can.beside;
      gave = can.unread;
      within = omega arith;
      held = can.empty unfailed;
      unfailed = can.unfailed;
      copy_unfailed = unfailed;
      ready = can.ready;
      sure = λ e. (can.sure e).1;
    }

    -- the copy couldn't be begun
    pub not_begun : 0 < s.copy_failures each.target → IsStopped s work each.source each.target Sink
    not_begun failed = record {
      path = can.path;
      named = can.named;
      beside = can.beside;
      octets = [];
      until = record { gave = can.unread; long = λ e. (let k : Sink ≡ TooLarge = e in cc) };
      failed = λ e. (let k : Sink ≡ Tree = e in cc);
      unfailed = λ _. can.unfailed;
      copy_failed = λ e. (failed, λ sure. let it = (can.sure sure).0 in omega (arith, it, failed));
    }

  -- a front of it was copied, and is held
  pub adds_copy : (work : Work) (i n : ℕ) (old new : List (Copying F G)) (each : Copying F G) (buffer : List ℕ) → length buffer ≡ FRONT → s.place each.source ≡ i → CopiesPiece s work [] buffer each.source each.target n
      → IsHeld old new each (take n buffer) → AddsCopy s work i old new
  adds_copy work i n old new each buffer room placed piece held =
      let long : length (take n buffer) ≡ n = length-take-le n buffer piece.bound in
      let source = held.source_is in
      let target = held.target_is in
      let copied : IsCopiedTo s work held.last.piece.items held.last.source held.last.target =
      subst (λ xs. IsCopiedTo s work xs held.last.source held.last.target) (sym held.piece_is)
      (subst (λ a. IsCopiedTo s work (take n buffer) a held.last.target) (sym source) (subst (λ b. IsCopiedTo s work (take n buffer) each.source b) (sym target) piece.copied)) in
      let bound = piece.bound in
      record {
        last = held.last;
        all = held.all;
        placed = ap s.place source ∙ placed;
        fresh = λ set. elim (cases_lt (length (take n buffer)) FRONT) [
          | inl short ↦ subst (IsFreshBy s work set held.last) (sym (held.whole short)) (record {
            octets = held.last.piece.items;
            copied = copied;
            none_left = subst (λ a. IsAtEnd (s.remaining a)) (sym source) (piece.end (omega (arith, short, long, room)));
            short = (let same = ap length held.piece_is in omega (arith, same, short));
            found_is = subst (λ (found : Option SourceRead). IsSomeAnd found (λ f. IsFoundOf set held.last.piece.items f held.last.piece.items)) (sym (held.whole short))
                (let same = ap length held.piece_is in (omega (arith, same), take_all (length (take n buffer)) held.last.piece.items (omega (arith, same))));
          })
          | inr full ↦ subst (IsFreshBy s work set held.last) (sym (held.more full)) copied
        ];
        full = λ none. elim (cases_lt (length (take n buffer)) FRONT) [
          | inl short ↦ absurd (let e : Some (Whole (length (take n buffer))) ≡ None = sym (held.whole short) ∙ none in cc)
          | inr full ↦ (let same = ap length held.piece_is in omega (arith, same, full, long, bound, room))
        ];
      }

  -- what is told of a file that couldn't be opened
  pub begin_fault : (shown : Shown) (tree_sure sink_sure : Bool) (sure : Type 0) (i : ℕ) (fault : NotBegun F G) → IsOpenFault s.place s.failures sure i fault → (tree_sure ≡ true → sure) → IsBeginFault s (work_of shown tree_sure sink_sure) i fault
  begin_fault shown tree_sure sink_sure sure i Memory is ready = tt
  begin_fault shown tree_sure sink_sure sure i (Unopened file) is ready = (is.0, λ e. is.1 (ready e))
  begin_fault shown tree_sure sink_sure sure i (Stopped fault each) is ready = absurd is

  pub no_copy : (sure : Type 0) (i : ℕ) (fault : NotBegun F G) → IsOpenFault s.place s.failures sure i fault → copies_with fault ≡ 0
  no_copy sure i Memory is = refl
  no_copy sure i (Unopened file) is = refl
  no_copy sure i (Stopped fault each) is = absurd is
