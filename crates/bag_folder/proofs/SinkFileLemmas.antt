-- Files that are begun in a folder.
use Rattle.std.proofs.Common.{◌≡◌, ℕ, List, None, Option, Some, Result, Ok, Err, ap, arith, refl, subst, sym}
use Rattle.std.specs.Prelude.{IfOk, IfSome, IsSomeAnd, MatchResult, OnSome}
use Rattle.bag_folder.specs.declared.fault.Cause.{Cause}
use Rattle.bag_folder.specs.Directories.{name_below}
use Rattle.bag_folder.specs.DiskNames.{Changes, HoldsNothing, MakesFile, Standing}
use Rattle.bag_folder.specs.SinkFiles.{BeginsBelow, IsBegunAt, MakesBegun, SinkFileShown}
use Rattle.bag_folder.specs.SinkFolders.{SinkShown}
use Rattle.bag_folder.proofs.NameLemmas.{changes_more}

module _ {W : Type 0} (contents : W → Option (List ℕ)) (full : List ℕ) (place : ℕ) (name : List ℕ) where
  -- the file, by what beginning it gave
  abbrev IsNew : Result W (Option Cause) → SinkFileShown → Type 0
  IsNew r file = MatchResult r
      (λ w. file ≡ record { place = place; name = name; written = Some (contents w); failures = 0; cause = None })
      (λ why. file ≡ record { place = place; name = name; written = None; failures = 1; cause = why })

  begun_at : (r : Result W (Option Cause)) (file : SinkFileShown) → MatchResult r (λ _. name ≡ full) (λ why. OnSome why (name ≡ full)) → IsNew r file → IsBegunAt full place file
  begun_at (Ok w) file named is = subst (IsBegunAt full place) (sym is) (record { placed = refl; begun = λ _. (named, tt, refl); failed = λ h. absurd (omega (arith, h)) })
  begun_at (Err why) file named is = subst (IsBegunAt full place) (sym is) (record { placed = refl; begun = λ e. absurd (omega (arith, e)); failed = λ _. (refl, refl, named) })

  made_at : (r : Result W (Option Cause)) (file : SinkFileShown) → IsNew r file → (s t : Standing) → MakesFile full r s t → MakesBegun full file s t
  made_at (Ok w) file is s t made = subst (λ f. MakesBegun full f s t) (sym is) ((λ _. made), (λ h. absurd (omega (arith, h))))
  made_at (Err why) file is s t made = subst (λ f. MakesBegun full f s t) (sym is) ((λ e. absurd (omega (arith, e))), (λ _. made))

  empty_at : (r : Result W (Option Cause)) (file : SinkFileShown) → IsNew r file → (known : Option Standing) → IfOk r (λ w. IfSome known (λ _. HoldsNothing (contents w)))
      → file.failures ≡ 0 → IfSome known (λ _. IsSomeAnd file.written HoldsNothing)
  empty_at (Ok w) file is known begins none = subst (λ f. IfSome known (λ _. IsSomeAnd f.written HoldsNothing)) (sym is) begins
  empty_at (Err why) file is known begins none = absurd (let one : file.failures ≡ 1 = ap (λ f. f.failures) is in omega (arith, one, none))

  pub begins_below : (r : Result W (Option Cause)) (file : SinkFileShown) (old new : SinkShown) (path : List ℕ) → full ≡ name_below old.folder path
      → new ≡ record old { standing = new.standing; failures = new.failures } → MatchResult r (λ _. name ≡ full) (λ why. OnSome why (name ≡ full))
      → Changes (MakesFile full r) old.standing new.standing → IfOk r (λ w. IfSome new.standing (λ _. HoldsNothing (contents w))) → IsNew r file → BeginsBelow old new path place file
  begins_below r file old new path same rest named makes begins is = record {
    begun = subst (λ it. IsBegunAt it place file) same (begun_at r file named is);
    makes = subst (λ it. Changes (MakesBegun it file) old.standing new.standing) same (changes_more _ _ _ _ makes (made_at r file is));
    empty = empty_at r file is new.standing begins;
    rest = rest;
  }
