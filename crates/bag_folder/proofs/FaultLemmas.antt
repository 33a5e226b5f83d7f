-- What a fault tells, and what a trouble tells.
use Rattle.std.proofs.Common.{◌≡◌, ℕ, Bool, List, None, Option, Some, Result, Ok, Err, inl, refl, subst, sym}
use Rattle.std.specs.Prelude.{IfErr, IfSome, IsErr, MatchResult, OnSome}
use Rattle.bag_folder.specs.declared.fault.OpenFault.{OpenFault}
use Rattle.bag_folder.specs.declared.fault.OpenFault.TheVariants.{Files, Memory}
use Rattle.bag_folder.specs.declared.root.Root.{Root}
use Rattle.bag_folder.specs.declared.fault.Cause.{Cause}
use Rattle.bag_folder.specs.Directories.{IsUnfit, Listing, name_below}
use Rattle.bag_folder.specs.Faults.{IfUnfit, TellsBelow}
use Rattle.bag_folder.specs.Folders.{DiskShown, IsRefused}
use Rattle.bag_folder.specs.DiskNames.{Standing}
use Rattle.bag_folder.specs.Supplying.{IsBarred, IsNameTo, Says}
use Rattle.bag_folder.proofs.NameLemmas.{if_known}
use Rattle.bag_folder.specs.Unfits.{CountsTrouble, TellsLast, TroublesShown, UnfitShown}
use Rattle.std.proofs.lemmas.Bool.{false≢true}

pub IfUnfit-weaker : (fault : OpenFault) (P Q : UnfitShown → Type 0) → ((unfit : UnfitShown) → P unfit → Q unfit) → IfUnfit fault P → IfUnfit fault Q
IfUnfit-weaker (Files unfit) P Q weaker here = weaker unfit here
IfUnfit-weaker Memory P Q weaker here = tt

pub OnSome-weaker : {A : Type 0} (o : Option A) (P Q : Type 0) → (P → Q) → OnSome o P → OnSome o Q
OnSome-weaker (Some value) P Q weaker here = weaker here
OnSome-weaker None P Q weaker here = tt

-- the name of the whole path
pub whole_name : (folder path name : List ℕ) → name ≡ name_below folder path → IsNameTo folder path name
whole_name folder path name is = (path, inl refl, is)

-- what a walk refuses is told by its name on disk
pub refused_on_disk : (disk : DiskShown) (folder : List ℕ) (root : Root) (fault told : OpenFault)
    → ((listing : Listing) → disk.listing ≡ Some listing → IfUnfit fault (λ unfit. IsUnfit listing folder unfit.path unfit.cause))
    → IfUnfit told (TellsBelow fault folder root) → IfUnfit told (IsRefused disk folder root)
refused_on_disk disk folder root fault told refused tells =
    IfUnfit-weaker told (TellsBelow fault folder root) (IsRefused disk folder root) (λ unfit here. record {
      path = here.below.path;
      named = here.path_is;
      because = λ listing is.
          let below : IsUnfit listing folder here.below.path here.below.cause = subst (λ (f : OpenFault). IfUnfit f (λ unfit. IsUnfit listing folder unfit.path unfit.cause)) here.was (refused listing is) in
          subst (λ (cause : Cause). IsUnfit listing folder here.below.path cause) (sym here.same_cause) below;
    }) tells

none_is_not_some : (cause : Cause) → None ≡ Some cause → ⊥
none_is_not_some cause h = cc

-- what is told of a failed call has the name that was looked up
pub told_by_name : {A E : Type 0} (answer : Result A (Option Cause)) (result : Result A E) (name : List ℕ) (old new : TroublesShown) (P : List ℕ → Type 0)
    → MatchResult answer (λ value. result ≡ Ok value) (λ _. IsErr result) → CountsTrouble answer name old new → IfErr answer (λ cause. OnSome cause (P name))
    → IsErr result → IfSome new.last (λ unfit. P unfit.path)
told_by_name {E = E} (Ok value) result name old new P same counts looked_up failed = absurd (false≢true (subst (λ (r : Result _ E). IsErr r) same failed))
told_by_name (Err cause) result name old new P same counts looked_up failed = go new.last cause counts.1 looked_up where
  go : (last : Option UnfitShown) (cause : Option Cause) → TellsLast name cause last → OnSome cause (P name) → IfSome last (λ unfit. P unfit.path)
  go None cause tells here = tt
  go (Some unfit) None tells here = absurd (none_is_not_some unfit.cause tells.1)
  go (Some unfit) (Some cause) tells here = subst P (sym tells.0) here

-- What is told of a failed call has the name that was looked up, and the cause. If the call didn't fail, what holds of
-- its value holds of the result.
pub told_by_cause : {A E : Type 0} (answer : Result A (Option Cause)) (result : Result A E)
    (name : List ℕ) (old new : TroublesShown) (P : A → Type 0) (Q : List ℕ → Cause → Type 0)
    → MatchResult answer (λ value. result ≡ Ok value) (λ _. IsErr result)
    → CountsTrouble answer name old new
    → MatchResult answer P (λ cause. IfSome cause (Q name))
    → MatchResult result P (λ _. IfSome new.last (λ unfit. Q unfit.path unfit.cause))
told_by_cause {E = E} (Ok value) result name old new P Q same counts holds =
    subst (λ (r : Result _ E). MatchResult r P
    (λ _. IfSome new.last (λ unfit. Q unfit.path unfit.cause))) (sym same) holds
told_by_cause (Err cause) (Ok value) name old new P Q failed counts holds =
    absurd (false≢true failed)
told_by_cause (Err cause) (Err error) name old new P Q failed counts holds =
    go new.last cause counts.1 holds where
      same_cause : (a b : Cause) → Some a ≡ Some b → a ≡ b
      same_cause a b h = cc

      go : (last : Option UnfitShown) (cause : Option Cause) → TellsLast name cause last
          → IfSome cause (Q name) → IfSome last (λ unfit. Q unfit.path unfit.cause)
      go None cause tells here = tt
      go (Some unfit) None tells here = absurd (none_is_not_some unfit.cause tells.1)
      go (Some unfit) (Some cause) tells here =
          subst (Q unfit.path) (same_cause cause unfit.cause tells.1)
          (subst (λ (path : List ℕ). Q path cause) (sym tells.0) here)

-- what a supplier answers, once a failure was counted
pub answers_told : {E : Type 0} (known now : Option Standing) (folder below path name at : List ℕ)
    (left to_read : Option (Option (List ℕ))) (answer : Result Bool (Option Cause))
    (result : Result Bool E) (old new : TroublesShown)
    → known ≡ now → folder ≡ below → name ≡ at → left ≡ to_read
    → MatchResult answer (λ value. result ≡ Ok value) (λ _. IsErr result)
    → CountsTrouble answer at old new
    → IfSome known
    (λ standing. MatchResult answer (Says standing folder path name left)
    (λ cause. IfSome cause (IsBarred standing folder path name)))
    → IfSome now
    (λ standing. MatchResult result (Says standing below path at to_read)
    (λ _. IfSome new.last (λ unfit. IsBarred standing below path unfit.path unfit.cause)))
answers_told known now folder below path name at left to_read answer result old new same is named
    reads matched counted answers =
    subst (λ (o : Option Standing). IfSome o
    (λ standing. MatchResult result (Says standing below path at to_read)
    (λ _. IfSome new.last (λ unfit. IsBarred standing below path unfit.path unfit.cause)))) same
    (if_known known _ _ answers
    (λ standing here. told_by_cause answer result at old new
    (Says standing below path at to_read) (IsBarred standing below path) matched counted
    (subst (λ (f : List ℕ). MatchResult answer (Says standing f path at to_read)
    (λ cause. IfSome cause (IsBarred standing f path at))) is
    (subst (λ (n : List ℕ). MatchResult answer (Says standing folder path n to_read)
    (λ cause. IfSome cause (IsBarred standing folder path n))) named
    (subst (λ (r : Option (Option (List ℕ))). MatchResult answer (Says standing folder path name r)
    (λ cause. IfSome cause (IsBarred standing folder path name))) reads here)))))
