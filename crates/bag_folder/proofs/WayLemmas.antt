-- What is met on the way to a path.
use Rattle.std.proofs.Common.{◌≡◌, ◌∙◌, ◌++◌, ◌+◌, ◌<◌, ◌≤◌, ℕ, Bool, false, true, List, None, Option, Some, Result, Ok, Err, inl, inr, ap, arith, codes, drop, length, refl, subst, sym, take, take-append-drop}
use Rattle.std.proofs.Math.Nat.{eq-or-lt_of_le}
use Rattle.std.proofs.Math.Seq.{take-append_seam}
use Rattle.std.proofs.lemmas.List.{append_cancel_left, length-take}
use Rattle.std.specs.Prelude.{⊤, IfSome, MatchResult, OnSome}
use Rattle.std.specs.IoError.{error_kind}
use Rattle.std.specs.declared.io.Error.{Error}
use Rattle.std.specs.declared.io.ErrorKind.TheVariants.{IsADirectory}
use Rattle.bag_folder.specs.declared.entry_kind.EntryKind.{EntryKind}
use Rattle.bag_folder.specs.declared.entry_kind.EntryKind.TheVariants.{File, Directory, Link, Special}
use Rattle.bag_folder.specs.declared.fault.Cause.{Cause}
use Rattle.bag_folder.specs.declared.fault.Cause.TheVariants as why
use Rattle.bag_folder.specs.Directories.{name_below}
use Rattle.bag_folder.specs.DiskNames.{LeadsTo, Standing, content, itself}
use Rattle.bag_folder.specs.Supplying.{Absent, Finds, Hidden, InFile, IsBarred, IsDirectory, IsGiven, IsLink, IsMet, IsReached, IsSpecial, Meets, Says, Shut}
use Rattle.bag_folder.specs.Unfits.{IsCauseOf}
use Rattle.bag_folder.proofs.NameLemmas.{if_always, if_both, if_known, leads_on, longer}

-- the directories on the way to a path whose own paths are shorter than this are folders
abbrev pub AreReached : Standing → List ℕ → List ℕ → ℕ → Type 0
AreReached known folder path end =
    (front : List ℕ) → LeadsTo front path → length front < end
    → itself known (name_below folder front) ≡ Ok Directory

pub reached_front : (known : Standing) (folder path front : List ℕ) (end : ℕ)
    → AreReached known folder path end → LeadsTo front path → length front ≤ end
    → IsReached known folder front
reached_front known folder path front end reached leads inside = λ it on.
    let less = longer it front on.0 on.1 in
    reached it (leads_on it front path on leads) (omega arith)

pub reached_whole : (known : Standing) (folder path : List ℕ) (end : ℕ)
    → AreReached known folder path end → length path ≤ end → IsReached known folder path
reached_whole known folder path end reached inside = λ it on.
    let less = longer it path on.0 on.1 in
    reached it on (omega arith)

front_of : (front path rest : List ℕ) → path ≡ name_below front rest
    → take (length front) path ≡ front
front_of front path rest is =
    ap (take (length front)) is ∙ take-append_seam front (codes "/" ++ rest)

-- one more, at this length
pub reached_more : (known : Standing) (folder path : List ℕ) (end : ℕ)
    → AreReached known folder path end
    → (LeadsTo (take end path) path
    → itself known (name_below folder (take end path)) ≡ Ok Directory)
    → AreReached known folder path (end + 1)
reached_more known folder path end reached here = λ front leads inside.
    elim (eq-or-lt_of_le {n = length front} {m = end} (omega arith)) [
      | inl is ↦
          let same : take end path ≡ front =
          subst (λ n. take n path ≡ front) is (front_of front path leads.0 leads.1) in
          subst (λ (f : List ℕ). itself known (name_below folder f) ≡ Ok Directory) same
          (here (subst (λ (f : List ℕ). LeadsTo f path) (sym same) leads))
      | inr less ↦ reached front leads less
    ]

-- WHERE A DIRECTORY ENDS

-- what comes after it
pub slash_next : (path : List ℕ) (n : ℕ) (leads : LeadsTo (take n path) path)
    → drop n path ≡ codes "/" ++ leads.0
slash_next path n leads =
    append_cancel_left (take n path) (drop n path) (codes "/" ++ leads.0)
    (take-append-drop n path ∙ leads.1)

-- what ends before a slash is one
pub ends_there : (path : List ℕ) (n : ℕ) (rest : List ℕ) → drop n path ≡ codes "/" ++ rest
    → LeadsTo (take n path) path
ends_there path n rest is =
    (rest, sym (take-append-drop n path) ∙ ap (λ (xs : List ℕ). take n path ++ xs) is)

-- WHAT IS FOUND AT A NAME

met_at : (known : Standing) (folder path name : List ℕ) (found : Result EntryKind Error)
    → IsReached known folder path → name ≡ name_below folder path
    → itself known (name_below folder path) ≡ found → IsMet known folder path name found
met_at known folder path name found reached named is = record {
  named = named;
  reached = reached;
  is = ap (itself known) named ∙ is;
}

-- it has the path itself
pub meets_whole : (known : Standing) (folder path name : List ℕ)
    (result : Result (Option EntryKind) (Option Cause)) → IsReached known folder path
    → MatchResult result (λ _. name ≡ name_below folder path)
    (λ cause. OnSome cause (name ≡ name_below folder path))
    → Finds (itself known (name_below folder path)) result → Meets known folder path name result
meets_whole known folder path name (Err None) reached named finds = tt
meets_whole known folder path name (Err (Some cause)) reached named finds =
    Hidden finds.0 finds.2 finds.3
    (path, inl refl, met_at known folder path name (Err finds.0) reached named finds.1)
meets_whole known folder path name (Ok None) reached named finds =
    Absent finds.0 finds.2
    (path, inl refl, met_at known folder path name (Err finds.0) reached named finds.1)
meets_whole known folder path name (Ok (Some File)) reached named finds =
    met_at known folder path name (Ok File) reached named finds
meets_whole known folder path name (Ok (Some Directory)) reached named finds =
    met_at known folder path name (Ok Directory) reached named finds
meets_whole known folder path name (Ok (Some Link)) reached named finds =
    (path, inl refl, met_at known folder path name (Ok Link) reached named finds)
meets_whole known folder path name (Ok (Some Special)) reached named finds =
    (path, inl refl, met_at known folder path name (Ok Special) reached named finds)

-- a file is on the way to the path
pub meets_file : (known : Standing) (folder path name front : List ℕ) → IsReached known folder front
    → LeadsTo front path → name ≡ name_below folder front
    → itself known (name_below folder front) ≡ Ok File → Meets known folder path name (Ok None)
meets_file known folder path name front reached leads named is =
    InFile front leads (met_at known folder front name (Ok File) reached named is)

-- neither a file nor a folder
abbrev pub IsOther : Option EntryKind → Type 0
IsOther None = ⊤
IsOther (Some File) = ⊥
IsOther (Some Directory) = ⊥
IsOther (Some Link) = ⊤
IsOther (Some Special) = ⊤

-- something else is on the way to it
pub meets_other : (known : Standing) (folder path name front : List ℕ) (kind : Option EntryKind)
    → IsOther kind → IsReached known folder front → LeadsTo front path
    → name ≡ name_below folder front → Finds (itself known (name_below folder front)) (Ok kind)
    → Meets known folder path name (Ok kind)
meets_other known folder path name front None other reached leads named finds =
    Absent finds.0 finds.2
    (front, inr leads, met_at known folder front name (Err finds.0) reached named finds.1)
meets_other known folder path name front (Some File) other reached leads named finds =
    absurd other
meets_other known folder path name front (Some Directory) other reached leads named finds =
    absurd other
meets_other known folder path name front (Some Link) other reached leads named finds =
    (front, inr leads, met_at known folder front name (Ok Link) reached named finds)
meets_other known folder path name front (Some Special) other reached leads named finds =
    (front, inr leads, met_at known folder front name (Ok Special) reached named finds)

-- something on the way to it can't be told
pub meets_hidden : (known : Standing) (folder path name front : List ℕ) (cause : Option Cause)
    → IsReached known folder front → LeadsTo front path
    → OnSome cause (name ≡ name_below folder front)
    → Finds (itself known (name_below folder front)) (Err cause)
    → Meets known folder path name (Err cause)
meets_hidden known folder path name front None reached leads named finds = tt
meets_hidden known folder path name front (Some cause) reached leads named finds =
    Hidden finds.0 finds.2 finds.3
    (front, inr leads, met_at known folder front name (Err finds.0) reached named finds.1)

-- THE SAME, IF IT IS KNOWN WHAT STANDS THERE

-- the directory of this length
abbrev pub EndsAt : List ℕ → List ℕ → ℕ → Type 0
EndsAt front path end = (front ≡ take end path) × LeadsTo front path

within : (front path : List ℕ) (end : ℕ) → front ≡ take end path → length front ≤ end
within front path end is =
    let size = ap length is ∙ length-take end path in
    omega (arith, size)

abbrev pub AreReachedIn : Option Standing → List ℕ → List ℕ → ℕ → Type 0
AreReachedIn o folder path end = IfSome o (λ known. AreReached known folder path end)

abbrev pub FindsIn : Option Standing → List ℕ → Result (Option EntryKind) (Option Cause) → Type 0
FindsIn o name result = IfSome o (λ known. Finds (itself known name) result)

abbrev pub MeetsIn : Option Standing → List ℕ → List ℕ → List ℕ
    → Result (Option EntryKind) (Option Cause) → Type 0
MeetsIn o folder path name result = IfSome o (λ known. Meets known folder path name result)

pub none_is_reached : (o : Option Standing) (folder path : List ℕ) → AreReachedIn o folder path 0
none_is_reached o folder path =
    if_always o (λ known. AreReached known folder path 0) (λ known front leads short. absurd (omega arith))

-- no directory has this length
pub reached_past : (o : Option Standing) (folder path : List ℕ) (end : ℕ)
    → AreReachedIn o folder path end → ¬ LeadsTo (take end path) path
    → AreReachedIn o folder path (end + 1)
reached_past o folder path end reached none =
    if_known o _ (λ known. AreReached known folder path (end + 1)) reached
    (λ known here. reached_more known folder path end here (λ leads. absurd (none leads)))

-- the directory of this length is a folder
pub reached_on : (o : Option Standing) (folder path front : List ℕ) (end : ℕ)
    → AreReachedIn o folder path end → EndsAt front path end
    → FindsIn o (name_below folder front) (Ok (Some Directory))
    → AreReachedIn o folder path (end + 1)
reached_on o folder path front end reached at finds =
    if_both o _ _ (λ known. AreReached known folder path (end + 1)) reached finds
    (λ known here found. reached_more known folder path end here
    (λ leads. ap (λ (f : List ℕ). itself known (name_below folder f)) (sym at.0) ∙ found))

pub whole_met : (o : Option Standing) (folder path name : List ℕ) (end : ℕ)
    (result : Result (Option EntryKind) (Option Cause)) → AreReachedIn o folder path end
    → length path ≤ end
    → MatchResult result (λ _. name ≡ name_below folder path)
    (λ cause. OnSome cause (name ≡ name_below folder path))
    → FindsIn o (name_below folder path) result → MeetsIn o folder path name result
whole_met o folder path name end result reached inside named finds =
    if_both o _ _ (λ known. Meets known folder path name result) reached finds
    (λ known here found. meets_whole known folder path name result
    (reached_whole known folder path end here inside) named found)

pub file_met : (o : Option Standing) (folder path name front : List ℕ) (end : ℕ)
    → AreReachedIn o folder path end → EndsAt front path end → name ≡ name_below folder front
    → FindsIn o (name_below folder front) (Ok (Some File)) → MeetsIn o folder path name (Ok None)
file_met o folder path name front end reached at named finds =
    if_both o _ _ (λ known. Meets known folder path name (Ok None)) reached finds
    (λ known here found. meets_file known folder path name front
    (reached_front known folder path front end here at.1 (within front path end at.0)) at.1
    named found)

pub other_met : (o : Option Standing) (folder path name front : List ℕ) (end : ℕ)
    (kind : Option EntryKind) → IsOther kind
    → AreReachedIn o folder path end → EndsAt front path end → name ≡ name_below folder front
    → FindsIn o (name_below folder front) (Ok kind) → MeetsIn o folder path name (Ok kind)
other_met o folder path name front end kind other reached at named finds =
    if_both o _ _ (λ known. Meets known folder path name (Ok kind)) reached finds
    (λ known here found. meets_other known folder path name front kind other
    (reached_front known folder path front end here at.1 (within front path end at.0)) at.1
    named found)

pub hidden_met : (o : Option Standing) (folder path name front : List ℕ) (end : ℕ)
    (cause : Option Cause) → AreReachedIn o folder path end → EndsAt front path end
    → OnSome cause (name ≡ name_below folder front)
    → FindsIn o (name_below folder front) (Err cause) → MeetsIn o folder path name (Err cause)
hidden_met o folder path name front end cause reached at named finds =
    if_both o _ _ (λ known. Meets known folder path name (Err cause)) reached finds
    (λ known here found. meets_hidden known folder path name front cause
    (reached_front known folder path front end here at.1 (within front path end at.0)) at.1
    named found)

-- WHAT IS ANSWERED

given_at : (known : Standing) (folder path name at : List ℕ) (left : Option (List ℕ))
    → IsMet known folder path name (Ok File) → at ≡ name_below folder path
    → content known (name_below folder path) ≡ Ok left
    → IsGiven known folder path at (Some left)
given_at known folder path name at left met named opened =
    let same : at ≡ name = named ∙ sym met.named in
    record {
      met = record {
        named = named;
        reached = met.reached;
        is = ap (itself known) same ∙ met.is;
      };
      opened = ap (content known) named ∙ opened;
    }

shut_at : (known : Standing) (folder path name at : List ℕ) (cause : Option Cause)
    → IsMet known folder path name (Ok File) → OnSome cause (at ≡ name_below folder path)
    → IfSome cause (λ why. (error : Error) × (content known (name_below folder path) ≡ Err error)
    × IsCauseOf error why)
    → IfSome cause (IsBarred known folder path at)
shut_at known folder path name at None met named shut = tt
shut_at known folder path name at (Some cause) met named shut =
    let same : at ≡ name = named ∙ sym met.named in
    Shut shut.0 (ap (content known) named ∙ shut.1) shut.2
    (record {
      named = named;
      reached = met.reached;
      is = ap (itself known) same ∙ met.is;
    })

-- what `seek` answers, of what is met
abbrev pub Answers : Option Standing → List ℕ → List ℕ → List ℕ → Option (Option (List ℕ))
    → Result Bool (Option Cause) → Type 0
Answers o folder path name to_read result = IfSome o (λ known. MatchResult result
    (Says known folder path name to_read) (λ cause. IfSome cause (IsBarred known folder path name)))

pub answers_hidden : (o : Option Standing) (folder path name : List ℕ) (cause : Option Cause)
    (to_read : Option (Option (List ℕ))) → MeetsIn o folder path name (Err cause)
    → Answers o folder path name to_read (Err cause)
answers_hidden o folder path name cause to_read meets = meets

pub answers_lacking : (o : Option Standing) (folder path name : List ℕ)
    (to_read : Option (Option (List ℕ))) → MeetsIn o folder path name (Ok None)
    → Answers o folder path name to_read (Ok false)
answers_lacking o folder path name to_read meets = meets

pub answers_given : (o : Option Standing) (folder path name at : List ℕ) (left : Option (List ℕ))
    → MeetsIn o folder path name (Ok (Some File)) → at ≡ name_below folder path
    → IfSome o (λ known. content known (name_below folder path) ≡ Ok left)
    → Answers o folder path at (Some left) (Ok true)
answers_given o folder path name at left meets named opened =
    if_both o _ _ (λ known. IsGiven known folder path at (Some left)) meets opened
    (λ known met here. given_at known folder path name at left met named here)

pub answers_shut : (o : Option Standing) (folder path name at : List ℕ) (cause : Option Cause)
    (to_read : Option (Option (List ℕ))) → MeetsIn o folder path name (Ok (Some File))
    → OnSome cause (at ≡ name_below folder path)
    → IfSome o (λ known. IfSome cause (λ why. (error : Error)
    × (content known (name_below folder path) ≡ Err error) × IsCauseOf error why))
    → Answers o folder path at to_read (Err cause)
answers_shut o folder path name at cause to_read meets named shut =
    if_both o _ _ (λ known. IfSome cause (IsBarred known folder path at)) meets shut
    (λ known met here. shut_at known folder path name at cause met named here)

pub answers_directory : (o : Option Standing) (folder path name : List ℕ) (error : Error)
    (to_read : Option (Option (List ℕ))) → error_kind error ≡ IsADirectory
    → MeetsIn o folder path name (Ok (Some Directory))
    → Answers o folder path name to_read (Err (Some (why.System error)))
answers_directory o folder path name error to_read kind meets =
    if_known o _ (λ known. IsBarred known folder path name (why.System error)) meets
    (λ known met. IsDirectory error kind refl met)

pub answers_link : (o : Option Standing) (folder path name : List ℕ)
    (to_read : Option (Option (List ℕ))) → MeetsIn o folder path name (Ok (Some Link))
    → Answers o folder path name to_read (Err (Some why.Link))
answers_link o folder path name to_read meets =
    if_known o _ (λ known. IsBarred known folder path name why.Link) meets
    (λ known met. IsLink refl met)

pub answers_special : (o : Option Standing) (folder path name : List ℕ)
    (to_read : Option (Option (List ℕ))) → MeetsIn o folder path name (Ok (Some Special))
    → Answers o folder path name to_read (Err (Some why.Special))
answers_special o folder path name to_read meets =
    if_known o _ (λ known. IsBarred known folder path name why.Special) meets
    (λ known met. IsSpecial refl met)

-- the same, where what is known, and the folder, are given otherwise
pub answers_as : (o now : Option Standing) (folder below path name : List ℕ)
    (to_read : Option (Option (List ℕ))) (result : Result Bool (Option Cause)) → o ≡ now
    → folder ≡ below → Answers o folder path name to_read result
    → Answers now below path name to_read result
answers_as o now folder below path name to_read result known is answers =
    subst (λ (s : Option Standing). Answers s below path name to_read result) known
    (subst (λ (f : List ℕ). Answers o f path name to_read result) is answers)

pub answers_shut_as : (o : Option Standing) (below folder front path name at : List ℕ)
    (cause : Option Cause) (to_read : Option (Option (List ℕ))) → folder ≡ below → front ≡ below
    → MeetsIn o folder path name (Ok (Some File)) → OnSome cause (at ≡ name_below front path)
    → IfSome o (λ known. IfSome cause (λ why. (error : Error)
    × (content known (name_below front path) ≡ Err error) × IsCauseOf error why))
    → Answers o below path at to_read (Err cause)
answers_shut_as o below folder front path name at cause to_read is too meets named shut =
    answers_shut o below path name at cause to_read
    (subst (λ (f : List ℕ). MeetsIn o f path name (Ok (Some File))) is meets)
    (subst (λ (f : List ℕ). OnSome cause (at ≡ name_below f path)) too named)
    (subst (λ (f : List ℕ). IfSome o (λ known. IfSome cause (λ why. (error : Error)
    × (content known (name_below f path) ≡ Err error) × IsCauseOf error why))) too shut)
