-- A transfer that may be open, and that a stop shows.
use Rattle.std.proofs.Common.{◌≡◌, ◌≢◌, ◌⊎◌, ◌∷◌, ℕ, List, [], Some, None, Result, Ok, Err, refl, sym, ap, subst, ◌∙◌, inl, inr}
use Rattle.bag_receiver.specs.declared.begin.Begun.{Begun}
use Rattle.bag_receiver.specs.declared.begin.Begun.TheVariants.{New, Again}
use Rattle.bag_receiver.specs.declared.begin.BeginFault.TheVariants.{BadName, Outside, Rules, Clash, Differs, Tree, Keeper}
use Rattle.bag_receiver.specs.Beginning.{MayBeOpen}
use Rattle.bag_receiver.specs.LedgerStates.{LeavesOthers}
use Rattle.bag_receiver.proofs.Words.{BeginFault, Begins, BeginStep, begun, Files, Happened, Has, Ledger, LedgerState, nothing_held, settled, TagPath, TagTooLarge, transfer_of, TransferState, with_files}

-- it isn't there, or it is open and holds nothing
abbrev IsOpenOrNot : List ℕ → Files → Ledger → Type 0
IsOpenOrNot name tags ledger = (transfer_of ledger name ≡ None) ⊎ (transfer_of ledger name ≡ Some (begun tags))

-- what is held after a beginning
module _ (name : List ℕ) (given : Files) (old new : LedgerState) where
  abbrev IsAfter : Type 0
  IsAfter = (new.held ≡ old.held) ⊎ (transfer_of new.held name ≡ Some (begun (with_files [] given)))

  same : new ≡ old → IsAfter
  same is = inl (ap (λ (s : LedgerState). s.held) is)

  newly : Happened new name (with_files [] given) [] → IsAfter
  newly (now, steps, present) = inr (present.there ∙ ap (λ (s : TransferState). Some (record { tags = with_files [] given; items = s.held })) steps)

  held_after : (result : Result Begun BeginFault) → BeginStep result name given old new → (result ≡ Ok New → Happened new name (with_files [] given) []) → IsAfter
  held_after (Ok New) step opened = newly (opened refl)
  held_after (Ok Again) step opened = same step.4
  held_after (Err BadName) step opened = same step.1
  held_after (Err (TagPath i)) step opened = same step.2
  held_after (Err (TagTooLarge path)) step opened = same step.2
  held_after (Err (Outside cause)) step opened = same step.2
  held_after (Err (Rules fault)) step opened = same step.2
  held_after (Err (Clash path)) step opened = same step.2
  held_after (Err Tree) step opened = absurd step.1
  held_after (Err Differs) step opened = same step.4
  held_after (Err (Keeper fault)) step opened = elim step.1 [
    | inl is ↦ same is
    | inr doubt ↦ inl (ap (λ (s : LedgerState). s.held) doubt.2)
  ]

pub stays_after_beginning : (name : List ℕ) (given : Files) (result : Result Begun BeginFault) (old new : LedgerState) → Begins name given result old new
    → MayBeOpen old name (with_files [] given) → MayBeOpen new name (with_files [] given)
stays_after_beginning name given result old new begins may ledger (inl here) = subst (IsOpenOrNot name (with_files [] given)) here (elim (held_after name given old new result begins.step begins.opened) [
  | inl same ↦ subst (IsOpenOrNot name (with_files [] given)) (sym same) (may old.held (inl refl))
  | inr is ↦ inr is
])
stays_after_beginning name given result old new begins may ledger (inr has) = elim (begins.left ledger has) [
  | inl before ↦ may ledger (inr before)
  | inr is ↦ inr is
]

pub stays_after_others : (other name : List ℕ) (old new : LedgerState) (tags : Files) → LeavesOthers other old new → name ≢ other → MayBeOpen old name tags → MayBeOpen new name tags
stays_after_others other name old new tags others apart may ledger (inl here) = subst (IsOpenOrNot name tags) here (elim (may old.held (inl refl)) [
  | inl none ↦ inl (others.same name apart ∙ none)
  | inr is ↦ inr (others.same name apart ∙ is)
])
stays_after_others other name old new tags others apart may ledger (inr has) =
    let (before, had, same) = others.left name apart ledger has in elim (may before had) [
      | inl none ↦ inl (same ∙ none)
      | inr is ↦ inr (same ∙ is)
    ]

pub stays_after_stop : (now : LedgerState) (name : List ℕ) (tags : Files) (crashed : Ledger) → MayBeOpen now name tags → Has (now.held ∷ now.doubtful) crashed → MayBeOpen (settled crashed) name tags
stays_after_stop now name tags crashed may has ledger (inl here) = subst (IsOpenOrNot name tags) here (may crashed has)
stays_after_stop now name tags crashed may has ledger (inr none) = absurd none

pub shown_is_opened : (now : LedgerState) (name : List ℕ) (tags : Files) (crashed : Ledger) → MayBeOpen now name tags → Has (now.held ∷ now.doubtful) crashed → transfer_of crashed name ≢ None
    → Happened (settled crashed) name tags []
shown_is_opened now name tags crashed may has there = elim (may crashed has) [
  | inl none ↦ absurd (there none)
  | inr is ↦ (nothing_held, refl, record { there = is; left = λ other none. absurd none })
]
