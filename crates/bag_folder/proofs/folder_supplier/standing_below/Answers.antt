use Rattle.std.proofs.Common.{◌≡◌, ◌∙◌, ℕ, List, Option, None, Some, Ok, ap, subst}
use Rattle.std.proofs.lemmas.Result.{err_from_is_err_and}
use Rattle.bag_folder.specs.declared.entry_kind.EntryKind.{EntryKind}
use Rattle.bag_folder.specs.declared.entry_kind.EntryKind.TheVariants.{File, Directory, Link, Special}
use Rattle.bag_folder.specs.Directories.{name_below}
use Rattle.bag_folder.specs.DiskNames.{Standing}
use Rattle.bag_folder.proofs.WayLemmas.{FindsIn, file_met, hidden_met, other_met, reached_on, reached_past, whole_met}
use Rattle.bag_folder.proofs.folder_supplier.standing_below.Goals as goal
use Rattle.bag_folder.proofs.folder_supplier.standing_below.Goals.{in-Some+in_ok-standing_at+in-Some-Directory, in_default}

pub loop-end-preserved : goal.loop-end-preserved
loop-end-preserved g c = elim c.match-directory_to.branch [
  | in-Some+in_ok-standing_at+in-Some-Directory w ↦
      let folder : w.in_ok-standing_at.field-0 ≡ Some Directory =
      w.in-Some-Directory.is ∙ ap Some w.in-Some-Directory.field-0-is in
      let name = name_below c.args.folder.now w.in-Some.front.now in
      reached_on _ _ _ w.in-Some.front.now _ c.loop-end.invariant w.in-Some.ensures
      (subst (λ (kind : Option EntryKind). FindsIn (g.R.Names.standing c.args.rt.now) name (Ok kind))
      folder w.in_ok-standing_at.ensures.stands)
  | in_default w ↦ reached_past _ _ _ _ c.loop-end.invariant w.in_default.ensures
]

pub returns-in_err-standing_at-clause-stands : goal.returns-in_err-standing_at-clause-stands
returns-in_err-standing_at-clause-stands g c =
    let error = err_from_is_err_and c.from_residual.result c.from_residual.ensures.1 in
    rw (error.1, error.2) (hidden_met _ _ _ _ c.in-Some.front.now _ c.in_err-standing_at.field-0.0
    c.loop-end.invariant c.in-Some.ensures c.in_err-standing_at.ensures.named
    c.in_err-standing_at.ensures.stands)

kind_found : (o : Option Standing) (name : List ℕ) (found is : Option EntryKind) → found ≡ is
    → FindsIn o name (Ok found) → FindsIn o name (Ok is)
kind_found o name found is same finds =
    subst (λ (kind : Option EntryKind). FindsIn o name (Ok kind)) same finds

pub returns-in-None-clause-stands : goal.returns-in-None-clause-stands
returns-in-None-clause-stands g c =
    other_met _ _ _ _ c.in-Some.front.now _ None tt c.loop-end.invariant c.in-Some.ensures
    c.in_ok-standing_at.ensures.named
    (kind_found _ _ _ _ c.in-None.is c.in_ok-standing_at.ensures.stands)

pub returns-in-Some-File-clause-stands : goal.returns-in-Some-File-clause-stands
returns-in-Some-File-clause-stands g c =
    file_met _ _ _ _ c.in-Some.front.now _ c.loop-end.invariant c.in-Some.ensures
    c.in_ok-standing_at.ensures.named
    (kind_found _ _ _ (Some File) (c.in-Some-File.is ∙ ap Some c.in-Some-File.field-0-is)
    c.in_ok-standing_at.ensures.stands)

pub returns-in-Some-Link-clause-stands : goal.returns-in-Some-Link-clause-stands
returns-in-Some-Link-clause-stands g c =
    other_met _ _ _ _ c.in-Some.front.now _ (Some Link) tt c.loop-end.invariant c.in-Some.ensures
    c.in_ok-standing_at.ensures.named
    (kind_found _ _ _ (Some Link) (c.in-Some-Link.is ∙ ap Some c.in-Some-Link.field-0-is)
    c.in_ok-standing_at.ensures.stands)

pub returns-in-Some-Special-clause-stands : goal.returns-in-Some-Special-clause-stands
returns-in-Some-Special-clause-stands g c =
    other_met _ _ _ _ c.in-Some.front.now _ (Some Special) tt c.loop-end.invariant
    c.in-Some.ensures c.in_ok-standing_at.ensures.named
    (kind_found _ _ _ (Some Special) (c.in-Some-Special.is ∙ ap Some c.in-Some-Special.field-0-is)
    c.in_ok-standing_at.ensures.stands)

pub returns-clause-stands : goal.returns-clause-stands
returns-clause-stands g c =
    whole_met _ _ _ _ _ c.standing_at-2.result c.loop-end.invariant c.loop-end-test.false
    c.standing_at-2.ensures.named c.standing_at-2.ensures.stands
