use Rattle.std.proofs.Common.{◌≡◌, ◌∙◌, ℕ, List, Option, None, Some, Ok, Err, ap, false, refl, rules, string_bytes, subst}
use Rattle.std.proofs.lemmas.Result.{err_from_is_err_and}
use Rattle.bag_folder.specs.Directories.{name_below}
use Rattle.bag_folder.specs.Supplying.{IsNameTo}
use Rattle.bag_folder.specs.DiskNames.{Standing}
use Rattle.bag_folder.specs.declared.entry_kind.EntryKind.{EntryKind}
use Rattle.bag_folder.specs.declared.entry_kind.EntryKind.TheVariants.{File, Directory, Link, Special}
use Rattle.bag_folder.specs.declared.fault.Cause.TheVariants as why
use Rattle.bag_folder.proofs.FaultLemmas.{OnSome-weaker, whole_name}
use Rattle.bag_folder.proofs.WayLemmas.{MeetsIn, answers_as, answers_directory, answers_hidden, answers_lacking, answers_link, answers_shut_as, answers_special}
use Rattle.bag_folder.proofs.folder_supplier.FolderSupplier.seek.Goals as goal

pub returns-in_err-standing_below-clause-failed : goal.returns-in_err-standing_below-clause-failed
returns-in_err-standing_below-clause-failed g c =
    let error = err_from_is_err_and c.from_residual.result c.from_residual.ensures.1 in
    let name = string_bytes c.standing_below.new.name in
    rw (error.1, error.2) (OnSome-weaker c.in_err-standing_below.field-0.0 (IsNameTo c.as_str.result.now c.args.path.now name) (IsNameTo c.args.self.now.folder c.args.path.now name)
    (λ looked_up. (looked_up.0, looked_up.1, (search rules))) c.in_err-standing_below.ensures.named)

pub returns-in_err-opened-in-Some-File-clause-failed : goal.returns-in_err-opened-in-Some-File-clause-failed
returns-in_err-opened-in-Some-File-clause-failed g c =
    let error = err_from_is_err_and c.from_residual-in_err-opened-in-Some-File.result c.from_residual-in_err-opened-in-Some-File.ensures.1 in
    let name = string_bytes c.opened.new.name in
    rw (error.1, error.2) (OnSome-weaker c.in_err-opened-in-Some-File.field-0.0 (name ≡ name_below c.as_str-in-Some-File.result.now c.args.path.now) (IsNameTo c.args.self.now.folder c.args.path.now name)
    (λ opened. whole_name c.args.self.now.folder c.args.path.now name (search rules)) c.in_err-opened-in-Some-File.ensures.named)

meets_as : (o : Option Standing) (folder path name : List ℕ) (found is : Option EntryKind)
    → found ≡ is → MeetsIn o folder path name (Ok found) → MeetsIn o folder path name (Ok is)
meets_as o folder path name found is same meets =
    subst (λ (kind : Option EntryKind). MeetsIn o folder path name (Ok kind)) same meets

pub returns-in_err-standing_below-clause-answers : goal.returns-in_err-standing_below-clause-answers
returns-in_err-standing_below-clause-answers g c =
    let error = err_from_is_err_and c.from_residual.result c.from_residual.ensures.1 in
    let name = string_bytes c.standing_below.new.name in
    rw (error.1, error.2) (answers_as (g.R.Names.standing c.self.inside.rt)
    c.args.self.now.standing c.as_str.result.now c.args.self.now.folder c.args.path.now name None
    (Err c.in_err-standing_below.field-0.0) (search rules) (search rules)
    (answers_hidden _ _ _ _ _ None c.in_err-standing_below.ensures.stands))

pub returns-in-None-clause-answers : goal.returns-in-None-clause-answers
returns-in-None-clause-answers g c =
    answers_as (g.R.Names.standing c.self.inside.rt) c.args.self.now.standing c.as_str.result.now
    c.args.self.now.folder c.args.path.now (string_bytes c.standing_below.new.name) None (Ok false)
    (search rules) (search rules) (answers_lacking _ _ _ _ None
    (meets_as _ _ _ _ _ None c.in-None.is c.in_ok-standing_below.ensures.stands))

pub returns-in_err-opened-in-Some-File-clause-answers : goal.returns-in_err-opened-in-Some-File-clause-answers
returns-in_err-opened-in-Some-File-clause-answers g c =
    let error = err_from_is_err_and c.from_residual-in_err-opened-in-Some-File.result
    c.from_residual-in_err-opened-in-Some-File.ensures.1 in
    let below = c.args.self.now.folder in
    let cause = c.in_err-opened-in-Some-File.field-0.0 in
    rw (error.1, error.2) (answers_as (g.R.Names.standing c.self.inside.rt)
    c.args.self.now.standing below below c.args.path.now (string_bytes c.opened.new.name) None
    (Err cause) (search rules) refl (answers_shut_as (g.R.Names.standing c.self.inside.rt) below
    c.as_str.result.now c.as_str-in-Some-File.result.now c.args.path.now
    (string_bytes c.standing_below.new.name) (string_bytes c.opened.new.name) cause None
    (search rules) (search rules) (meets_as _ _ _ _ _ (Some File)
    (c.in-Some-File.is ∙ ap Some c.in-Some-File.field-0-is) c.in_ok-standing_below.ensures.stands)
    c.in_err-opened-in-Some-File.ensures.named c.in_err-opened-in-Some-File.ensures.opens))

pub returns-in-Some-Directory-clause-answers : goal.returns-in-Some-Directory-clause-answers
returns-in-Some-Directory-clause-answers g c =
    answers_as (g.R.Names.standing c.self.inside.rt) c.args.self.now.standing c.as_str.result.now
    c.args.self.now.folder c.args.path.now (string_bytes c.standing_below.new.name) None
    (Err (Some (why.System c.from-error.result))) (search rules) (search rules)
    (answers_directory _ _ _ _ c.from-error.result None c.from-error.ensures
    (meets_as _ _ _ _ _ (Some Directory)
    (c.in-Some-Directory.is ∙ ap Some c.in-Some-Directory.field-0-is)
    c.in_ok-standing_below.ensures.stands))

pub returns-in-Some-Link-clause-answers : goal.returns-in-Some-Link-clause-answers
returns-in-Some-Link-clause-answers g c =
    answers_as (g.R.Names.standing c.self.inside.rt) c.args.self.now.standing c.as_str.result.now
    c.args.self.now.folder c.args.path.now (string_bytes c.standing_below.new.name) None
    (Err (Some why.Link)) (search rules) (search rules) (answers_link _ _ _ _ None
    (meets_as _ _ _ _ _ (Some Link) (c.in-Some-Link.is ∙ ap Some c.in-Some-Link.field-0-is)
    c.in_ok-standing_below.ensures.stands))

pub returns-in-Some-Special-clause-answers : goal.returns-in-Some-Special-clause-answers
returns-in-Some-Special-clause-answers g c =
    answers_as (g.R.Names.standing c.self.inside.rt) c.args.self.now.standing c.as_str.result.now
    c.args.self.now.folder c.args.path.now (string_bytes c.standing_below.new.name) None
    (Err (Some why.Special)) (search rules) (search rules) (answers_special _ _ _ _ None
    (meets_as _ _ _ _ _ (Some Special)
    (c.in-Some-Special.is ∙ ap Some c.in-Some-Special.field-0-is)
    c.in_ok-standing_below.ensures.stands))
