use Rattle.std.proofs.Common.{◌∙◌, Err, Ok, ap, sym}
use Rattle.std.proofs.lemmas.Result.{err_from_is_err_and}
use Rattle.bag_folder.specs.MemNames.{behind_of}
use Rattle.bag_folder.proofs.MemNameLemmas.{behind_is, no_link}
use Rattle.bag_folder.proofs.mem_names.MemNamesNames.kind_behind.Goals as goal

pub returns-in_err-kind : goal.returns-in_err-kind
returns-in_err-kind c =
    let names = c.args.self.now in
    let error = err_from_is_err_and c.from_residual.result c.from_residual.ensures.1 in
    rw (error.1, error.2) (sym (behind_is names.absent names.entries.items c.args.name.now
    (Err c.in_err-kind.field-0.0) c.in_err-kind.ensures))

pub returns-in-Link : goal.returns-in-Link
returns-in-Link c =
    let names = c.args.self.now in
    sym (behind_is names.absent names.entries.items c.args.name.now (Ok c.in_ok-kind.kind)
    c.in_ok-kind.ensures ∙ ap (behind_of names.absent) c.in-Link.is)

pub returns-in_default : goal.returns-in_default
returns-in_default c =
    let names = c.args.self.now in
    sym (behind_is names.absent names.entries.items c.args.name.now (Ok c.in_ok-kind.kind)
    c.in_ok-kind.ensures ∙ no_link names.absent c.in_ok-kind.kind c.in_default.not-Link)
