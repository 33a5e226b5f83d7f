use Rattle.std.proofs.Common.{◌∙◌, None, Some, ap, sym}
use Rattle.bag_folder.specs.declared.entry_kind.EntryKind.{EntryKind}
use Rattle.bag_folder.specs.MemNames.{MemEntryShown, content_of}
use Rattle.bag_folder.proofs.MemNameLemmas.{content_is, no_file}
use Rattle.bag_folder.proofs.mem_names.MemNamesNames.open.Goals as goal

pub returns-in-File-clause-opens : goal.returns-in-File-clause-opens
returns-in-File-clause-opens c =
    let names = c.args.self.now in
    content_is names.absent names.entries.items c.args.name.now (Some c.in-Some.entry.now)
    c.in-Some.ensures
    ∙ ap (λ (entry : MemEntryShown). content_of names.absent entry.kind entry.octets)
    (sym c.entry.view_is)
    ∙ ap (λ (kind : EntryKind). content_of names.absent kind c.entry.inside.octets.now)
    c.in-File.is

pub returns-in_default-clause-opens : goal.returns-in_default-clause-opens
returns-in_default-clause-opens c =
    let names = c.args.self.now in
    content_is names.absent names.entries.items c.args.name.now (Some c.in-Some.entry.now)
    c.in-Some.ensures
    ∙ ap (λ (entry : MemEntryShown). content_of names.absent entry.kind entry.octets)
    (sym c.entry.view_is)
    ∙ no_file names.absent c.entry.inside.kind c.entry.inside.octets.now c.in_default.not-File

pub returns-in-None-clause-opens : goal.returns-in-None-clause-opens
returns-in-None-clause-opens c =
    let names = c.args.self.now in
    content_is names.absent names.entries.items c.args.name.now None c.in-None.ensures
