use Rattle.std.proofs.Common.{◌≡◌, None, Some, ap, sym}
use Rattle.bag_folder.specs.MemNames.{MemEntryShown}
use Rattle.bag_folder.proofs.MemNameLemmas.{itself_is}
use Rattle.bag_folder.proofs.mem_names.MemNamesNames.kind.Goals as goal

pub returns-in-Some : goal.returns-in-Some
returns-in-Some c =
    let names = c.args.self.now in
    let kind : c.entry.inside.kind ≡ c.in-Some.entry.now.kind =
    ap (λ (entry : MemEntryShown). entry.kind) c.entry.view_is in
    rw kind (sym (itself_is names.absent names.entries.items c.args.name.now
    (Some c.in-Some.entry.now) c.in-Some.ensures))

pub returns-in-None : goal.returns-in-None
returns-in-None c =
    let names = c.args.self.now in
    sym (itself_is names.absent names.entries.items c.args.name.now None c.in-None.ensures)
