use Rattle.std.proofs.Common.{sym}
use Rattle.std.specs.declared.io.Error.{Error}
use Rattle.bag_folder.proofs.MemNameLemmas.{way_of_one, way_stands}
use Rattle.bag_folder.proofs.mem_names.MemNamesNames.make_directories.Goals as goal

pub returns-in-Ok-Directory : goal.returns-in-Ok-Directory
returns-in-Ok-Directory c =
    let names = c.args.self.now in
    way_stands Error names.absent names.entries.items c.args.name.now tt
    (sym (rw c.in-Ok-Directory.field-0-is at c.in-Ok-Directory.ensures))

pub returns-in_default : goal.returns-in_default
returns-in_default c =
    let old = c.args.self.now in
    let new = c.add.new.self in
    way_of_one old.absent new.absent old.entries.items new.entries.items c.args.name.now
    c.add.result c.add.ensures
