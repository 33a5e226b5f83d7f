use Rattle.std.proofs.Common.{◌≡◌, drop}
use Rattle.bag_folder.specs.MemNames.{first_in}
use Rattle.bag_folder.proofs.mem_names.MemNames.find.Given as goal

abbrev pub invariant-loop-entry : goal.invariant-loop-entry
invariant-loop-entry l =
    first_in (drop l.entry-index l.entry-items) l.name ≡ first_in l.self.entries.items l.name
