use Rattle.bag_folder.specs.Directories.{AreGiven}
use Rattle.bag_folder.proofs.entries.gathered.Given as goal

abbrev pub invariant-loop-given : goal.invariant-loop-given
invariant-loop-given g l = AreGiven l.yielded l.entries.items
