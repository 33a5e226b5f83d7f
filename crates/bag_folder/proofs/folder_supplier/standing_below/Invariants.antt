use Rattle.bag_folder.proofs.WayLemmas.{AreReachedIn}
use Rattle.bag_folder.proofs.folder_supplier.standing_below.Given as goal

abbrev pub invariant-loop-end : goal.invariant-loop-end
invariant-loop-end g l = AreReachedIn (g.R.Names.standing l.rt) l.folder l.path l.end
