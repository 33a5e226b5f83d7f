use Rattle.std.proofs.Common.{take}
use Rattle.bag_rules.proofs.Words.{Adds}
use Rattle.bag_rules.specs.FilesInside.{OfSome}
use Rattle.bag_rules.proofs.FormLemmas.{IsNotListedIn}
use Rattle.bag_rules.proofs.form_faults.add_unlisted_by.Given as goal

abbrev pub invariant-loop-manifest : goal.invariant-loop-manifest
invariant-loop-manifest l = Adds l.fn.faults.items l.faults.items (OfSome (take l.manifest-index l.manifests) (IsNotListedIn l.path l.alg))
