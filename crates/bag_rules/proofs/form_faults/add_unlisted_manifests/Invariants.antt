use Rattle.std.proofs.Common.{◌≡◌, length, take}
use Rattle.bag_rules.proofs.Words.{Adds, IsUnlistedBy, paths_in}
use Rattle.bag_rules.specs.FilesInside.{OfSome}
use Rattle.bag_rules.proofs.form_faults.add_unlisted_manifests.Given as goal

abbrev pub invariant-loop-i : goal.invariant-loop-i
invariant-loop-i g l =
    let paths = paths_in (g.T.Paths.shown l.tree) in
    record {
      all : l.i-end ≡ length paths;
      added : Adds l.fn.faults.items l.faults.items (OfSome (take l.i paths) (λ path. IsUnlistedBy l.manifests path));
    }
