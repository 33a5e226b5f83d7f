use Rattle.std.proofs.Common.{◌≡◌, ◌<◌, ℕ, Some, length, slice_get, true}
use Rattle.bag_rules.proofs.Words.{Alg, has, manifest_file, paths_in, Tag}
use Rattle.bag_rules.proofs.checking.tag_algorithms.Given as goal

abbrev pub invariant-loop-i : goal.invariant-loop-i
invariant-loop-i g l =
    let paths = paths_in (g.T.Paths.shown l.tree) in
    record {
      all : l.i-end ≡ length paths;
      covers : (k : ℕ) → k < l.i → (alg : Alg) → slice_get paths k ≡ Some (manifest_file Tag alg) → has l.set alg ≡ true;
    }
