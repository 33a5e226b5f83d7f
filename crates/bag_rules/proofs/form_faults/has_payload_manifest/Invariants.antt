use Rattle.std.proofs.Common.{◌≡◌, ◌≢◌, ◌<◌, ℕ, List, Some, length, slice_get}
use Rattle.bag_rules.proofs.Words.{Alg, manifest_file, paths_in, Payload}
use Rattle.bag_rules.proofs.form_faults.has_payload_manifest.Given as goal

abbrev pub invariant-loop-i : goal.invariant-loop-i
invariant-loop-i g l =
    let paths = paths_in (g.T.Paths.shown l.tree) in
    record {
      all : l.i-end ≡ length paths;
      none : (k : ℕ) → k < l.i → (path : List ℕ) (alg : Alg) → slice_get paths k ≡ Some path → path ≢ manifest_file Payload alg;
    }
