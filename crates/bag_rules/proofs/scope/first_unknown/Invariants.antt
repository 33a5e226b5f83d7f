use Rattle.std.proofs.Common.{◌≡◌, length}
use Rattle.bag_rules.proofs.Words.{NoneUnknown, paths_in}
use Rattle.bag_rules.proofs.scope.first_unknown.Given as goal

abbrev pub invariant-loop-i : goal.invariant-loop-i
invariant-loop-i g l = record {
  none : NoneUnknown (paths_in (g.T.Paths.shown l.tree)) l.i;
  all : l.i-end ≡ length (paths_in (g.T.Paths.shown l.tree));
}
