use Rattle.std.proofs.Common.{◌≡◌, ℕ, List, Some, slice_get, subst}
use Rattle.bag_digest.proofs.ListLemmas.{stands}
use Rattle.bag_rules.specs.FileBatchInside.{AreAlgsOf, AreListedAlgs, IsReadFor}
use Rattle.bag_rules.proofs.BatchLemmas.{none_of}
use Rattle.bag_rules.proofs.TreeLemmas.{path_shown}
use Rattle.bag_rules.proofs.Words.{HasFileAt, paths_in, Shown}
use Rattle.bag_rules.proofs.file_batch.look_up.Goals as goal

-- the path of a file that has the place in a tree with these paths
named : {shown : Shown} {i : ℕ} {path octets : List ℕ} (paths : List (List ℕ)) → paths_in shown ≡ paths → HasFileAt shown i path octets → slice_get paths i ≡ Some path
named {shown} {i} {path} paths same at = subst (λ ps. slice_get ps i ≡ Some path) same (path_shown at)

pub returns-in_default-clause-found : goal.returns-in_default-clause-found
returns-in_default-clause-found g c = λ shown paths are path octets at.
    none_of c.args.wants.now path _ c.in_default.not-Some (c.in_ok-set.ensures.known path (named _ paths at))

pub returns-in-Some-find-clause-found : goal.returns-in-Some-find-clause-found
returns-in-Some-find-clause-found g c = λ shown paths are path octets at.
    let wants = c.args.wants.now in
    let read : IsReadFor wants path c.in-Some.set = subst (AreAlgsOf wants path) c.in-Some.is (c.in_ok-set.ensures.known path (named _ paths at)) in
    record {
      read = read.0;
      set = c.in-Some.set;
      sums = c.in-Some-find.ensures.found shown path octets are at;
      covers = read.1;
    }

pub returns-in-None-clause-unkept : goal.returns-in-None-clause-unkept
returns-in-None-clause-unkept g c = λ listed is.
    let here = stands (paths_in (g.T.Paths.shown c.args.tree.now)) c.args.place c.requires in
    let only = subst (AreListedAlgs c.args.wants.now here.0) c.in-Some.is (c.in_ok-set.ensures.only here.0 here.1) in
    c.in-None.ensures.unkept (λ alg h. listed c.args.place here.0 alg is here.1 (only alg h)) is
