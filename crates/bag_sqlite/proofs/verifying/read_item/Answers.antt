use Rattle.std.proofs.Common.{◌≡◌, ◌∙◌, Ok, w64, inl, inr}
use Rattle.bag_sqlite.proofs.Words.{err_from_is_err_and, IsWantOf, to_z-of_z}
use Rattle.bag_sqlite.proofs.BatchLemmas.{found_item, known_by}
use Rattle.bag_sqlite.proofs.RefusingLemmas.{bad_path, path_error}
use Rattle.bag_sqlite.proofs.verifying.read_item.Goals as goal

pub returns-in_err-path-clause-found : goal.returns-in_err-path-clause-found
returns-in_err-path-clause-found g c clean db stands tags plan =
    let p = err_from_is_err_and c.from_residual.result c.from_residual.ensures.1 in
    let read = c.in_err-path.ensures in
    rw (p.1, p.2) (path_error _ _ c.path_in.result read.0 _ read.1 c.path_in.ensures.refused read.2)

pub returns-in_default-clause-found : goal.returns-in_default-clause-found
returns-in_default-clause-found g c clean db stands tags plan =
    let none = bad_path _ c.path_in.result (rw c.in_default.is at c.in_ok-path.ensures) c.path_in.ensures.refused in
    inl (λ both. none both.0)

pub returns-in_err-content-clause-found : goal.returns-in_err-content-clause-found
returns-in_err-content-clause-found g c clean db stands tags plan =
    let p = err_from_is_err_and c.from_residual-in_err-content.result c.from_residual-in_err-content.ensures.1 in
    rw (p.1, p.2) (c.in_err-content.ensures.refused clean db stands)

pub returns-clause-found : goal.returns-clause-found
returns-clause-found g c clean db stands tags plan =
    let size = rw (to_z-of_z w64 c.args.size c.ranges.size) at c.in-Some-size_in.ensures.0 in
    let it = rw (c.in-None.is, to_z-of_z w64 c.args.item c.ranges.item) at (c.in_ok-content.ensures.refused clean db stands) in
    inr (inr (c.in-Some-size_in.size, size, inl it))

pub returns-in-Some-2-clause-found : goal.returns-in-Some-2-clause-found
returns-in-Some-2-clause-found g c clean db stands tags plan =
    let read : c.path_in.result ≡ Ok c.in-Some.path = rw c.in-Some.is at c.in_ok-path.ensures in
    let path : c.in-Some.path ≡ c.args.path.now = rw read at c.path_in.ensures.path in
    let is : IsWantOf tags c.args.path.now c.in-Some-want.want = rw path at (c.in-Some-want.ensures tags plan) in
    let size = rw (to_z-of_z w64 c.args.size c.ranges.size) at c.in-Some-size_in.ensures.0 in
    let it = rw (c.in-Some-2.is, to_z-of_z w64 c.args.item c.ranges.item) at (c.in_ok-content.ensures.content clean db stands) in
    let known = known_by g.S.Store db c.args.format tags c.args.item c.args.path.now c.args.size c.in-Some-size_in.size it.0 c.in-Some-want.want is it.1 size c.in-Some-size_in.ensures.1 it.2 in
    found_item g.S.Store db c.args.format tags c.args.item c.args.path.now c.args.size c.in-Some-want.want it.0 c.of.result is.path_is known
    (c.of.ensures.told c.algs.result it.0 (λ alg listed. c.algs.ensures alg ∙ listed) it.2 it.3)

pub returns-in-Some-2-clause-little : goal.returns-in-Some-2-clause-little
returns-in-Some-2-clause-little g c = c.of.ensures.little (rw c.in-Some-2.is at c.in_ok-content.ensures.held)
