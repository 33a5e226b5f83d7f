use Rattle.std.proofs.Common.{◌≡◌, ◌∙◌, ◌≤◌, Some, ap, arith, length, slice_get, subst, sym}
use Rattle.std.specs.Prelude.{IfOk, IsSomeAnd}
use Rattle.std.proofs.lemmas.Option.{same_Some, slice_get_within}
use Rattle.std.proofs.lemmas.Result.{err_from_is_err_and}
use Rattle.bag_rules.proofs.Words.{paths_in}
use Rattle.bag_writer.specs.HeldFiles.{AddsFile}
use Rattle.bag_writer.specs.PayloadSteps.{IsFoundOf}
use Rattle.bag_digest.specs.declared.buffers.TheConstants.{FRONT}
use Rattle.bag_writer.proofs.FileSteps.{within_of}
use Rattle.bag_writer.proofs.payload_beside.add_item.Goals as goal

pub unreachable-requires : goal.unreachable-requires
unreachable-requires g c = rw c.in_default.is at c.requires.2.found_is

pub path-requires : goal.path-requires
path-requires g c =
    let inside = slice_get_within (paths_in (g.T.Paths.shown c.args.tree.now)) (g.F.OpenFile.place c.args.copy.now.source) c.requires.1.0 c.requires.2.at.named in
    omega (arith, inside, c.place.ensures)

pub returns-in_err-path-clause-added : goal.returns-in_err-path-clause-added
returns-in_err-path-clause-added g c = λ set file taken.
    let p = err_from_is_err_and c.from_residual.result c.from_residual.ensures.1 in
    rw p.1 tt

pub returns-in_err-path-clause-err : goal.returns-in_err-path-clause-err
returns-in_err-path-clause-err g c =
    let p = err_from_is_err_and c.from_residual.result c.from_residual.ensures.1 in
    rw p.1 p.2

pub add-requires-clause-room : goal.add-requires-clause-room
add-requires-clause-room g c = subst (λ xs. length xs ≤ FRONT) (sym c.as_slice.ensures.value) c.requires.2.short

pub add-requires-clause-within : goal.add-requires-clause-within
add-requires-clause-within g c =
    let set = c.requires.0 in
    let file = c.requires.1 in
    let found = subst (λ o. IsSomeAnd o (λ f. IsFoundOf set c.args.copy.now.piece.items f file.1)) c.in-Some.is c.requires.2.found_is in
    within_of set c.as_slice.result.now c.in-Some.found file.1 (subst (λ xs. IsFoundOf set xs c.in-Some.found file.1) (sym c.as_slice.ensures.value) found)

pub returns-clause-added : goal.returns-clause-added
returns-clause-added g c = λ set file taken.
    let found = subst (λ o. IsSomeAnd o (λ f. IsFoundOf set c.args.copy.now.piece.items f file.1)) c.in-Some.is taken.found_is in
    let paths = paths_in (g.T.Paths.shown c.args.tree.now) in
    let there : slice_get paths (g.F.OpenFile.place c.args.copy.now.source) ≡ Some c.path.result.now = ap (slice_get paths) (sym c.place.ensures) ∙ c.path.ensures in
    let named : c.path.result.now ≡ file.0 = same_Some c.path.result.now file.0 (sym there ∙ taken.at.named) in
    let same : c.in_ok-path.path ≡ file.0 = c.in_ok-path.ensures.cases ∙ named in
    subst (λ p. IfOk c.add.result (AddsFile set (p, file.1) c.args.items)) same (c.add.ensures.added set file.1 (subst (λ xs. IsFoundOf set xs c.in-Some.found file.1) (sym c.as_slice.ensures.value) found))

pub returns-clause-err : goal.returns-clause-err
returns-clause-err g c = c.add.ensures.err
