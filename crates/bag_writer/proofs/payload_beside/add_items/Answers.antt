use Rattle.std.proofs.Common.{◌≡◌, ◌∙◌, ◌+◌, ◌++◌, ◌∷◌, [], ℕ, Some, ap, append-nil, append_assoc, arith, length, refl, slice_get, subst, sym, take}
use Rattle.std.proofs.lemmas.List.{take_all}
use Rattle.std.proofs.lemmas.Option.{slice_get_read}
use Rattle.std.proofs.lemmas.Result.{err_from_is_err_and}
use Rattle.bag_digest.specs.declared.algorithm.AlgSet.{AlgSet}
use Rattle.bag_rules.specs.Files.{Files}
use Rattle.bag_writer.specs.Finishing.{AddsFiles, IsTakenOf}
use Rattle.bag_writer.specs.HeldFiles.{AddsFile, AreItemsSoFar}
use Rattle.bag_writer.specs.declared.items.Items.{Items}
use Rattle.bag_writer.proofs.Pairs.{zip_at, zip_count}
use Rattle.bag_writer.proofs.PayloadLists.{File}
use Rattle.bag_writer.proofs.payload_beside.add_items.Goals as goal
use Rattle.bag_digest.proofs.ListLemmas.{next_taken}

-- one file more
adds_next : (set : AlgSet) (files : Files) (k : ℕ) (file : File) (old mid new : Items) → slice_get files k ≡ Some file → AddsFiles set (take k files) old mid → AddsFile set file mid new → AddsFiles set (take (k + 1) files) old new
adds_next set files k file old mid new at before adds start so_far =
    subst (AreItemsSoFar set new) (append_assoc start (take k files) (file ∷ []) ∙ ap (λ list. start ++ list) (sym (next_taken files k file at))) (adds (start ++ take k files) (before start so_far))

pub loop-copy-init : goal.loop-copy-init
loop-copy-init g c = record { added = λ set files taken before so_far. subst (AreItemsSoFar set c.args.items) (sym (append-nil before)) so_far }

pub offset_bounds-copies-copy-index : goal.offset_bounds-copies-copy-index
offset_bounds-copies-copy-index g c = omega (arith, c.loop-copy-test.true)

pub add_item-requires : goal.add_item-requires
add_item-requires g c =
    let xs = c.args.copies.now in
    let k = c.loop-copy.copy-index in
    let there : slice_get xs k ≡ Some c.copy-item.result = slice_get_read xs (length xs) k c.copy-item.result refl c.loop-copy-test.true c.copy-item.is in
    let one = zip_at (IsTakenOf g.F.OpenFile.place (g.T.Paths.shown c.args.tree.now) c.requires.0) xs c.requires.1 c.requires.2 k c.copy-item.result there in
    (c.requires.0, one.0, one.2)

pub returns-in_err-items-clause-added : goal.returns-in_err-items-clause-added
returns-in_err-items-clause-added g c = λ set files taken.
    let p = err_from_is_err_and c.from_residual.result c.from_residual.ensures.1 in
    rw p.1 tt

pub returns-in_err-items-clause-err : goal.returns-in_err-items-clause-err
returns-in_err-items-clause-err g c =
    let p = err_from_is_err_and c.from_residual.result c.from_residual.ensures.1 in
    rw (p.1, p.2) c.in_err-items.ensures.err

pub loop-copy-preserved : goal.loop-copy-preserved
loop-copy-preserved g c = record {
  added = λ set files taken.
      let xs = c.args.copies.now in
      let k = c.loop-copy.copy-index in
      let there : slice_get xs k ≡ Some c.copy-item.result = slice_get_read xs (length xs) k c.copy-item.result refl c.loop-copy-test.true c.copy-item.is in
      let one = zip_at (IsTakenOf g.F.OpenFile.place (g.T.Paths.shown c.args.tree.now) set) xs files taken k c.copy-item.result there in
      adds_next set files k one.0 c.args.items c.loop-copy.items c.in_ok-items.items one.1 (c.loop-copy.invariant.added set files taken) (c.in_ok-items.ensures.added set one.0 one.2);
}

pub returns-clause-added : goal.returns-clause-added
returns-clause-added g c = λ set files taken.
    let count = zip_count (IsTakenOf g.F.OpenFile.place (g.T.Paths.shown c.args.tree.now) set) c.args.copies.now files taken in
    subst (λ list. AddsFiles set list c.args.items c.loop-copy.items) (take_all c.loop-copy.copy-index files (omega (arith, count, c.loop-copy-test.false))) (c.loop-copy.invariant.added set files taken)
