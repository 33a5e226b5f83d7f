use Rattle.std.proofs.Common.{w64, arith, take_all}
use Rattle.bag_sqlite.proofs.Words.{HasCleanDisk, state, to_z-of_z}
use Rattle.bag_sqlite.proofs.OpeningLemmas.{tags_grow}
use Rattle.bag_sqlite.proofs.SqlLemmas.{nothing_then}
use Rattle.bag_sqlite.proofs.beginning.insert_tags.Goals as goal

pub loop-file-preserved : goal.loop-file-preserved
loop-file-preserved g c =
    let old = state g.S.Store c.args.tx.now.conn.now in
    let mid = state g.S.Store c.loop-file.tx.conn.now in
    let new = state g.S.Store c.insert_tag.new.tx.conn.now in
    let before = λ (clean : HasCleanDisk new). let early : HasCleanDisk mid = omega (arith, clean, c.insert_tag.ensures.kept.survives.clean) in early in
    let same = to_z-of_z w64 c.args.transfer c.ranges.transfer in
    record {
      kept = nothing_then c.loop-file.invariant.kept c.insert_tag.ensures.kept;
      rows = λ clean o way.
          let so_far = rw same at (c.loop-file.invariant.rows (before clean) o way) in
          let one = rw (same, c.as_str.ensures.text, c.path.ensures, c.body.ensures) at (c.in_ok-insert_tag.ensures.added clean o so_far.0) in
          rw same (one.0, tags_grow old.now.trees mid.now.trees new.now.trees c.args.transfer c.args.files.now c.loop-file.file-index c.file-item.result c.loop-file-test.true c.file-item.is so_far.1 one.1);
    }

pub returns-clause-added : goal.returns-clause-added
returns-clause-added g c clean o way = rw (to_z-of_z w64 c.args.transfer c.ranges.transfer, take_all c.loop-file.file-index c.args.files.now c.loop-file-test.false) at (c.loop-file.invariant.rows clean o way)

pub returns-in_err-insert_tag-clause-kept : goal.returns-in_err-insert_tag-clause-kept
returns-in_err-insert_tag-clause-kept g c = nothing_then c.loop-file.invariant.kept c.insert_tag.ensures.kept
