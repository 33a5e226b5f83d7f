use Rattle.std.proofs.Common.{false, subst, sym}
use Rattle.sqlite.specs.Files.{IsBlankAs, file_state}
use Rattle.sqlite.specs.Start.{FindsIn}
use Rattle.sqlite_wal.specs.Files.{image_at}
use Rattle.bag_program.proofs.FileLemmas.{not_connected}
use Rattle.bag_program.proofs.ledgers.locked_file.LockedFile.connect.Goals as goal

pub returns-in-Ok-clause-connected : goal.returns-in-Ok-clause-connected
returns-in-Ok-clause-connected g c = record {
  fresh = c.in-Ok.ensures.fresh;
  shows = λ clean.
      let found = c.in-Ok.ensures.found clean in
      (subst (λ i. FindsIn i (file_state c.in-Ok.connection)) c.requires.open.holds (record { holds = found.holds; reads = found.reads }), c.in-Ok.ensures.opened clean);
  sums = λ clean blank. c.in-Ok.ensures.sums clean (subst (IsBlankAs false) (sym c.requires.open.holds) blank);
}

pub returns-in-Err-clause-connected : goal.returns-in-Err-clause-connected
returns-in-Err-clause-connected g c = not_connected _ (image_at g.S.Start) c.args.files c.in-Err.left c.in-Err.error _ c.unconnected.result c.requires.open c.in-Err.ensures.named c.in-Err.ensures.cause c.in-Err.ensures.unharmed
    c.unconnected.ensures.left c.unconnected.ensures.fault.0 c.unconnected.ensures.fault.1
