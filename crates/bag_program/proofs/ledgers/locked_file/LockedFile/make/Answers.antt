use Rattle.std.proofs.Common.{subst, sym}
use Rattle.sqlite_wal.specs.Files.{image_at}
use Rattle.bag_program.specs.LedgerFiles.{IsAsItWas, NoAnswer}
use Rattle.bag_program.proofs.FileLemmas.{unmade}
use Rattle.bag_program.proofs.ledgers.locked_file.LockedFile.make.Goals as goal

pub returns-in-Ok-clause-made : goal.returns-in-Ok-clause-made
returns-in-Ok-clause-made g c = (
  c.made.ensures.2,
  rw c.made.ensures.0 (record {
    opened = c.args.connection;
    connected = c.requires.connected;
    survives = c.in-Ok.ensures.survives;
    makes = λ clean. let kept = c.in-Ok.ensures.kept clean in record { none = kept.0; keeps = kept.2 };
  }),
)

pub returns-in-Err-clause-made : goal.returns-in-Err-clause-made
returns-in-Err-clause-made g c = NoAnswer (unmade _ c.in-Err.field-0.fault c.in-Err.field-0.trouble c.unmade.ensures.fault.0 c.unmade.ensures.fault.1)
    (subst (IsAsItWas _ (image_at g.S.Start)) (sym c.unmade.ensures.left)
    (c.args.connection, c.requires.none, record { connected = c.requires.connected; survives = c.in-Err.ensures.survives; same = c.in-Err.ensures.handed_back }))
