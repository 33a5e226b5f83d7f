use Rattle.std.proofs.Common.{arith, inr}
use Rattle.sqlite.specs.State.{HasCleanDisk}
use Rattle.sqlite.specs.Files.{file_state}
use Rattle.sqlite_wal.specs.Files.{image_at}
use Rattle.bag_program.proofs.FileLemmas.{not_adopted, opened_on}
use Rattle.bag_program.proofs.ledgers.locked_file.LockedFile.adopt.Goals as goal

pub returns-in-Ok-clause-opened : goal.returns-in-Ok-clause-opened
returns-in-Ok-clause-opened g c =
    let opened = c.args.connection in
    let adopted = c.in-Ok.ensures.adopted in (
      c.found.ensures.2,
      rw c.found.ensures.0 (record {
        opened = opened;
        connected = c.requires;
        survives = adopted.survives;
        adopts = λ clean.
            let before : HasCleanDisk (file_state opened) = omega (arith, adopted.survives.clean, clean) in
            let it = c.requires.shows before in
            record {
              verified = adopted.verified clean;
              keeps = λ ledger stored. adopted.keeps clean ledger (inr (opened_on (image_at g.S.Start) (file_state opened) ledger it.0 it.1 stored));
            };
      }),
    )

pub returns-in-Err-clause-opened : goal.returns-in-Err-clause-opened
returns-in-Err-clause-opened g c =
    let opened = c.args.connection in
    let refused = c.in-Err.ensures.adopted in
    not_adopted _ (image_at g.S.Start) c.unadopted.result c.in-Err.field-0.fault _ opened c.in-Err.field-0.connection c.unadopted.ensures.left c.unadopted.ensures.fault
    (record { connected = c.requires; survives = refused.survives; same = refused.unchanged })
    (λ clean.
    let before : HasCleanDisk (file_state opened) = omega (arith, refused.survives.clean, clean) in
    let it = c.requires.shows before in
    record {
      reason = refused.reason clean;
      own = λ ledger stored. refused.own clean ledger (inr (opened_on (image_at g.S.Start) (file_state opened) ledger it.0 it.1 stored));
    })
