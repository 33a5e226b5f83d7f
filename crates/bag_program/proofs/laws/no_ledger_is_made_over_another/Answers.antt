use Rattle.std.proofs.Common.{◌≡◌, ◌∙◌, ap, arith, subst, sym}
use Rattle.sqlite.specs.Files.{file_state}
use Rattle.sqlite.specs.Effect.{Database}
use Rattle.sqlite.specs.State.{HasCleanDisk}
use Rattle.sqlite.specs.Tree.{Trees}
use Rattle.sqlite_wal.specs.Files.{image_at}
use Rattle.bag_sqlite.specs.LedgersInTables.{IsLedgerDatabase}
use Rattle.bag_sqlite.specs.Tables.{schema_of}
use Rattle.bag_sqlite.proofs.OneDatabase.{listed_schema}
use Rattle.bag_program.proofs.FileLemmas.{has_tables, opened_on}
use Rattle.bag_program.proofs.laws.no_ledger_is_made_over_another.Goals as goal

pub returns : goal.returns
returns g c = λ ledger stored made clean.
    let s = file_state made.opened in
    let before : HasCleanDisk s = omega (arith, made.survives.clean, clean) in
    let it = made.connected.shows before in
    let on = opened_on (image_at g.S.Start) s ledger it.0 it.1 stored in
    let same : s.now.trees ≡ s.committed.trees = ap (λ (d : Database). d.trees) it.1.0.clean in
    let database : IsLedgerDatabase s.now.trees ledger = subst (λ (t : Trees). IsLedgerDatabase t ledger) (sym same) on.database in
    let one : schema_of database.0 ≡ s.now.schema = listed_schema database.0 s.now.schema s.now.trees database.1.listed (it.1.1 it.1.0.is_open).0 in
    absurd (has_tables database.0 (one ∙ (made.makes clean).none))
