use Rattle.std.proofs.Common.{◌≡◌, Option, rules}
use Rattle.std.specs.declared.io.Error.{Error}
use Rattle.bag_folder.specs.declared.fault.Cause.{Cause}
use Rattle.bag_folder.specs.Directories.{name_below}
use Rattle.bag_folder.proofs.NameLemmas.{file_done_at}
use Rattle.bag_folder.proofs.folder_sink.created.Goals as goal

pub returns-in-Ok-clause-makes : goal.returns-in-Ok-clause-makes
returns-in-Ok-clause-makes g c =
    let named : c.as_str.result.now ≡ name_below c.args.folder.now c.args.path.now = search rules in
    let too : c.as_str-2.result.now ≡ name_below c.args.folder.now c.args.path.now = search rules in
    file_done_at {B = g.row.R-Writer.Denot} {C = g.row.R-Writer.Denot} _ Error (Option Cause) _ c.as_str.result.now c.as_str-2.result.now _ c.in-Ok.file c.in-Ok.file _ _ _ named too c.in_default.ensures.makes c.in-Ok.ensures.makes
