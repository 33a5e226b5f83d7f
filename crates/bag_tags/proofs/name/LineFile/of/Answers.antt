use Rattle.std.proofs.Common.{sym}
use Rattle.bag_tags.proofs.TextFiles.{no_file}
use Rattle.bag_tags.proofs.name.LineFile.of.Goals as goal

pub returns-in_err-manifest-in_default : goal.returns-in_err-manifest-in_default
returns-in_err-manifest-in_default c = rw c.from_residual.ensures
    (no_file c.args.path.now c.of-name.result c.of-name.ensures.named c.in_default.not-Info c.in_default.not-FetchList (sym c.in_err-manifest-in_default.ensures))
