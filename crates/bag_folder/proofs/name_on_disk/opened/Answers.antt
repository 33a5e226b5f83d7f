use Rattle.std.proofs.Common.{rules}
use Rattle.bag_folder.specs.Directories.{name_below}
use Rattle.bag_folder.proofs.OpenFileLemmas.{opened_unread}
use Rattle.bag_folder.proofs.name_on_disk.opened.Goals as goal

pub returns-clause-unread : goal.returns-clause-unread
returns-clause-unread g c =
    opened_unread g.R.Reader.Read.remaining (g.R.Names.standing c.args.rt.now) c.as_str.result.now
    (name_below c.args.folder.now c.args.path.now) c.open.result c.with_cause.result
    (search rules) c.open.ensures.opens c.open.ensures.unknown c.with_cause.ensures
