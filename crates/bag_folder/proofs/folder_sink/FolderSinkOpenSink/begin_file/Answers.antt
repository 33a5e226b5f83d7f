use Rattle.std.proofs.Common.{rules}
use Rattle.bag_folder.specs.Directories.{name_below}
use Rattle.bag_folder.proofs.SinkFileLemmas.{begins_below}
use Rattle.bag_folder.proofs.folder_sink.FolderSinkOpenSink.begin_file.Goals as goal

pub returns-clause-exactly : goal.returns-clause-exactly
returns-clause-exactly g c =
    begins_below g.R.Writer.Write.contents (name_below c.as_str-folder.result.now c.as_str-below.result.now) c.args.place _ c.created-begun.result c.new-2.result c.args.self.now _ c.args.path.now
    (search rules) (search rules) c.created-begun.ensures.named (search rules) c.created-begun.ensures.begins c.new-2.ensures
