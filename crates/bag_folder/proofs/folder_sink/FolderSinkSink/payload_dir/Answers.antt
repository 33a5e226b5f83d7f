use Rattle.std.proofs.Common.{rules}
use Rattle.bag_folder.proofs.NameLemmas.{folder_kept_way, way_counted_at}
use Rattle.bag_folder.proofs.folder_sink.FolderSinkSink.payload_dir.Goals as goal

pub invariant_of-self : goal.invariant_of-self
invariant_of-self g c = folder_kept_way _ _ _ _ _ c.self.invariant c.created_directory-answer.ensures.makes

pub returns-clause-makes : goal.returns-clause-makes
returns-clause-makes g c =
    way_counted_at _ _ c.created_directory-answer.result c.counted.result _ _ _ _ (search rules) (search rules) (search rules) c.counted.ensures.answer c.created_directory-answer.ensures.makes
