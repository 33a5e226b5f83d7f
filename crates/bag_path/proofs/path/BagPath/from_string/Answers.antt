use Rattle.std.proofs.Common.{sym}
use Rattle.bag_path.proofs.PathLemmas.{path_if_no_fault}
use Rattle.bag_path.proofs.path.BagPath.from_string.Goals as goal

pub returns-clause-path : goal.returns-clause-path
returns-clause-path c = rw (c.in_ok-text.ensures.ok, ← c.as_str.ensures.value) (path_if_no_fault _ c.as_str.utf8 (sym c.in_default.ensures))
