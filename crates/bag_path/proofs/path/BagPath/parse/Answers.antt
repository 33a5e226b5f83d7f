use Rattle.std.proofs.Common.{sym}
use Rattle.bag_path.proofs.PathLemmas.{path_if_no_fault, no_fault_if_path}
use Rattle.bag_path.proofs.path.BagPath.parse.Goals as goal

pub returns-in-Some-clause-accepted : goal.returns-in-Some-clause-accepted
returns-in-Some-clause-accepted c = λ path. absurd (let none = no_fault_if_path _ path in cc (none, c.in-Some.ensures))

pub returns-clause-path : goal.returns-clause-path
returns-clause-path c = rw c.in_ok-text.ensures.ok (path_if_no_fault _ c.utf8.text (sym c.in_default.ensures))
