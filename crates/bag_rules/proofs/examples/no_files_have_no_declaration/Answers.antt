use Rattle.std.proofs.Common.{◌≡◌, ℕ, List, Some, [], false}
use Rattle.std.specs.List.{slice_get}
use Rattle.bag_rules.proofs.Words.{declaration_file}
use Rattle.bag_rules.proofs.DeclaredLemmas.{none_verdict}
use Rattle.bag_rules.proofs.examples.no_files_have_no_declaration.Goals as goal

pub returns : goal.returns
returns c = none_verdict (record { files = []; has_payload_dir = false }) (λ h. let e : slice_get {X = List ℕ × List ℕ} [] h.1.0 ≡ Some (declaration_file, h.0) = h.1.1 in cc)
