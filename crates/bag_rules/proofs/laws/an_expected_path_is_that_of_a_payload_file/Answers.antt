use Rattle.bag_rules.proofs.InPlace.{expected_path, expected_payload}
use Rattle.bag_rules.proofs.laws.an_expected_path_is_that_of_a_payload_file.Goals as goal

pub returns : goal.returns
returns c = λ tags path expected. (expected_path tags path expected, expected_payload tags path expected)
