use Rattle.std.proofs.Common.{◌≡◌, Some, None, [], true, false, refl}
use Rattle.bag_rules.proofs.Words.{Bag, Fault, HasFault, NoPayloadDir}
use Rattle.bag_rules.proofs.OneFile.{judged_one, least, no_file, without_file}
use Rattle.bag_rules.proofs.OneManifest.{left_fault, scope}
use Rattle.bag_rules.proofs.examples.the_least_bag_needs_its_payload_directory.Goals as goal

abbrev bag : Bag
bag = without_file [] false

only : (other : Fault) → HasFault bag other → NoPayloadDir ≡ other
only = left_fault bag [] [] [] (least false) (λ fault. NoPayloadDir ≡ fault) record {
  no_dir = λ none. refl;
  missing = λ lists away. (let e : false ≡ true = lists in cc);
  unlisted = λ none there. absurd (no_file [] false there);
  wrong = λ digest some there other. (let e : None ≡ Some digest = some in cc);
}

pub returns : goal.returns
returns c = judged_one bag NoPayloadDir refl only (scope bag [] [] [] (least false))
