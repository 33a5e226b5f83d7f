use Rattle.std.proofs.Common.{◌≡◌, [], true, false, refl, arith}
use Rattle.bag_rules.proofs.Words.{V1, Bag, Fault, HasFault, Missing}
use Rattle.bag_rules.specs.ExampleBags.{manifest_of_abc}
use Rattle.bag_rules.proofs.OneFile.{judged_one, without_file, listed, lists_one, one_listed, has_no_file, no_file, rising_without}
use Rattle.bag_rules.proofs.OneManifest.{HasOneManifest, by_sha256, left_fault, lists, payload_file, scope}
use Rattle.bag_rules.proofs.ValidityLemmas.{complete_none}
use Rattle.bag_rules.proofs.examples.a_listed_file_that_is_not_there_is_a_fault.Goals as goal

abbrev bag : Bag
bag = without_file manifest_of_abc true

abbrev missing : Fault
missing = Missing by_sha256 payload_file

has : HasOneManifest bag manifest_of_abc [] listed
has = has_no_file manifest_of_abc listed (lists_one V1) one_listed true

broken : HasFault bag missing
broken = (listed, lists bag manifest_of_abc [] listed has, refl, no_file manifest_of_abc true)

only : (other : Fault) → HasFault bag other → missing ≡ other
only = left_fault bag manifest_of_abc [] listed has (λ fault. missing ≡ fault) record {
  no_dir = λ none. (let e : true ≡ false = none in cc);
  missing = λ lists away. refl;
  unlisted = λ none there. absurd (no_file manifest_of_abc true there);
  wrong = λ digest some there other. absurd (no_file manifest_of_abc true there);
}

pub returns : goal.returns
returns c = (
  λ complete. complete_none bag (rising_without manifest_of_abc true) complete missing (omega arith) broken,
  judged_one bag missing broken only (scope bag manifest_of_abc [] listed has),
)
