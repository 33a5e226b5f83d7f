use Rattle.std.proofs.Common.{◌≡◌, [], Some, None, true, false, codes, refl, arith}
use Rattle.bag_rules.proofs.Words.{Bag, Fault, HasFault, Sha256, Unlisted}
use Rattle.bag_rules.proofs.OneFile.{judged_one, with_file, lists_none, none_listed, has_file, rising_with}
use Rattle.bag_rules.proofs.OneManifest.{HasOneManifest, left_fault, lists, payload_file, scope}
use Rattle.bag_rules.proofs.ValidityLemmas.{complete_none}
use Rattle.bag_rules.proofs.examples.a_payload_file_that_is_not_listed_is_a_fault.Goals as goal

abbrev bag : Bag
bag = with_file [] (codes "abc")

abbrev unlisted : Fault
unlisted = Unlisted Sha256 payload_file

has : HasOneManifest bag [] (codes "abc") []
has = has_file [] [] lists_none none_listed (codes "abc")

broken : HasFault bag unlisted
broken = (([], lists bag [] (codes "abc") [] has, refl), (codes "abc", (1, refl)), refl)

only : (other : Fault) → HasFault bag other → unlisted ≡ other
only = left_fault bag [] (codes "abc") [] has (λ fault. unlisted ≡ fault) record {
  no_dir = λ none. (let e : true ≡ false = none in cc);
  missing = λ lists away. (let e : false ≡ true = lists in cc);
  unlisted = λ none there. refl;
  wrong = λ digest some there other. (let e : None ≡ Some digest = some in cc);
}

pub returns : goal.returns
returns c = (
  λ complete. complete_none bag (rising_with [] (codes "abc")) complete unlisted (omega arith) broken,
  judged_one bag unlisted broken only (scope bag [] (codes "abc") [] has),
)
