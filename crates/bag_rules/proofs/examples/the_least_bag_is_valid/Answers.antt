use Rattle.std.proofs.Common.{◌≡◌, Some, None, true, false, [], refl}
use Rattle.bag_rules.proofs.Words.{Bag, IsJudged}
use Rattle.bag_rules.proofs.OneFile.{judged_none, least, no_file, rising_without, without_file}
use Rattle.bag_rules.proofs.OneManifest.{left_fault, scope}
use Rattle.bag_rules.proofs.ValidityLemmas.{valid_exactly}
use Rattle.bag_rules.proofs.examples.the_least_bag_is_valid.Goals as goal

abbrev bag : Bag
bag = without_file [] true

judged : IsJudged bag []
judged = judged_none bag (left_fault bag [] [] [] (least true) (λ fault. ⊥) record {
  no_dir = λ none. (let e : true ≡ false = none in cc);
  missing = λ lists away. (let e : false ≡ true = lists in cc);
  unlisted = λ none there. no_file [] true there;
  wrong = λ digest some there other. (let e : None ≡ Some digest = some in cc);
}) (scope bag [] [] [] (least true))

pub returns : goal.returns
returns c = ((valid_exactly bag [] judged (rising_without [] true)).1 refl, judged)
