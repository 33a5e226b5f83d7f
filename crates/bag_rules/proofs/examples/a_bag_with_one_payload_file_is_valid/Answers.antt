use Rattle.std.proofs.Common.{◌≡◌, ◌∙◌, [], codes, true, false, refl}
use Rattle.bag_rules.proofs.Words.{V1, Bag, digest_of_abc, IsJudged, same_Some}
use Rattle.bag_rules.specs.ExampleBags.{manifest_of_abc}
use Rattle.bag_rules.proofs.OneFile.{judged_none, with_file, listed, lists_one, one_listed, has_file, rising_with}
use Rattle.bag_rules.proofs.OneManifest.{HasOneManifest, left_fault, scope}
use Rattle.bag_rules.proofs.ValidityLemmas.{valid_exactly}
use Rattle.bag_rules.proofs.examples.a_bag_with_one_payload_file_is_valid.Goals as goal

abbrev bag : Bag
bag = with_file manifest_of_abc (codes "abc")

has : HasOneManifest bag manifest_of_abc (codes "abc") listed
has = has_file manifest_of_abc listed (lists_one V1) one_listed (codes "abc")

judged : IsJudged bag []
judged = judged_none bag (left_fault bag manifest_of_abc (codes "abc") listed has (λ fault. ⊥) record {
  no_dir = λ none. (let e : true ≡ false = none in cc);
  missing = λ lists away. away (codes "abc", (1, refl));
  unlisted = λ none there. (let e : true ≡ false = none in cc);
  wrong = λ digest some there other. other (digest_of_abc ∙ same_Some _ digest some);
}) (scope bag manifest_of_abc (codes "abc") listed has)

pub returns : goal.returns
returns c = ((valid_exactly bag [] judged (rising_with manifest_of_abc (codes "abc"))).1 refl, judged)
