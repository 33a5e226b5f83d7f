use Rattle.std.proofs.Common.{◌≡◌, [], ◌∷◌, codes, true, false, refl, arith}
use Rattle.bag_rules.proofs.Words.{V1, Bag, Fault, HasFault, IsJudged, other_digest_of_abd, WrongDigest}
use Rattle.bag_rules.specs.ExampleBags.{manifest_of_abc}
use Rattle.bag_rules.proofs.OneFile.{judged_one, with_file, of_abc, listed, lists_one, one_listed, has_file, rising_with}
use Rattle.bag_rules.proofs.OneManifest.{HasOneManifest, by_sha256, left_fault, lists, payload_file, scope}
use Rattle.bag_rules.proofs.ValidityLemmas.{complete_exactly, valid_none}
use Rattle.bag_rules.proofs.examples.a_changed_payload_file_has_a_wrong_digest.Goals as goal

abbrev bag : Bag
bag = with_file manifest_of_abc (codes "abd")

abbrev wrong : Fault
wrong = WrongDigest by_sha256 payload_file

has : HasOneManifest bag manifest_of_abc (codes "abd") listed
has = has_file manifest_of_abc listed (lists_one V1) one_listed (codes "abd")

broken : HasFault bag wrong
broken = (listed, lists bag manifest_of_abc (codes "abd") listed has, (of_abc, refl, (codes "abd", (1, refl), other_digest_of_abd)))

judged : IsJudged bag (wrong ∷ [])
judged = judged_one bag wrong broken (left_fault bag manifest_of_abc (codes "abd") listed has (λ fault. wrong ≡ fault) record {
  no_dir = λ none. (let e : true ≡ false = none in cc);
  missing = λ lists away. absurd (away (codes "abd", (1, refl)));
  unlisted = λ none there. (let e : true ≡ false = none in cc);
  wrong = λ digest some there other. refl;
}) (scope bag manifest_of_abc (codes "abd") listed has)

pub returns : goal.returns
returns c = (
  (complete_exactly bag (wrong ∷ []) judged (rising_with manifest_of_abc (codes "abd"))).1 (omega arith, tt),
  λ valid. valid_none bag (rising_with manifest_of_abc (codes "abd")) valid wrong broken,
  judged,
)
