use Rattle.std.proofs.Common.{[], refl, true}
use Rattle.bag_rules.proofs.Words.{Bag, Sha256, utf8_declares, V097}
use Rattle.bag_rules.specs.ExampleBags.{bag_of_0_97, manifest_of_abc}
use Rattle.bag_rules.specs.Listed.{IsListed}
use Rattle.bag_rules.proofs.TwoManifests.{first_lists}
use Rattle.bag_rules.proofs.OneFile.{listed, lists_one}
use Rattle.bag_rules.proofs.OneManifest.{payload_file}
use Rattle.bag_rules.proofs.examples.in_version_0_97_some_manifest_lists_a_payload_file.Goals as goal

abbrev bag : Bag
bag = bag_of_0_97 manifest_of_abc

is_listed : IsListed V097 bag payload_file
is_listed = (Sha256, listed, record { octets = manifest_of_abc; there = (4, refl); text = lists_one V097 }, refl)

pub returns : goal.returns
returns c = (
  record { declaration = record { major = 0; minor = 97; utf8 = true }; declares = (_, (0, refl), utf8_declares); version_is = refl; in_utf8 = refl },
  refl,
  is_listed,
  ([], first_lists manifest_of_abc, refl),
  λ alg fault. fault.0.1 is_listed,
)
