use Rattle.std.proofs.Common.{◌∷◌, [], refl, inl}
use Rattle.bag_path.specs.Lines.{lines_of}
use Rattle.bag_path.specs.declared.version.Version.TheVariants.{V1}
use Rattle.bag_digest.specs.declared.algorithm.Alg.TheVariants.{Md5, Sha256}
use Rattle.bag_tags.specs.declared.listing.Kind.TheVariants.{Payload, Tag}
use Rattle.bag_tags.specs.Listings.{nothing_listed}
use Rattle.bag_tags.specs.Manifests.{AddsPair}
use Rattle.bag_tags.proofs.ExampleLines.{text_of}
use Rattle.bag_tags.proofs.examples.a_manifest_may_list_nothing.Goals as goal

pub returns : goal.returns
unfolding lines_of
returns c = (
  text_of (AddsPair V1) (nothing_listed Sha256 Payload) [] (nothing_listed Sha256 Payload) refl,
  text_of (AddsPair V1) (nothing_listed Md5 Tag) (10 ∷ 32 ∷ 9 ∷ 13 ∷ 10 ∷ []) (nothing_listed Md5 Tag) (_, inl (refl, refl), (_, inl (refl, refl), refl)),
)
