use Rattle.std.proofs.Common.{◌≢◌, codes, refl, inl, rules}
use Rattle.bag_digest.specs.declared.algorithm.Alg.{Alg}
use Rattle.bag_digest.specs.declared.algorithm.Alg.TheVariants.{Md5}
use Rattle.bag_digest.specs.Algorithm.{name_of}
use Rattle.bag_tags.proofs.ExampleLemmas.{other_text}
use Rattle.bag_tags.proofs.examples.manifests_are_named_by_their_algorithm.Goals as goal

other : (alg : Alg) → codes "sha224" ≢ name_of alg
other Md5 = other_text (codes "sha224") (codes "md5") refl
other alg = other_text (codes "sha224") (name_of alg) refl

upper_case : (alg : Alg) → codes "SHA256" ≢ name_of alg
upper_case Md5 = other_text (codes "SHA256") (codes "md5") refl
upper_case alg = other_text (codes "SHA256") (name_of alg) refl

pub returns : goal.returns
returns c = (
  refl,
  refl,
  (codes "sha224", record { form = inl refl; is_word = (λ e. cc, search rules); unknown = other }),
  (codes "SHA256", record { form = inl refl; is_word = (λ e. cc, search rules); unknown = upper_case }),
)
