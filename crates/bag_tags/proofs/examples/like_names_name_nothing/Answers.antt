use Rattle.std.proofs.Common.{codes, [], refl, inl, inr}
use Rattle.bag_digest.specs.declared.algorithm.Alg.TheVariants.{Md5}
use Rattle.bag_tags.specs.declared.name.TagName.{TagName}
use Rattle.bag_tags.specs.declared.name.TagName.TheVariants.{Declaration, PayloadManifest, UnknownManifest, Other}
use Rattle.bag_tags.specs.Names.{IsReserved}
use Rattle.bag_tags.proofs.NameLemmas.{apart, payload_word, payload_or_tag}
use Rattle.bag_tags.proofs.examples.like_names_name_nothing.Goals as goal

no_algorithm : (name : TagName) → IsReserved (codes "manifest-.txt") name → ⊥
no_algorithm Other h = h
no_algorithm UnknownManifest h = elim h.1.form [
  | inl e ↦ h.1.is_word.0 (payload_word (codes "manifest-.txt") h.0 [] e refl)
  | inr e ↦ payload_or_tag (codes "manifest-.txt") [] h.0 refl e
]
no_algorithm (PayloadManifest Md5) h = apart (codes "manifest-.txt") _ _ refl h refl
no_algorithm (PayloadManifest alg) h = apart (codes "manifest-.txt") _ _ refl h refl
no_algorithm Declaration h = apart (codes "manifest-.txt") _ _ refl h refl
no_algorithm name h = apart (codes "manifest-.txt") _ _ refl h refl

below : (name : TagName) → IsReserved (codes "x/bagit.txt") name → ⊥
below Other h = h
below UnknownManifest h = elim h.1.form [ inl e ↦ apart (codes "x/bagit.txt") _ _ refl e refl | inr e ↦ apart (codes "x/bagit.txt") _ _ refl e refl ]
below name h = apart (codes "x/bagit.txt") _ _ refl h refl

pub returns : goal.returns
returns c = (no_algorithm, below)
