use Rattle.std.proofs.Common.{◌≡◌, codes, List, ℕ, true, false, ◌++◌, ◌∷◌, [], refl, rules}
use Rattle.hex.specs.Hex.{decode_pairs}
use Rattle.bag_path.specs.Lines.{lines_of}
use Rattle.bag_path.specs.Paths.{path_fault}
use Rattle.bag_path.specs.SpellingReading.{octets_spelled_after}
use Rattle.bag_path.specs.declared.version.Version.TheVariants.{V1}
use Rattle.bag_path.proofs.AsciiLemmas.{is_ascii_text, ascii_path}
use Rattle.bag_digest.specs.declared.algorithm.Alg.TheVariants.{Md5}
use Rattle.bag_digest.specs.declared.digest.Digest.{Digest}
use Rattle.bag_digest.specs.declared.digest.Digest.TheVariants as digest
use Rattle.bag_tags.specs.declared.tag_fault.LineCause.TheVariants.{WrongPlace}
use Rattle.bag_tags.specs.declared.listing.Kind.{Kind}
use Rattle.bag_tags.specs.declared.listing.Kind.TheVariants.{Payload, Tag}
use Rattle.bag_tags.specs.Listings.{nothing_listed, IsInPlace}
use Rattle.bag_tags.specs.Manifests.{Gives, AddsPair, RefusesLine, ManifestFault}
use Rattle.bag_tags.specs.Words.{is_blank_line}
use Rattle.bag_tags.proofs.TagLinesLemmas.{numbered}
use Rattle.bag_tags.specs.WordsReading.{until}
use Rattle.bag_tags.proofs.ExampleLines.{at, faulty, gives}
use Rattle.bag_tags.proofs.ManifestDecisionLemmas.{manifest_exact}
use Rattle.bag_tags.proofs.examples.a_path_of_the_other_kind_is_a_fault.Goals as goal

abbrev of_abc : Digest
of_abc = digest.Md5 (0x90 ∷ 0x01 ∷ 0x50 ∷ 0x98 ∷ 0x3C ∷ 0xD2 ∷ 0x4F ∷ 0xB0 ∷ 0xD6 ∷ 0x96 ∷ 0x3F ∷ 0x7D ∷ 0x28 ∷ 0xE1 ∷ 0x7F ∷ 0x72 ∷ [])

abbrev listing : List ℕ → List ℕ
listing path = codes "900150983cd24fb0d6963f7d28e17f72  " ++ path

not_payload : ¬ IsInPlace Payload (codes "k")
not_payload e = cc

payload : ¬ IsInPlace Tag (codes "data/k")
payload h = let e : true ≡ false = h.0 in cc

tag_manifest : ¬ IsInPlace Tag (codes "tagmanifest-md5.txt")
tag_manifest h = h.1 (codes "md5", ((λ e. cc), search rules), refl)

-- a single line that gives a path this digest although the manifest may not list it
wrong_place : (kind : Kind) (path : List ℕ) → numbered (listing path) ≡ at 1 (listing path) ∷ [] → is_blank_line (listing path) ≡ false → is_ascii_text (listing path) ≡ true
    → Gives V1 Md5 (listing path) path of_abc → ¬ IsInPlace kind path → ManifestFault V1 Md5 kind (listing path) (record { line = 1; cause = WrongPlace })
wrong_place kind path one not_blank ascii given wrong =
    faulty (AddsPair V1) (RefusesLine V1) (manifest_exact V1) (nothing_listed Md5 kind) (nothing_listed Md5 kind) (listing path) [] [] (at 1 (listing path)) WrongPlace one refl not_blank ascii
    (record { path = path; digest = of_abc; gives = given; elsewhere = wrong })

gives_k : Gives V1 Md5 (listing (codes "k")) (codes "k") of_abc
unfolding until octets_spelled_after path_fault decode_pairs
gives_k = gives (nothing_listed Md5 Payload) (listing (codes "k")) of_abc refl (record { by_alg = refl; digits = refl }) (codes "k") refl (ascii_path (codes "k") refl refl)

gives_payload : Gives V1 Md5 (listing (codes "data/k")) (codes "data/k") of_abc
unfolding until octets_spelled_after path_fault decode_pairs
gives_payload = gives (nothing_listed Md5 Tag) (listing (codes "data/k")) of_abc refl (record { by_alg = refl; digits = refl }) (codes "data/k") refl (ascii_path (codes "data/k") refl refl)

gives_manifest : Gives V1 Md5 (listing (codes "tagmanifest-md5.txt")) (codes "tagmanifest-md5.txt") of_abc
unfolding until octets_spelled_after path_fault decode_pairs
gives_manifest = gives (nothing_listed Md5 Tag) (listing (codes "tagmanifest-md5.txt")) of_abc refl (record { by_alg = refl; digits = refl }) (codes "tagmanifest-md5.txt") refl (ascii_path (codes "tagmanifest-md5.txt") refl refl)

pub returns : goal.returns
unfolding lines_of
returns c = (
  wrong_place Payload (codes "k") refl refl refl gives_k not_payload,
  wrong_place Tag (codes "data/k") refl refl refl gives_payload payload,
  wrong_place Tag (codes "tagmanifest-md5.txt") refl refl refl gives_manifest tag_manifest,
)
