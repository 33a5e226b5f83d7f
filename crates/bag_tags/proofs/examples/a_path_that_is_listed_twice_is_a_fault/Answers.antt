use Rattle.std.proofs.Common.{codes, List, ℕ, ◌++◌, ◌∷◌, [], refl}
use Rattle.hex.specs.Hex.{decode_pairs}
use Rattle.bag_path.specs.Lines.{lines_of}
use Rattle.bag_path.specs.Paths.{path_fault}
use Rattle.bag_path.specs.SpellingReading.{octets_spelled_after}
use Rattle.bag_path.specs.declared.version.Version.TheVariants.{V1}
use Rattle.bag_path.proofs.AsciiLemmas.{ascii_path}
use Rattle.bag_digest.specs.declared.algorithm.Alg.TheVariants.{Md5}
use Rattle.bag_digest.specs.declared.digest.Digest.{Digest}
use Rattle.bag_digest.specs.declared.digest.Digest.TheVariants as digest
use Rattle.bag_tags.specs.declared.tag_fault.LineCause.TheVariants.{Twice}
use Rattle.bag_tags.specs.declared.listing.Kind.TheVariants.{Payload}
use Rattle.bag_tags.specs.Listings.{Listing, nothing_listed, pair, with_pair}
use Rattle.bag_tags.specs.Manifests.{AddsPair, RefusesLine}
use Rattle.bag_tags.specs.WordsReading.{until}
use Rattle.bag_tags.proofs.ExampleLines.{at, faulty, gives, leads_on, adds_pair}
use Rattle.bag_tags.proofs.ManifestDecisionLemmas.{manifest_exact}
use Rattle.bag_tags.proofs.examples.a_path_that_is_listed_twice_is_a_fault.Goals as goal

abbrev of_abc : Digest
of_abc = digest.Md5 (0x90 ∷ 0x01 ∷ 0x50 ∷ 0x98 ∷ 0x3C ∷ 0xD2 ∷ 0x4F ∷ 0xB0 ∷ 0xD6 ∷ 0x96 ∷ 0x3F ∷ 0x7D ∷ 0x28 ∷ 0xE1 ∷ 0x7F ∷ 0x72 ∷ [])

abbrev first : List ℕ
first = codes "900150983cd24fb0d6963f7d28e17f72  data/a"

abbrev second : List ℕ
second = codes "900150983cd24fb0d6963f7d28e17f72  data/b"

abbrev third : List ℕ
third = codes "900150983cd24fb0d6963f7d28e17f72  ./data/a"

abbrev nothing : Listing
nothing = nothing_listed Md5 Payload

abbrev one : Listing
one = with_pair nothing (pair (codes "data/a") of_abc)

abbrev two : Listing
two = with_pair one (pair (codes "data/b") of_abc)

pub returns : goal.returns
unfolding lines_of until octets_spelled_after path_fault decode_pairs
returns c = faulty (AddsPair V1) (RefusesLine V1) (manifest_exact V1) nothing two (first ++ 10 ∷ second ++ 10 ∷ third ++ 10 ∷ [])
    (at 1 first ∷ at 2 second ∷ []) [] (at 3 third) Twice refl (
      one,
      leads_on (AddsPair V1) _ _ _ refl refl
          (adds_pair nothing first of_abc refl (record { by_alg = refl; digits = refl }) (codes "data/a") refl (ascii_path (codes "data/a") refl refl) 1 refl refl),
      (
        two,
        leads_on (AddsPair V1) _ _ _ refl refl
            (adds_pair one second of_abc refl (record { by_alg = refl; digits = refl }) (codes "data/b") refl (ascii_path (codes "data/b") refl refl) 2 refl refl),
        refl,
      ),
    )
    refl refl
    (record {
      path = codes "data/a";
      digest = of_abc;
      gives = gives two third of_abc refl (record { by_alg = refl; digits = refl }) (codes "data/a") refl (ascii_path (codes "data/a") refl refl);
      in_place = refl;
      listed = refl;
    })
