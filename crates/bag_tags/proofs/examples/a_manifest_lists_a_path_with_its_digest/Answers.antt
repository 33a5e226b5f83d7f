use Rattle.std.proofs.Common.{List, ℕ, codes, ◌++◌, ◌∷◌, [], refl}
use Rattle.hex.specs.Hex.{decode_pairs}
use Rattle.bag_path.specs.Lines.{lines_of}
use Rattle.bag_path.specs.Paths.{path_fault}
use Rattle.bag_path.specs.SpellingReading.{octets_spelled_after}
use Rattle.bag_path.specs.declared.version.Version.TheVariants.{V1}
use Rattle.bag_path.proofs.AsciiLemmas.{ascii_path}
use Rattle.bag_digest.specs.declared.algorithm.Alg.TheVariants.{Sha256}
use Rattle.bag_digest.specs.declared.digest.Digest.{Digest}
use Rattle.bag_digest.specs.declared.digest.Digest.TheVariants as digest
use Rattle.bag_tags.specs.declared.listing.Kind.TheVariants.{Payload}
use Rattle.bag_tags.specs.Listings.{Listing, nothing_listed, pair, with_pair}
use Rattle.bag_tags.specs.Manifests.{AddsPair}
use Rattle.bag_tags.specs.WordsReading.{until}
use Rattle.bag_digest.specs.Spelling.{SpellsDigest}
use Rattle.bag_tags.proofs.WordsLemmas.{word_of}
use Rattle.bag_tags.proofs.ExampleLines.{text_of, leads_on, adds_pair}
use Rattle.bag_tags.proofs.examples.a_manifest_lists_a_path_with_its_digest.Goals as goal

abbrev of_abc : Digest
of_abc = digest.Sha256 (
    0xBA ∷ 0x78 ∷ 0x16 ∷ 0xBF ∷ 0x8F ∷ 0x01 ∷ 0xCF ∷ 0xEA ∷ 0x41 ∷ 0x41 ∷ 0x40 ∷ 0xDE ∷ 0x5D ∷ 0xAE ∷ 0x22 ∷ 0x23
    ∷ 0xB0 ∷ 0x03 ∷ 0x61 ∷ 0xA3 ∷ 0x96 ∷ 0x17 ∷ 0x7A ∷ 0x9C ∷ 0xB4 ∷ 0x10 ∷ 0xFF ∷ 0x61 ∷ 0xF2 ∷ 0x00 ∷ 0x15 ∷ 0xAD ∷ [])

abbrev text : List ℕ
text = codes "BA7816BF8F01CFEA414140DE5DAE2223B00361A396177A9CB410FF61F20015AD" ++ 9 ∷ codes "*./data/a.txt"

abbrev nothing : Listing
nothing = nothing_listed Sha256 Payload

abbrev one : Listing
one = with_pair nothing (pair (codes "data/a.txt") of_abc)

gives_digest : SpellsDigest Sha256 (word_of text) of_abc
unfolding until decode_pairs
gives_digest = record { by_alg = refl; digits = refl }

adds : AddsPair V1 nothing 1 text one
unfolding until octets_spelled_after path_fault
adds = adds_pair nothing text of_abc refl gives_digest (codes "data/a.txt") refl (ascii_path (codes "data/a.txt") refl refl) 1 refl refl

pub returns : goal.returns
unfolding lines_of
returns c = text_of (AddsPair V1) nothing (text ++ 13 ∷ 10 ∷ []) one (one, leads_on (AddsPair V1) _ _ _ refl refl adds, refl)
