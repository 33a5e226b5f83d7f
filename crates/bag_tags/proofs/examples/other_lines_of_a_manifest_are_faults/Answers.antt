use Rattle.std.proofs.Common.{codes, List, ℕ, ◌++◌, ◌∷◌, [], refl}
use Rattle.hex.specs.Hex.{decode_pairs}
use Rattle.bag_path.specs.Lines.{lines_of}
use Rattle.bag_path.specs.Paths.{path_fault}
use Rattle.bag_path.specs.SpellingReading.{octets_spelled_after}
use Rattle.bag_path.specs.declared.path.PathFault.TheVariants as path
use Rattle.bag_path.specs.declared.version.Version.TheVariants.{V1}
use Rattle.bag_path.proofs.SpellsLemmas.{spells_if_read, nothing_if_none}
use Rattle.bag_digest.specs.declared.algorithm.Alg.TheVariants.{Md5, Sha256}
use Rattle.bag_digest.specs.declared.digest.Digest.{Digest}
use Rattle.bag_digest.specs.declared.digest.Digest.TheVariants as digest
use Rattle.bag_digest.specs.Spelling.{SpellsDigest}
use Rattle.bag_tags.specs.declared.tag_fault.LineCause.TheVariants.{NoSeparator, BadDigest, BadPath}
use Rattle.bag_tags.specs.declared.listing.Kind.TheVariants.{Payload}
use Rattle.bag_tags.specs.Listings.{Listing, nothing_listed}
use Rattle.bag_tags.specs.Manifests.{AddsPair, RefusesLine, ManifestFault}
use Rattle.bag_tags.specs.Words.{is_blank}
use Rattle.bag_tags.specs.WordsReading.{until}
use Rattle.bag_tags.proofs.ExampleLines.{at, faulty, checksum}
use Rattle.bag_tags.proofs.ManifestDecisionLemmas.{manifest_exact}
use Rattle.bag_tags.proofs.WordsLemmas.{none_passes, cut_at}
use Rattle.bag_tags.proofs.examples.other_lines_of_a_manifest_are_faults.Goals as goal

abbrev of_abc : Digest
of_abc = digest.Md5 (0x90 ∷ 0x01 ∷ 0x50 ∷ 0x98 ∷ 0x3C ∷ 0xD2 ∷ 0x4F ∷ 0xB0 ∷ 0xD6 ∷ 0x96 ∷ 0x3F ∷ 0x7D ∷ 0x28 ∷ 0xE1 ∷ 0x7F ∷ 0x72 ∷ [])

abbrev digits : List ℕ
digits = codes "900150983cd24fb0d6963f7d28e17f72"

abbrev listing : List ℕ → List ℕ
listing path = digits ++ path

too_short : (digest : Digest) → ¬ SpellsDigest Sha256 digits digest
too_short digest h = let e = h.digits in cc

abbrev known : Listing
known = nothing_listed Md5 Payload

abbrev other : Listing
other = nothing_listed Sha256 Payload

abbrev short : List ℕ
short = listing (codes " data/k")

abbrev up : List ℕ
up = listing (codes " data/../k")

abbrev escaped : List ℕ
escaped = listing (codes " data/%41")

gives_digest : SpellsDigest Md5 digits of_abc
unfolding decode_pairs
gives_digest = record { by_alg = refl; digits = refl }

no_blank : ManifestFault V1 Md5 Payload digits (record { line = 1; cause = NoSeparator })
unfolding lines_of until
no_blank = faulty (AddsPair V1) (RefusesLine V1) (manifest_exact V1) known known digits [] [] (at 1 digits) NoSeparator refl refl refl refl
    (none_passes is_blank digits refl)

bad_digest : ManifestFault V1 Sha256 Payload short (record { line = 1; cause = BadDigest })
unfolding lines_of until
bad_digest = faulty (AddsPair V1) (RefusesLine V1) (manifest_exact V1) other other short [] [] (at 1 short) BadDigest refl refl refl refl
    (record { checksum = digits; blanks = codes " "; path_text = codes "data/k"; cut = cut_at short refl; no_digest = too_short })

dot_segment : ManifestFault V1 Md5 Payload up (record { line = 1; cause = BadPath path.DotSegment })
unfolding lines_of until octets_spelled_after path_fault
dot_segment = faulty (AddsPair V1) (RefusesLine V1) (manifest_exact V1) known known up [] [] (at 1 up) (BadPath path.DotSegment) refl refl refl refl
    (record { digest = of_abc; path_text = codes "data/../k"; checksum = checksum known up of_abc refl gives_digest; no_path = (codes "data/../k", spells_if_read V1 (codes "data/../k") (codes "data/../k") refl, refl) })

bad_escape : ManifestFault V1 Md5 Payload escaped (record { line = 1; cause = BadPath path.BadEscape })
unfolding lines_of until octets_spelled_after
bad_escape = faulty (AddsPair V1) (RefusesLine V1) (manifest_exact V1) known known escaped [] [] (at 1 escaped) (BadPath path.BadEscape) refl refl refl refl
    (record { digest = of_abc; path_text = codes "data/%41"; checksum = checksum known escaped of_abc refl gives_digest; no_path = nothing_if_none V1 (codes "data/%41") refl })

pub returns : goal.returns
returns c = (no_blank, bad_digest, dot_segment, bad_escape)
