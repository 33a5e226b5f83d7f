-- How many octets tag files have.
use Rattle.std.proofs.Common.{◌≡◌, ◌+◌, ◌*◌, ◌++◌, ℕ, List, [], ◌∷◌, codes, length, refl, arith, length-append}
use Rattle.bag_digest.proofs.WholeDigests.{length_spelled}
use Rattle.bag_digest.specs.Algorithm.{size_of}
use Rattle.bag_digest.specs.Spelling.{lower_case_of}
use Rattle.bag_rules.proofs.Words.{Alg, Files, hash}
use Rattle.bag_tags.specs.ManifestWriting.{written_manifest, written_pair, written_path}
use Rattle.bag_tags.specs.Listings.{pair}
use Rattle.bag_writer.specs.WrittenBags.{pairs_by}

-- two digits for each octet of the digest, two spaces, the path and LF
abbrev pub line_lengths : Alg → Files → ℕ
line_lengths alg [] = 0
line_lengths alg (file ∷ files) = (2 * size_of alg + length (written_path file.0) + 3) + line_lengths alg files

line_length : (alg : Alg) (path octets : List ℕ) → length (written_pair (pair path (hash alg octets))) ≡ 2 * size_of alg + length (written_path path) + 3
line_length alg path octets =
    let hex = lower_case_of (hash alg octets) in
    let digits = length_spelled alg octets in
    let first = length-append (lower_case_of (hash alg octets)) (codes "  ") in
    let second = length-append (lower_case_of (hash alg octets) ++ codes "  ") (written_path path) in
    let third = length-append ((lower_case_of (hash alg octets) ++ codes "  ") ++ written_path path) (10 ∷ []) in
    omega (arith, digits, first, second, third)

pub manifest_length : (alg : Alg) (files : Files) → length (written_manifest (pairs_by alg files)) ≡ line_lengths alg files
manifest_length alg [] = refl
manifest_length alg (file ∷ files) =
    let here = line_length alg file.0 file.1 in
    let rest = manifest_length alg files in
    let both = length-append (written_pair (pair file.0 (hash alg file.1))) (written_manifest (pairs_by alg files)) in
    omega (arith, here, rest, both)
