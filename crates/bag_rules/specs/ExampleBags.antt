-- Texts and bags that several worked examples use.
use Rattle.std.specs.Prelude.{◌++◌, ◌∷◌, [], ℕ, List, true, codes}
use Rattle.bag_path.specs.Octets.{lf}
use Rattle.bag_tags.specs.Declarations.{written_declaration}
use Rattle.bag_rules.specs.Bags.{Bag}
use Rattle.bag_rules.specs.Files.{Files}

-- the manifest that gives `data/a.txt` the SHA-256 of `abc` (FIPS 180-4, example B.1)
abbrev pub manifest_of_abc : List ℕ
manifest_of_abc =
    codes "ba7816bf8f01cfea414140de5dae2223b00361a396177a9cb410ff61f20015ad  data/a.txt"
    ++ lf ∷ []

-- A bag of version 0.97 with one payload file, a `fetch.txt` for another file, a manifest by MD5 that lists nothing,
-- and this manifest by SHA-256.
abbrev pub bag_of_0_97 : List ℕ → Bag
bag_of_0_97 manifest = record {
  files = (
    codes "bagit.txt",
    codes "BagIt-Version: 0.97" ++ lf
        ∷ codes "Tag-File-Character-Encoding: UTF-8" ++ lf ∷ [],
  )
      ∷ (codes "data/a.txt", codes "abc") ∷ (codes "fetch.txt", codes "http:x - data/z")
      ∷ (codes "manifest-md5.txt", [])
      ∷ (codes "manifest-sha256.txt", manifest) ∷ [];
  has_payload_dir = true;
}

-- TRANSFERS OF TWO FILES

abbrev pub file_a : List ℕ
file_a = codes "data/a.txt"

abbrev pub file_e : List ℕ
file_e = codes "data/e.txt"

-- the manifest that gives the first the SHA-256 of `abc`, and the second that of the empty text (FIPS 180-4)
abbrev pub manifest_of_two : List ℕ
manifest_of_two =
    codes "ba7816bf8f01cfea414140de5dae2223b00361a396177a9cb410ff61f20015ad  data/a.txt"
    ++ lf
    ∷ codes "e3b0c44298fc1c149afbf4c8996fb92427ae41e4649b934ca495991b7852b855  data/e.txt"
    ++ lf ∷ []

-- the fewest tag files of a transfer of both
abbrev pub tags_of_two : Files
tags_of_two = (codes "bagit.txt", written_declaration)
    ∷ (codes "manifest-sha256.txt", manifest_of_two) ∷ []

-- the same, with both files in `fetch.txt` and the length of the first given
abbrev pub tags_with_fetch : Files
tags_with_fetch = (codes "bagit.txt", written_declaration)
    ∷ (
      codes "fetch.txt",
      codes "http://example.org/a 3 data/a.txt" ++ lf
          ∷ codes "http://example.org/e - data/e.txt" ++ lf ∷ [],
    )
    ∷ (codes "manifest-sha256.txt", manifest_of_two) ∷ []
