-- A payload that several worked examples use.
use Rattle.std.specs.Prelude.{◌≡◌, ◌∷◌, [], ℕ, List, codes, false, length, map, string_bytes, true}
use Rattle.bag_tags.specs.Infos.{element}
use Rattle.bag_rules.specs.Files.{Files}
use Rattle.bag_writer.specs.declared.spec.Hole.{Hole}
use Rattle.bag_writer.specs.declared.spec.Spec.{Spec}

abbrev pub file_a : List ℕ
file_a = codes "data/a.txt"

abbrev pub file_e : List ℕ
file_e = codes "data/e.txt"

-- one file with three octets, and an empty one
abbrev pub payload_of_two : Files
payload_of_two = (file_a, codes "abc") ∷ (file_e, []) ∷ []

-- each path with the number of its octets
abbrev pub lengths_of : Files → List (List ℕ × ℕ)
lengths_of files = map (λ (file : List ℕ × List ℕ). (file.0, length file.1)) files

-- It is written with manifests by MD5 and SHA-512 and with one element. The empty file is a hole.
pub record IsWithHole (spec : Spec) : Type 0 where
  pub algs : spec.algs ≡ record { md5 = true; sha1 = false; sha256 = false; sha512 = true }
  pub info : spec.info ≡ element (codes "Source-Organization") (codes "Test") ∷ []
  pub hole : Hole
  pub holes : spec.holes.items ≡ hole ∷ []
  pub path : hole.path ≡ file_e
  pub url : string_bytes hole.url ≡ codes "http://example.org/e"

-- It is written with a manifest by SHA-256 and without elements and holes.
pub record IsPlainExample (spec : Spec) : Type 0 where
  pub algs : spec.algs ≡ record { md5 = false; sha1 = false; sha256 = true; sha512 = false }
  pub info : spec.info ≡ []
  pub holes : spec.holes.items ≡ []
