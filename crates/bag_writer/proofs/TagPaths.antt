-- The names of the tag files are paths.
use Rattle.std.proofs.Common.{codes, refl}
use Rattle.bag_path.specs.Paths.{IsPath, path_fault}
use Rattle.bag_rules.proofs.Words.{Alg, ascii_path, declaration_file, Kind, manifest_file, Md5, Payload, Sha1, Sha256, Sha512, Tag}

pub info_path : IsPath (codes "bag-info.txt")
unfolding path_fault
info_path = ascii_path (codes "bag-info.txt") refl refl

pub declaration_path : IsPath declaration_file
unfolding path_fault
declaration_path = ascii_path declaration_file refl refl

pub fetch_path : IsPath (codes "fetch.txt")
unfolding path_fault
fetch_path = ascii_path (codes "fetch.txt") refl refl

pub manifest_path : (kind : Kind) (alg : Alg) → IsPath (manifest_file kind alg)
unfolding path_fault
manifest_path Payload Md5 = ascii_path (codes "manifest-md5.txt") refl refl
manifest_path Payload Sha1 = ascii_path (codes "manifest-sha1.txt") refl refl
manifest_path Payload Sha256 = ascii_path (codes "manifest-sha256.txt") refl refl
manifest_path Payload Sha512 = ascii_path (codes "manifest-sha512.txt") refl refl
manifest_path Tag Md5 = ascii_path (codes "tagmanifest-md5.txt") refl refl
manifest_path Tag Sha1 = ascii_path (codes "tagmanifest-sha1.txt") refl refl
manifest_path Tag Sha256 = ascii_path (codes "tagmanifest-sha256.txt") refl refl
manifest_path Tag Sha512 = ascii_path (codes "tagmanifest-sha512.txt") refl refl
