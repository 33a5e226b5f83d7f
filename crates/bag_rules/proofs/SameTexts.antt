-- Bags that hold the same tag files say the same.
use Rattle.std.proofs.Common.{◌≡◌, ℕ, false, List, refl, subst}
use Rattle.bag_path.specs.declared.version.Version.{Version}
use Rattle.bag_rules.specs.Bags.{version_of}
use Rattle.bag_rules.specs.Listed.{IsUnlisted}
use Rattle.bag_rules.proofs.Words.{Alg, Bag, FetchLine, FetchList, FetchText, file_of, HasEntry, HoldsFile, Info, InfoText, is_payload, IsThere, Kind, LineFile, Lists, ListsFetch, Manifest, manifest_file, manifest_name, ManifestName, ManifestText, Md5, MetadataElement, Pair, Payload, SaysInfo, SaysOxum, Sha1, Sha256, Sha512, Tag, text_file, V097, V1}

-- tag files that are read line by line aren't payload files
pub plain_manifest : (kind : Kind) (alg : Alg) → is_payload (manifest_file kind alg) ≡ false
plain_manifest Payload Md5 = refl
plain_manifest Payload Sha1 = refl
plain_manifest Payload Sha256 = refl
plain_manifest Payload Sha512 = refl
plain_manifest Tag Md5 = refl
plain_manifest Tag Sha1 = refl
plain_manifest Tag Sha256 = refl
plain_manifest Tag Sha512 = refl

pub plain_text : (file : LineFile) → is_payload (text_file file) ≡ false
plain_text Info = refl
plain_text FetchList = refl
plain_text (Manifest name) = plain_manifest name.kind name.alg

-- what one bag says is said by another that has its tag files
module _ (one other : Bag) (same : version_of one ≡ version_of other) (to : (path octets : List ℕ) → is_payload path ≡ false → HoldsFile one path octets → HoldsFile other path octets) where
  pub there_too : (path : List ℕ) → is_payload path ≡ false → IsThere one path → IsThere other path
  there_too path plain there = (there.0, to path there.0 plain there.1)

  pub lists_too : (name : ManifestName) (pairs : List Pair) → Lists one name pairs → Lists other name pairs
  lists_too name pairs lists = record {
    octets = lists.octets;
    there = to (file_of name) lists.octets (plain_manifest name.kind name.alg) lists.there;
    text = subst (λ v. ManifestText v name.alg name.kind lists.octets pairs) same lists.text;
  }

  pub says_too : (elements : List MetadataElement) → SaysInfo one elements → SaysInfo other elements
  says_too elements says = record {
    octets = says.octets;
    there = to (text_file Info) says.octets refl says.there;
    text = subst (λ v. InfoText v says.octets elements) same says.text;
  }

  pub oxum_too : (element : MetadataElement) → SaysOxum one element → SaysOxum other element
  oxum_too element oxum = record { elements = oxum.elements; says = says_too oxum.elements oxum.says; has = oxum.has; is_oxum = oxum.is_oxum }

  pub fetches_too : (lines : List FetchLine) → ListsFetch one lines → ListsFetch other lines
  fetches_too lines fetches = record {
    octets = fetches.octets;
    there = to (text_file FetchList) fetches.octets refl fetches.there;
    text = subst (λ v. FetchText v fetches.octets lines) same fetches.text;
  }

  pub entry_too : (line : FetchLine) → HasEntry one line → HasEntry other line
  entry_too line entry = record { lines = entry.lines; lists = fetches_too entry.lines entry.lists; has = entry.has }

  module _ (back : (name : ManifestName) (pairs : List Pair) → Lists other name pairs → Lists one name pairs) where
    unlisted_by : (version : Version) (alg : Alg) (path : List ℕ) → IsUnlisted version one alg path → IsUnlisted version other alg path
    unlisted_by V1 alg path unlisted = (unlisted.0, lists_too (manifest_name Payload alg) unlisted.0 unlisted.1, unlisted.2)
    unlisted_by V097 alg path unlisted = (
      record {
        there = (unlisted.0.there.0, lists_too (manifest_name Payload alg) unlisted.0.there.0 unlisted.0.there.1);
        first = λ later pairs lists. unlisted.0.first later pairs (back (manifest_name Payload later) pairs lists);
      },
      λ listed. unlisted.1 (listed.0, listed.1, back (manifest_name Payload listed.0) listed.1 listed.2, listed.3),
    )

    pub unlisted_too : (alg : Alg) (path : List ℕ) → IsUnlisted (version_of one) one alg path → IsUnlisted (version_of other) other alg path
    unlisted_too alg path unlisted = unlisted_by (version_of other) alg path (subst (λ v. IsUnlisted v one alg path) same unlisted)
