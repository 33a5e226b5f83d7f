-- Each text tag file has one value or one first fault, and not both.
use Rattle.std.proofs.Common.{◌≡◌, ◌⊎◌, ℕ, List, ap}
use Rattle.bag_path.specs.declared.version.Version.{Version}
use Rattle.bag_digest.specs.declared.algorithm.Alg.{Alg}
use Rattle.bag_tags.specs.declared.tag_fault.LineFault.{LineFault}
use Rattle.bag_tags.specs.declared.fetch.FetchLine.{FetchLine}
use Rattle.bag_tags.specs.declared.listing.Kind.{Kind}
use Rattle.bag_tags.specs.declared.listing.Pair.{Pair}
use Rattle.bag_tags.specs.FetchText.{FetchText, FetchFault}
use Rattle.bag_tags.specs.Infos.{MetadataElement}
use Rattle.bag_tags.specs.InfoText.{InfoText, InfoFault}
use Rattle.bag_tags.specs.Listings.{Listing}
use Rattle.bag_tags.specs.Manifests.{ManifestText, ManifestFault}
use Rattle.bag_tags.proofs.FetchDecisionLemmas.{fetch_exact}
use Rattle.bag_tags.proofs.InfoDecisionLemmas.{info_exact}
use Rattle.bag_tags.proofs.ManifestDecisionLemmas.{manifest_exact}
use Rattle.bag_tags.proofs.TagLinesLemmas.{text_one, text_none, text_one_fault, value_or_fault}

-- manifests
pub one_list_of_pairs : (version : Version) (alg : Alg) (kind : Kind) (octets : List ℕ) (pairs others : List Pair) → ManifestText version alg kind octets pairs → ManifestText version alg kind octets others → pairs ≡ others
one_list_of_pairs version alg kind octets pairs others m n = ap (λ (l : Listing). l.pairs) (text_one _ _ (manifest_exact version) _ octets _ _ m n)

pub no_pairs : (version : Version) (alg : Alg) (kind : Kind) (octets : List ℕ) (pairs : List Pair) (fault : LineFault) → ManifestText version alg kind octets pairs → ManifestFault version alg kind octets fault → ⊥
no_pairs version alg kind octets pairs fault t f = text_none _ _ (manifest_exact version) _ octets _ fault t f

pub one_manifest_fault : (version : Version) (alg : Alg) (kind : Kind) (octets : List ℕ) (fault other : LineFault) → ManifestFault version alg kind octets fault → ManifestFault version alg kind octets other → fault ≡ other
one_manifest_fault version alg kind octets fault other f g = text_one_fault _ _ (manifest_exact version) _ octets fault other f g

-- `fetch.txt`
pub one_list_of_entries : (version : Version) (octets : List ℕ) (lines others : List FetchLine) → FetchText version octets lines → FetchText version octets others → lines ≡ others
one_list_of_entries version octets lines others t u = text_one _ _ (fetch_exact version) _ octets lines others t u

pub no_entries : (version : Version) (octets : List ℕ) (lines : List FetchLine) (fault : LineFault) → FetchText version octets lines → FetchFault version octets fault → ⊥
no_entries version octets lines fault t f = text_none _ _ (fetch_exact version) _ octets lines fault t f

pub one_fetch_fault : (version : Version) (octets : List ℕ) (fault other : LineFault) → FetchFault version octets fault → FetchFault version octets other → fault ≡ other
one_fetch_fault version octets fault other f g = text_one_fault _ _ (fetch_exact version) _ octets fault other f g

pub entries_or_fault : (version : Version) (octets : List ℕ) → ((lines : List FetchLine) × FetchText version octets lines) ⊎ ((fault : LineFault) × FetchFault version octets fault)
entries_or_fault version octets = value_or_fault _ _ (fetch_exact version) _ octets

-- `bag-info.txt`
pub one_list_of_elements : (version : Version) (octets : List ℕ) (elements others : List MetadataElement) → InfoText version octets elements → InfoText version octets others → elements ≡ others
one_list_of_elements version octets elements others t u = text_one _ _ (info_exact version) _ octets elements others t u

pub no_elements : (version : Version) (octets : List ℕ) (elements : List MetadataElement) (fault : LineFault) → InfoText version octets elements → InfoFault version octets fault → ⊥
no_elements version octets elements fault t f = text_none _ _ (info_exact version) _ octets elements fault t f

pub one_info_fault : (version : Version) (octets : List ℕ) (fault other : LineFault) → InfoFault version octets fault → InfoFault version octets other → fault ≡ other
one_info_fault version octets fault other f g = text_one_fault _ _ (info_exact version) _ octets fault other f g

pub elements_or_fault : (version : Version) (octets : List ℕ) → ((elements : List MetadataElement) × InfoText version octets elements) ⊎ ((fault : LineFault) × InfoFault version octets fault)
elements_or_fault version octets = value_or_fault _ _ (info_exact version) _ octets
