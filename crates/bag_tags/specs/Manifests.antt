-- The text of a manifest (RFC 8493 section 2.1.3).
use Rattle.std.specs.Prelude.{◌≡◌, ℕ, true, List, codes}
use Rattle.std.specs.List.{AllByRecursion}
use Rattle.bag_path.specs.declared.version.Version.{Version}
use Rattle.bag_path.specs.declared.path.PathFault.{PathFault}
use Rattle.bag_path.specs.declared.path.PathFault.TheVariants as path
use Rattle.bag_path.specs.Paths.{IsPath}
use Rattle.bag_path.specs.Spellings.{Spells, RefusesSpelling}
use Rattle.bag_digest.specs.declared.algorithm.Alg.{Alg}
use Rattle.bag_digest.specs.declared.digest.Digest.{Digest}
use Rattle.bag_digest.specs.Spelling.{SpellsDigest}
use Rattle.bag_tags.specs.declared.tag_fault.LineCause.{LineCause}
use Rattle.bag_tags.specs.declared.tag_fault.LineCause.TheVariants.{NoSeparator, BadDigest, BadPath, WrongPlace, Twice}
use Rattle.bag_tags.specs.declared.tag_fault.LineFault.{LineFault}
use Rattle.bag_tags.specs.declared.listing.Kind.{Kind}
use Rattle.bag_tags.specs.declared.listing.Pair.{Pair}
use Rattle.bag_tags.specs.Words.{IsNotBlank, IsCut, without}
use Rattle.bag_tags.specs.TagLines.{IsTextOf, IsFirstFault}
use Rattle.bag_tags.specs.Listings.{Listing, nothing_listed, with_pair, pair, Admits, IsInPlace, lists_path}

-- the text of a path without one `*` at its start and then without one `./` (both this project's own)
abbrev pub plain_path : List ℕ → List ℕ
plain_path text = without (codes "./") (without (codes "*") text)

-- The line is a checksum, blanks and the text of a path. The checksum is this digest in hex.
pub record HasChecksum (alg : Alg) (text : List ℕ) (digest : Digest)
    (path_text : List ℕ) : Type 0 where
  pub checksum : List ℕ
  pub blanks : List ℕ
  pub cut : IsCut text checksum blanks path_text
  pub spells_digest : SpellsDigest alg checksum digest

-- The line gives the path this digest.
pub record Gives (version : Version) (alg : Alg) (text : List ℕ) (path : List ℕ)
    (digest : Digest) : Type 0 where
  pub path_text : List ℕ
  pub checksum : HasChecksum alg text digest path_text
  pub spells : Spells version path (plain_path path_text)
  pub is_path : IsPath path

-- a line adds the pair that it gives
pub record AddsPair (version : Version) (before : Listing) (number : ℕ) (text : List ℕ)
    (after : Listing)
    : Type 0 where
  pub path : List ℕ
  pub digest : Digest
  pub gives : Gives version before.alg text path digest
  pub admitted : Admits before path digest
  pub added : after ≡ with_pair before (pair path digest)

-- the octets are the text of a manifest that lists these pairs, in this order
abbrev pub ManifestText : Version → Alg → Kind → List ℕ → List Pair → Type 0
ManifestText version alg kind octets pairs =
    IsTextOf (AddsPair version) (nothing_listed alg kind) octets
    (record { alg = alg; kind = kind; pairs = pairs })

-- the text spells no path: it spells no octets, or octets with this first fault
abbrev pub SpellsNoPath : PathFault → Version → List ℕ → Type 0
SpellsNoPath path.Memory version text = ⊥
SpellsNoPath fault version text = RefusesSpelling fault version text

-- The line has a blank, but what comes before it spells no digest.
pub record HasBadDigest (alg : Alg) (text : List ℕ) : Type 0 where
  pub checksum : List ℕ
  pub blanks : List ℕ
  pub path_text : List ℕ
  pub cut : IsCut text checksum blanks path_text
  pub no_digest : (digest : Digest) → ¬ SpellsDigest alg checksum digest

-- The line has a checksum, but the text after it spells no path.
pub record HasBadPath (version : Version) (alg : Alg) (text : List ℕ)
    (fault : PathFault) : Type 0 where
  pub digest : Digest
  pub path_text : List ℕ
  pub checksum : HasChecksum alg text digest path_text
  pub no_path : SpellsNoPath fault version (plain_path path_text)

-- the first cause for which a line gives no path a digest
abbrev pub GivesNothing : Version → Alg → List ℕ → LineCause → Type 0
GivesNothing version alg text NoSeparator = AllByRecursion IsNotBlank text
GivesNothing version alg text BadDigest = HasBadDigest alg text
GivesNothing version alg text (BadPath fault) = HasBadPath version alg text fault
GivesNothing version alg text _ = ⊥

-- The line gives a path that a manifest of this kind may not list.
pub record HasWrongPlace (version : Version) (before : Listing) (text : List ℕ) : Type 0 where
  pub path : List ℕ
  pub digest : Digest
  pub gives : Gives version before.alg text path digest
  pub elsewhere : ¬ IsInPlace before.kind path

-- The line gives a path that an earlier line lists.
pub record HasListedPath (version : Version) (before : Listing) (text : List ℕ) : Type 0 where
  pub path : List ℕ
  pub digest : Digest
  pub gives : Gives version before.alg text path digest
  pub in_place : IsInPlace before.kind path
  pub listed : lists_path before.pairs path ≡ true

-- the first cause for which a line adds no pair: it gives none, or one that isn't admitted
abbrev pub RefusesLine : Version → Listing → List ℕ → LineCause → Type 0
RefusesLine version before text WrongPlace = HasWrongPlace version before text
RefusesLine version before text Twice = HasListedPath version before text
RefusesLine version before text cause = GivesNothing version before.alg text cause

-- the first fault of a text that lists nothing
abbrev pub ManifestFault : Version → Alg → Kind → List ℕ → LineFault → Type 0
ManifestFault version alg kind octets fault =
    IsFirstFault (AddsPair version) (RefusesLine version) (nothing_listed alg kind) octets fault
