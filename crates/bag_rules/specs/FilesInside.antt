-- Faults of the files, in terms of what was read. Only private functions cite these; HasFault defines what a fault is.
use Rattle.std.specs.Prelude.{◌≡◌, ◌≢◌, ◌⊎◌, ℕ, Bool, true, false, List, Option, Some, Contains, length, slice_get}
use Rattle.std.specs.Bool.{then_some}
use Rattle.bag_path.specs.declared.version.Version.{Version}
use Rattle.bag_path.specs.declared.version.Version.TheVariants.{V1, V097}
use Rattle.bag_path.specs.Paths.{is_payload}
use Rattle.bag_digest.specs.declared.algorithm.Alg.{Alg}
use Rattle.bag_digest.specs.declared.digest.Digest.{Digest}
use Rattle.bag_digest.specs.declared.multi.Digests.{Digests}
use Rattle.bag_digest.specs.Hash.{hash, digest_in}
use Rattle.bag_tags.specs.declared.listing.Kind.TheVariants.{Payload}
use Rattle.bag_tags.specs.Infos.{MetadataElement, is_oxum}
use Rattle.bag_tags.specs.Listings.{Listing, lists_path, listed_digest}
use Rattle.bag_tags.specs.Oxums.{OxumText}
use Rattle.bag_rules.specs.declared.fault.Fault.{Fault}
use Rattle.bag_rules.specs.declared.fault.Fault.TheVariants.{Missing, Unlisted, FetchNotListed, FetchLength, WrongDigest}
use Rattle.bag_tags.specs.declared.name.ManifestName.{ManifestName}
use Rattle.bag_rules.specs.declared.outcome.CheckFault.{CheckFault}
use Rattle.bag_rules.specs.Bags.{Bag, octet_count, payload_of}
use Rattle.bag_rules.specs.Faults.{Has}
use Rattle.bag_rules.specs.Limits.{IsLongFile}
use Rattle.bag_digest.specs.Algorithm.{IsFirstAmong}
use Rattle.bag_rules.specs.ReadingInside.{name_in}
use Rattle.bag_rules.specs.Wants.{HasSuch}
use Rattle.bag_rules.specs.WantsInside.{given_at}
use Rattle.bag_rules.specs.declared.want.GivenLength.{GivenLength}
use Rattle.bag_rules.specs.declared.requirements.Requirements.{Requirements}
use Rattle.bag_rules.specs.declared.oxum_faults.PayloadSize.{PayloadSize}

-- LISTED FILES

-- the file of one pair is missing
abbrev pub IsPairMissing : List (List ℕ) → ManifestName → List ℕ → Fault → Type 0
IsPairMissing paths name path fault = (¬ Contains paths path) × (fault ≡ Missing name path)

-- a file that one manifest lists and that is not there
abbrev pub IsMissingBy : List (List ℕ) → Listing → Fault → Type 0
IsMissingBy paths listing fault = (path : List ℕ)
    × ((lists_path listing.pairs path ≡ true) × ¬ Contains paths path
    × (fault ≡ Missing (name_in listing) path))

-- a file that one payload manifest lists and that is not there
abbrev pub IsPayloadMissing : List (List ℕ) → Listing → Fault → Type 0
IsPayloadMissing paths listing fault = (listing.kind ≡ Payload) × IsMissingBy paths listing fault

-- a file that some manifest lists and that is not there
abbrev pub IsMissing : List (List ℕ) → List Listing → Fault → Type 0
IsMissing paths listings fault = (listing : Listing) × Has listings listing
    × IsMissingBy paths listing fault

-- UNLISTED PATHS

-- a payload manifest by this algorithm lists the path, or doesn't
abbrev pub HasPayloadListing : List Listing → List ℕ → Bool → Alg → Type 0
HasPayloadListing listings path lists =
    HasSuch listings (λ listing. (listing.kind ≡ Payload)
    × (lists_path listing.pairs path ≡ lists))

-- the payload manifest that is reported because the path isn't listed as required
abbrev pub IsUnlistedIn : Version → List Listing → Alg → List ℕ → Type 0
IsUnlistedIn V1 listings alg path = HasPayloadListing listings path false alg
IsUnlistedIn V097 listings alg path = IsFirstAmong (HasPayloadListing listings path false) alg
    × ((other : Alg) → ¬ HasPayloadListing listings path true other)

-- an entry of `fetch.txt` for this path isn't listed as required
abbrev pub IsEntryUnlisted : Version → List Listing → List ℕ → Fault → Type 0
IsEntryUnlisted version listings path fault = (alg : Alg)
    × IsUnlistedIn version listings alg path × (fault ≡ FetchNotListed alg path)

-- a payload file isn't listed as required
abbrev pub IsFileUnlisted : Version → List Listing → List ℕ → Fault → Type 0
IsFileUnlisted version listings path fault = (is_payload path ≡ true) × ((alg : Alg)
    × IsUnlistedIn version listings alg path × (fault ≡ Unlisted alg path))

-- FILES THAT ARE THERE

-- a file is read if it is a payload file or some manifest lists it
abbrev pub IsReadBy : List Listing → List ℕ → Type 0
IsReadBy listings path = (is_payload path ≡ true)
    ⊎ ((listing : Listing) × Has listings listing × (lists_path listing.pairs path ≡ true))

-- it is read, and too large
abbrev pub IsLongRead : List Listing → List ℕ → List ℕ → CheckFault → Type 0
IsLongRead listings path octets fault = IsReadBy listings path × IsLongFile path octets fault

-- the manifest lists a digest that isn't among these
abbrev pub IsOtherDigest : List ℕ → Digests → Listing → Fault → Type 0
IsOtherDigest path digests listing fault = (digest : Digest)
    × (listed_digest listing.pairs path ≡ Some digest)
    × (digest_in digests listing.alg ≢ Some digest) × (fault ≡ WrongDigest (name_in listing) path)

-- the manifest lists a digest that isn't that of the octets
abbrev pub IsWrongIn : List ℕ → List ℕ → Listing → Fault → Type 0
IsWrongIn path octets listing fault = (digest : Digest)
    × (listed_digest listing.pairs path ≡ Some digest)
    × (hash listing.alg octets ≢ digest) × (fault ≡ WrongDigest (name_in listing) path)

-- a length that is given isn't this one
abbrev pub IsOtherLength : List ℕ → ℕ → GivenLength → Fault → Type 0
IsOtherLength path n given fault = (given.length ≢ n) × (fault ≡ FetchLength given.line path)

-- a fault of one of these
abbrev pub OfSome : {X : Type 0} → List X → (X → Fault → Type 0) → Fault → Type 0
OfSome {X} xs of fault = (x : X) × Has xs x × of x fault

-- the faults of a file with these octets, by what the tag files say about it
abbrev pub IsFaultBy : Version → List Listing → List GivenLength → List ℕ → List ℕ → Fault → Type 0
IsFaultBy version listings lengths path octets fault =
    IsFileUnlisted version listings path fault
    ⊎ (OfSome lengths (IsOtherLength path (length octets)) fault
    ⊎ OfSome listings (IsWrongIn path octets) fault)

abbrev pub IsFaultIn : Requirements → List ℕ → List ℕ → Fault → Type 0
IsFaultIn wants path octets fault =
    IsFaultBy wants.version wants.manifests.now (given_at wants.lengths path) path octets fault

-- the faults of the files of a bag
abbrev pub IsFileFault : Bag → Requirements → Fault → Type 0
IsFileFault bag wants fault = (i : ℕ) ×
    ((path : List ℕ) × ((octets : List ℕ) × (slice_get bag.files i ≡ Some (path, octets))
    × IsFaultIn wants path octets fault))

-- THE SIZE OF THE PAYLOAD

-- the length of a payload file; `None` for another file
abbrev pub payload_length : List ℕ → List ℕ → Option ℕ
payload_length path octets = then_some (is_payload path) (length octets)

-- the payload of these files has this size
abbrev pub IsSizeOf : List (List ℕ × List ℕ) → PayloadSize → Type 0
IsSizeOf files size = (size.octets ≡ octet_count (payload_of files))
    × (size.streams ≡ length (payload_of files))

-- a `Payload-Oxum` that gives another size
abbrev pub IsOtherOxum : PayloadSize → MetadataElement → Type 0
IsOtherOxum size element = (is_oxum element ≡ true)
    × ((o : ℕ) × ((s : ℕ) × OxumText element.value o s × ((o ≢ size.octets) ⊎ (s ≢ size.streams))))
