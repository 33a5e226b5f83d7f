-- The faults of a file by the manifests.
use Rattle.std.proofs.Common.{◌≡◌, ◌≢◌, ◌⊎◌, ◌||◌, ◌&&◌, ℕ, Bool, true, false, List, [], ◌∷◌, ◌++◌, Some, None, if◌then◌else◌, refl, sym, ap, ◌∙◌, inl, inr, subst}
use Rattle.bag_rules.proofs.Words.{Adds, Alg, AlgSet, and_parts, and_right, AreDigests, cases_Bool, Digest, digest_in, Digests, false≢true, Fault, FetchLength, Fits, FitsListing, GivenLength, Has, has, hash, is_alg, is_payload, IsFaultBy, IsFileUnlisted, IsOtherDigest, IsOtherLength, IsReadBy, listed_digest, Listing, lists_by, lists_path, Md5, name_in, OfSome, or_cases, same_Some, Sha1, Sha256, Sha512, Want, WrongDigest}
use Rattle.bag_path.specs.declared.version.Version.{Version}
use Rattle.bag_digest.specs.declared.sums.Sums.{Sums}
use Rattle.bag_rules.specs.KeptInside.{HasSums}
use Rattle.bag_rules.proofs.AddsLemmas.{adds_none, adds_on, adds_one, adds_so}
use Rattle.bag_rules.proofs.AlgLemmas.{itself}
use Rattle.bag_rules.proofs.ListedLemmas.{some_listed}
use Rattle.bag_tags.proofs.TextFiles.{each_alg}
use Rattle.std.proofs.Math.Bool.{or-false, and-true}

-- THE ALGORITHMS OF A FILE

or_assoc : (a b c : Bool) → (a || (b || c)) ≡ ((a || b) || c)
or_assoc true b c = refl
or_assoc false b c = refl

or_turned : (a b : Bool) → (a || b) ≡ (b || a)
or_turned true true = refl
or_turned true false = refl
or_turned false true = refl
or_turned false false = refl

lists_push : (listings : List Listing) (new : Listing) (path : List ℕ) (alg : Alg) → lists_by (listings ++ new ∷ []) path alg ≡ (lists_by listings path alg || (is_alg new.alg alg && lists_path new.pairs path))
lists_push [] new path alg = or-false (is_alg new.alg alg && lists_path new.pairs path)
lists_push (l ∷ listings) new path alg = ap (λ b. (is_alg l.alg alg && lists_path l.pairs path) || b) (lists_push listings new path alg) ∙ or_assoc (is_alg l.alg alg && lists_path l.pairs path) (lists_by listings path alg) (is_alg new.alg alg && lists_path new.pairs path)

-- one more manifest, which lists the path
pub one_lists : (listings : List Listing) (new : Listing) (path : List ℕ) (old set : AlgSet) → lists_path new.pairs path ≡ true → ((alg : Alg) → has old alg ≡ lists_by listings path alg) → ((alg : Alg) → has set alg ≡ (is_alg new.alg alg || has old alg)) → (alg : Alg) → has set alg ≡ lists_by (listings ++ new ∷ []) path alg
one_lists listings new path old set lists before with_alg alg =
    with_alg alg
    ∙ ap (λ b. is_alg new.alg alg || b) (before alg)
    ∙ or_turned (is_alg new.alg alg) (lists_by listings path alg)
    ∙ ap (λ b. lists_by listings path alg || b) (sym (ap (λ b. is_alg new.alg alg && b) lists ∙ and-true (is_alg new.alg alg)))
    ∙ sym (lists_push listings new path alg)

-- and one that doesn't
pub none_lists : (listings : List Listing) (new : Listing) (path : List ℕ) (set : AlgSet) → lists_path new.pairs path ≡ false → ((alg : Alg) → has set alg ≡ lists_by listings path alg) → (alg : Alg) → has set alg ≡ lists_by (listings ++ new ∷ []) path alg
none_lists listings new path set lists before alg =
    before alg
    ∙ sym (or-false (lists_by listings path alg))
    ∙ ap (λ b. lists_by listings path alg || b) (sym (and_right (is_alg new.alg alg) (lists_path new.pairs path) lists))
    ∙ sym (lists_push listings new path alg)

-- a manifest that lists the path does so by its algorithm
pub lists_here : (listings : List Listing) (listing : Listing) (path : List ℕ) → Has listings listing → lists_path listing.pairs path ≡ true → lists_by listings path listing.alg ≡ true
lists_here [] listing path h lists = absurd h
lists_here (l ∷ listings) listing path (inl e) lists =
    let same : lists_path l.pairs path ≡ true = ap (λ (x : Listing). lists_path x.pairs path) e ∙ lists in
    let alg : is_alg l.alg listing.alg ≡ true = ap (λ (x : Listing). is_alg x.alg listing.alg) e ∙ itself listing.alg in
    rw same (rw alg refl)
lists_here (l ∷ listings) listing path (inr h) lists =
    or_turned (is_alg l.alg listing.alg && lists_path l.pairs path) (lists_by listings path listing.alg)
    ∙ ap (λ b. b || (is_alg l.alg listing.alg && lists_path l.pairs path)) (lists_here listings listing path h lists)

-- if the path is listed by an algorithm, some manifest by it lists the path
some_lists : (listings : List Listing) (path : List ℕ) (alg : Alg) → lists_by listings path alg ≡ true → (listing : Listing) × Has listings listing × (lists_path listing.pairs path ≡ true)
some_lists [] path alg h = absurd (false≢true h)
some_lists (l ∷ listings) path alg h = elim (or_cases (is_alg l.alg alg && lists_path l.pairs path) (lists_by listings path alg) h) [
  | inl here ↦ (l, inl refl, (and_parts (is_alg l.alg alg) (lists_path l.pairs path) here).1)
  | inr further ↦ let s = some_lists listings path alg further in (s.0, inr s.1, s.2)
]

-- FILES THAT ARE READ

-- a file that isn't a payload file and that no manifest lists isn't read
pub not_read : (listings : List Listing) (path : List ℕ) (set : AlgSet) → ((alg : Alg) → has set alg ≡ lists_by listings path alg) → ((alg : Alg) → has set alg ≡ false) → is_payload path ≡ false → ¬ IsReadBy listings path
not_read listings path set lists none other (inl payload) = false≢true (sym other ∙ payload)
not_read listings path set lists none other (inr listed) = false≢true (sym (none listed.0.alg) ∙ lists listed.0.alg ∙ lists_here listings listed.0 path listed.1 listed.2)

some_or_none : (test : Alg → Bool) → ((alg : Alg) × (test alg ≡ true)) ⊎ ((alg : Alg) → test alg ≡ false)
some_or_none test = elim (cases_Bool (test Md5)) [
  | inl h ↦ inl (Md5, h)
  | inr a ↦ elim (cases_Bool (test Sha1)) [
    | inl h ↦ inl (Sha1, h)
    | inr b ↦ elim (cases_Bool (test Sha256)) [
      | inl h ↦ inl (Sha256, h)
      | inr c ↦ elim (cases_Bool (test Sha512)) [
        | inl h ↦ inl (Sha512, h)
        | inr d ↦ inr (each_alg (λ alg. test alg ≡ false) a b c d)
      ]
    ]
  ]
]

-- a file that some manifest lists is read
pub listed_is_read : (listings : List Listing) (path : List ℕ) (set : AlgSet) → ((alg : Alg) → has set alg ≡ lists_by listings path alg) → ¬ ((alg : Alg) → has set alg ≡ false) → IsReadBy listings path
listed_is_read listings path set lists some = elim (some_or_none (lists_by listings path)) [
  | inl h ↦ inr (some_lists listings path h.0 h.1)
  | inr none ↦ absurd (some (λ alg. lists alg ∙ none alg))
]

-- a file that isn't read has no fault
pub no_faults_by : (version : Version) (listings : List Listing) (lengths : List GivenLength) (path octets : List ℕ) → ¬ IsReadBy listings path → lengths ≡ [] → (f : Fault) → IsFaultBy version listings lengths path octets f → ⊥
no_faults_by version listings lengths path octets unread none f (inl unlisted) = unread (inl unlisted.0)
no_faults_by version listings lengths path octets unread none f (inr (inl longer)) = subst (λ gs. Has gs longer.0) none longer.1
no_faults_by version listings lengths path octets unread none f (inr (inr wrong)) = unread (inr (wrong.0, wrong.1, some_listed wrong.0.pairs path wrong.2.0 wrong.2.1))

-- THE FAULT BY ONE MANIFEST, OR BY ONE LENGTH

pub adds_longer : (old new : List Fault) (given : GivenLength) (path : List ℕ) (n : ℕ) → given.length ≢ n → new ≡ old ++ FetchLength given.line path ∷ [] → Adds old new (IsOtherLength path n given)
adds_longer old new given path n other e = adds_one old new (FetchLength given.line path) (IsOtherLength path n given) e (other, refl) (λ f longer. sym longer.1)

pub adds_wrong : (old new : List Fault) (listing : Listing) (path : List ℕ) (digests : Digests) (digest : Digest) → listed_digest listing.pairs path ≡ Some digest → digest_in digests listing.alg ≢ Some digest → new ≡ old ++ WrongDigest (name_in listing) path ∷ [] → Adds old new (IsOtherDigest path digests listing)
adds_wrong old new listing path digests digest some wrong e = adds_one old new (WrongDigest (name_in listing) path) (IsOtherDigest path digests listing) e (digest, some, wrong, refl) (λ f other. sym other.3)

pub none_wrong : (faults : List Fault) (listing : Listing) (path : List ℕ) (digests : Digests) → FitsListing path digests listing → Adds faults faults (IsOtherDigest path digests listing)
none_wrong faults listing path digests fits = adds_none faults (IsOtherDigest path digests listing) (λ f wrong. wrong.2 (fits wrong.0 wrong.1))

-- THE FAULTS BY ALL

-- the digest that was taken is the file's
pub taken : (digests : Digests) (set : AlgSet) (listings : List Listing) (listing : Listing) (path octets : List ℕ) → AreDigests digests set octets → ((alg : Alg) → lists_by listings path alg ≡ true → has set alg ≡ true) → Has listings listing → lists_path listing.pairs path ≡ true → digest_in digests listing.alg ≡ Some (hash listing.alg octets)
taken digests set listings listing path octets are lists has listed = are listing.alg ∙ ap (λ b. if b then Some (hash listing.alg octets) else None) (lists listing.alg (lists_here listings listing path has listed))

module _ (version : Version) (want : Want) (octets : List ℕ) (sums : Sums) (set : AlgSet) (are : HasSums sums set octets) (lists : (alg : Alg) → lists_by want.manifests.now want.path.now alg ≡ true → has set alg ≡ true) where
  own : (listing : Listing) → Has want.manifests.now listing → lists_path listing.pairs want.path.now ≡ true → digest_in sums.digests listing.alg ≡ Some (hash listing.alg octets)
  own listing has = taken sums.digests are.taken want.manifests.now listing want.path.now octets are.sums.1 (λ alg l. are.covers alg (lists alg l)) has

  -- a file that is the one that is wanted can only be unlisted
  pub fits_unlisted : (old new : List Fault) → Fits want sums → Adds old new (IsFileUnlisted version want.manifests.now want.path.now) → Adds old new (IsFaultBy version want.manifests.now want.lengths.now want.path.now octets)
  fits_unlisted old new fits = adds_so old new _ _ (λ f unlisted. inl unlisted) (λ f fault. elim fault [
    | inl unlisted ↦ unlisted
    | inr other ↦ absurd (elim other [
      | inl longer ↦ longer.2.0 (fits.0 longer.0 longer.1 ∙ are.sums.0)
      | inr wrong ↦ (let some = some_listed wrong.0.pairs want.path.now wrong.2.0 wrong.2.1 in wrong.2.2 (same_Some _ _ (sym (own wrong.0 wrong.1 some) ∙ fits.1 wrong.0 wrong.1 wrong.2.0 wrong.2.1)))
    ])
  ])

  -- another has these faults
  pub faults_by : (old a b new : List Fault) → Adds old a (IsFileUnlisted version want.manifests.now want.path.now) → Adds a b (OfSome want.lengths.now (IsOtherLength want.path.now sums.length)) → Adds b new (OfSome want.manifests.now (IsOtherDigest want.path.now sums.digests)) → Adds old new (IsFaultBy version want.manifests.now want.lengths.now want.path.now octets)
  faults_by old a b new unlisted longer wrong = adds_on old a new _ _ _ (λ f h. h) (λ f h. inl h) (λ f h. inr h) unlisted (adds_on a b new _ _ _ (λ f h. h) (λ f h. inl h) (λ f h. inr h)
      (subst (λ n. Adds a b (OfSome want.lengths.now (IsOtherLength want.path.now n))) are.sums.0 longer)
      (adds_so b new _ _
      (λ f h. (h.0, h.1, (h.2.0, h.2.1, (λ e. h.2.2 (own h.0 h.1 (some_listed h.0.pairs want.path.now h.2.0 h.2.1) ∙ ap Some e)), h.2.3)))
      (λ f h. (h.0, h.1, (h.2.0, h.2.1, (λ e. h.2.2 (same_Some _ _ (sym (own h.0 h.1 (some_listed h.0.pairs want.path.now h.2.0 h.2.1)) ∙ e))), h.2.3)))
      wrong))
