-- Which payload manifests are reported because a path isn't listed as required, in terms of what was read and in the
-- bag.
use Rattle.std.proofs.Common.{◌≡◌, ◌≢◌, ◌<◌, ◌≤◌, ◌↔◌, ◌+◌, ◌∙◌, ◌++◌, ◌∷◌, [], ℕ, Bool, true, false, List, length, take, get_or, refl, sym, subst, inl, inr, arith}
use Rattle.std.proofs.lemmas.Cmp.{ranked}
use Rattle.std.specs.Cmp.{nat_cmp_is}
use Rattle.bag_path.specs.declared.version.Version.{Version}
use Rattle.bag_digest.specs.Algorithm.{place_of}
use Rattle.bag_digest.specs.declared.algorithm.TheConstants.Alg.{ALL}
use Rattle.bag_rules.specs.Bags.{version_of}
use Rattle.bag_rules.specs.FilesInside.{HasPayloadListing, IsUnlistedIn}
use Rattle.bag_rules.specs.Listed.{IsUnlisted}
use Rattle.bag_rules.proofs.Words.{Adds, Alg, AlgSet, AreTextsOf, Bag, cases_Bool, cases_lt, false≢true, Fault, Greater, has, Listing, Lists, lists_path, manifest_file, manifest_name, Md5, nat_cmp, OfSome, Pair, Payload, Sha1, Sha256, Sha512, slice_cmp, TagTexts, V1, V097}
use Rattle.bag_rules.proofs.AddsLemmas.{adds_one, adds_same, adds_so}
use Rattle.bag_rules.proofs.EachLemmas.{each_all, each_at, stands_at}
use Rattle.bag_rules.proofs.AlgLemmas.{in_all}
use Rattle.bag_rules.proofs.FrontLemmas.{manifest_listed}
use Rattle.bag_tags.proofs.TextFiles.{each_alg}

-- THE ORDER OF PAYLOAD MANIFESTS

-- their names are in the order of their algorithms
by_name : (a b : Alg) → slice_cmp nat_cmp (manifest_file Payload a) (manifest_file Payload b) ≡ nat_cmp (place_of a) (place_of b)
by_name Md5 = each_alg (λ b. slice_cmp nat_cmp (manifest_file Payload Md5) (manifest_file Payload b) ≡ nat_cmp (place_of Md5) (place_of b)) refl refl refl refl
by_name Sha1 = each_alg (λ b. slice_cmp nat_cmp (manifest_file Payload Sha1) (manifest_file Payload b) ≡ nat_cmp (place_of Sha1) (place_of b)) refl refl refl refl
by_name Sha256 = each_alg (λ b. slice_cmp nat_cmp (manifest_file Payload Sha256) (manifest_file Payload b) ≡ nat_cmp (place_of Sha256) (place_of b)) refl refl refl refl
by_name Sha512 = each_alg (λ b. slice_cmp nat_cmp (manifest_file Payload Sha512) (manifest_file Payload b) ≡ nat_cmp (place_of Sha512) (place_of b)) refl refl refl refl

abbrev IsUpTo : Alg → Alg → Type 0
IsUpTo a b = slice_cmp nat_cmp (manifest_file Payload a) (manifest_file Payload b) ≢ Greater

name_by_place : (a b : Alg) → place_of a ≤ place_of b → IsUpTo a b
name_by_place a b upto e =
    let after : place_of b < place_of a = ranked (place_of a) (place_of b) Greater (sym e ∙ by_name a b) in
    omega (arith, upto, after)

place_by_name : (a b : Alg) → IsUpTo a b → place_of a ≤ place_of b
place_by_name a b upto = elim (cases_lt (place_of b) (place_of a)) [
  | inl after ↦ absurd (upto (by_name a b ∙ sym (nat_cmp_is (place_of a) (place_of b) Greater after)))
  | inr below ↦ omega (arith, below)
]

-- WHAT THE BAG'S MANIFESTS LIST

module _ (bag : Bag) (texts : TagTexts) (are : AreTextsOf (length bag.files) bag texts) where
  listing_said : (path : List ℕ) (lists : Bool) (alg : Alg) → HasPayloadListing texts.manifests.items path lists alg ↔ ((pairs : List Pair) × Lists bag (manifest_name Payload alg) pairs × (lists_path pairs path ≡ lists))
  listing_said path lists alg = (
    λ h.
        let read = (manifest_listed bag texts are h.listing).0 h.has in
        (h.listing.pairs, subst (λ a. Lists bag (manifest_name Payload a) h.listing.pairs) h.alg_is (subst (λ k. Lists bag (manifest_name k h.listing.alg) h.listing.pairs) h.is_such.0 read), h.is_such.1),
    λ h.
        let listing : Listing = record { alg = alg; kind = Payload; pairs = h.0 } in
        record { listing = listing; has = (manifest_listed bag texts are listing).1 h.1; alg_is = refl; is_such = (refl, h.2) },
  )

  told : (version : Version) (alg : Alg) (path : List ℕ) → IsUnlistedIn version texts.manifests.items alg path → IsUnlisted version bag alg path
  told V1 alg path h = (listing_said path false alg).0 h
  told V097 alg path h = (
    record {
      there = let l = (listing_said path false alg).0 h.0.0 in (l.0, l.1);
      first = λ other pairs lists. name_by_place alg other (elim (cases_Bool (lists_path pairs path)) [
        | inl listed ↦ absurd (h.1 other ((listing_said path true other).1 (pairs, lists, listed)))
        | inr not_listed ↦ h.0.1 other ((listing_said path false other).1 (pairs, lists, not_listed))
      ]);
    },
    λ l. h.1 l.0 ((listing_said path true l.0).1 (l.1, l.2, l.3)),
  )

  told_back : (version : Version) (alg : Alg) (path : List ℕ) → IsUnlisted version bag alg path → IsUnlistedIn version texts.manifests.items alg path
  told_back V1 alg path h = (listing_said path false alg).1 h
  told_back V097 alg path h = (
    (
      (listing_said path false alg).1 (
        h.0.there.0,
        h.0.there.1,
        elim (cases_Bool (lists_path h.0.there.0 path)) [
          | inl listed ↦ absurd (h.1 (alg, h.0.there.0, h.0.there.1, listed))
          | inr not_listed ↦ not_listed
        ],
      ),
      λ other l. (let said = (listing_said path false other).0 l in place_by_name alg other (h.0.first other said.0 said.1)),
    ),
    λ other l. (let said = (listing_said path true other).0 l in h.1 (other, said.0, said.1, said.2)),
  )

  -- the same manifests are reported
  pub same_told : (alg : Alg) (path : List ℕ) → IsUnlistedIn (version_of bag) texts.manifests.items alg path ↔ IsUnlisted (version_of bag) bag alg path
  same_told alg path = (told (version_of bag) alg path, told_back (version_of bag) alg path)

-- FAULTS BY ALGORITHM

-- the fault that reports the manifest by an algorithm of the set
abbrev pub IsTold : AlgSet → (Alg → Fault) → Alg → Fault → Type 0
IsTold set of alg fault = (has set alg ≡ true) × (fault ≡ of alg)

module _ (set : AlgSet) (of : Alg → Fault) where
  -- one more algorithm, which is in the set or isn't
  module _ (i : ℕ) (default : Alg) (old mid new : List Fault) (inside : i < 4) (before : Adds old mid (OfSome (take i ALL) (IsTold set of))) where
    abbrev alg : Alg
    alg = get_or ALL i default

    told_more : Adds mid new (IsTold set of alg) → Adds old new (OfSome (take (i + 1) ALL) (IsTold set of))
    told_more = each_at ALL i alg (IsTold set of) old mid new (stands_at ALL i default inside) before

    pub told_one : has set alg ≡ true → new ≡ mid ++ of alg ∷ [] → Adds old new (OfSome (take (i + 1) ALL) (IsTold set of))
    told_one h more = told_more (adds_one mid new (of alg) (IsTold set of alg) more (h, refl) (λ f t. sym t.1))

    pub told_none : has set alg ≡ false → new ≡ mid → Adds old new (OfSome (take (i + 1) ALL) (IsTold set of))
    told_none h same = told_more (adds_same mid new (IsTold set of alg) same (λ f t. false≢true (sym h ∙ t.0)))

  -- those of the whole set
  pub told_all : (told : Alg → Type 0) (i : ℕ) (old new : List Fault) → i ≡ 4 → ((alg : Alg) → (has set alg ≡ true) ↔ told alg) → Adds old new (OfSome (take i ALL) (IsTold set of)) → Adds old new (λ f. (alg : Alg) × told alg × (f ≡ of alg))
  told_all told i old new all says a = adds_so old new (OfSome ALL (IsTold set of)) (λ f. (alg : Alg) × told alg × (f ≡ of alg))
      (λ f h. (h.0, (says h.0).0 h.2.0, h.2.1))
      (λ f h. (h.0, in_all h.0, ((says h.0).1 h.1, h.2)))
      (each_all ALL i (IsTold set of) old new all a)
