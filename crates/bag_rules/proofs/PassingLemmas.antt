-- What passes for a path, by what the tag files want there.
use Rattle.std.proofs.Common.{◌≡◌, ◌≢◌, ◌≤◌, ◌^◌, ◌∙◌, ℕ, true, false, List, [], ◌∷◌, Some, length, refl, sym, subst, inl, inr}
use Rattle.bag_rules.specs.Plans.{IsWantOf}
use Rattle.bag_rules.specs.Transfers.{HasOtherLength, IsMisfit, ListsOther, Passes, tag_bag}
use Rattle.bag_rules.specs.Wants.{IsFirstMisfitOf, IsOtherBy, IsWanted}
use Rattle.bag_rules.specs.declared.want.WantFault.{WantFault}
use Rattle.bag_rules.specs.declared.want.WantFault.TheVariants.{Length, Digest as WrongDigest}
use Rattle.bag_rules.proofs.Words.{Alg, decided_equal, Digest, Files, FitsLength, GivenLength, Has, Kind, listed_digest, Listing, Lists, lists_path, manifest_name, Pair, Payload, Tag, Want}
use Rattle.bag_rules.proofs.InPlace.{expected_payload, listed_in_place}
use Rattle.bag_rules.proofs.ListedLemmas.{some_listed}

-- LENGTHS

-- if not every length that is given is this one, some length is another
some_other : (given : List GivenLength) (n : ℕ) → ¬ ((one : GivenLength) → Has given one → one.length ≡ n) → (one : GivenLength) × Has given one × (one.length ≢ n)
some_other [] n not = absurd (not (λ one has. absurd has))
some_other (first ∷ given) n not = elim (decided_equal first.length n) [
  | inr other ↦ (first, inl refl, other)
  | inl same ↦ (
      let rest = some_other given n (λ each. not (λ one has. elim has [ inl is ↦ subst (λ (g : GivenLength). g.length ≡ n) is same | inr later ↦ each one later ])) in
      (rest.0, inr rest.1, rest.2)
      )
]

module _ (tags : Files) (path content : List ℕ) (want : Want) (is : IsWantOf tags path want) where
  -- a manifest that lists the path is a payload manifest
  payload_kind : (kind : Kind) (alg : Alg) (pairs : List Pair) → Lists (tag_bag tags) (manifest_name kind alg) pairs → lists_path pairs path ≡ true → kind ≡ Payload
  payload_kind Payload alg pairs lists listed = refl
  payload_kind Tag alg pairs lists listed = absurd (let k : true ≡ false = sym (expected_payload tags path is.expected) ∙ (listed_in_place (tag_bag tags) (manifest_name Tag alg) pairs path lists listed).0 in cc)

  lists_so : (listing : Listing) (digest : Digest) → Has want.manifests.now listing → listed_digest listing.pairs want.path.now ≡ Some digest → Lists (tag_bag tags) (manifest_name Payload listing.alg) listing.pairs × (listed_digest listing.pairs path ≡ Some digest)
  lists_so listing digest has some =
      let lists = (is.manifests listing).0 has in
      let here : listed_digest listing.pairs path ≡ Some digest = subst (λ p. listed_digest listing.pairs p ≡ Some digest) is.path_is some in
      (subst (λ kind. Lists (tag_bag tags) (manifest_name kind listing.alg) listing.pairs) (payload_kind listing.kind listing.alg listing.pairs lists (some_listed listing.pairs path digest here)) lists, here)

  abbrev listing_by : Alg → List Pair → Listing
  listing_by alg pairs = record { alg = alg; kind = Payload; pairs = pairs }

  has_so : (alg : Alg) (pairs : List Pair) → Lists (tag_bag tags) (manifest_name Payload alg) pairs → Has want.manifests.now (listing_by alg pairs)
  has_so alg pairs lists = (is.manifests (listing_by alg pairs)).1 lists

  -- WHAT PASSES

  pub passes_wanted : Passes tags path content → IsWanted want content
  passes_wanted passes = record {
    lengths = λ given has. (let line = (is.lengths given).0 has in sym (passes.lengths line.0 line.1 line.2.0 given.length line.2.1));
    digests = λ listing digest has some. (let so = lists_so listing digest has some in passes.digests listing.alg listing.pairs digest so.0 so.1);
  }

  pub wanted_passes : length content ≤ 2 ^ 30 → IsWanted want content → Passes tags path content
  wanted_passes within wanted = record {
    expected = is.expected;
    within = within;
    digests = λ alg pairs digest lists some. wanted.digests (listing_by alg pairs) digest (has_so alg pairs lists) (subst (λ p. listed_digest pairs p ≡ Some digest) (sym is.path_is) some);
    lengths = λ line entry named given gives.
        (let one : GivenLength = record { line = line.line; length = given } in sym (wanted.lengths one ((is.lengths one).1 (line, entry, (named, gives, refl)))));
  }

  -- WHAT DOESN'T

  other_length : HasOtherLength tags path content → ¬ FitsLength want (length content)
  other_length (line, entry, named, (given, gives, other)) fits =
      let one : GivenLength = record { line = line.line; length = given } in
      other (sym (fits one ((is.lengths one).1 (line, entry, (named, gives, refl)))))

  length_other : ¬ FitsLength want (length content) → HasOtherLength tags path content
  length_other misfit =
      let some = some_other want.lengths.now (length content) misfit in
      let line = (is.lengths some.0).0 some.1 in
      (line.0, line.1, line.2.0, (some.0.length, line.2.1, λ e. some.2 (sym e)))

  fits_length : ¬ HasOtherLength tags path content → FitsLength want (length content)
  fits_length none given has = elim (decided_equal given.length (length content)) [
    | inl same ↦ same
    | inr other ↦ absurd (let line = (is.lengths given).0 has in none (line.0, line.1, line.2.0, (given.length, line.2.1, λ e. other (sym e))))
  ]

  other_digest : (alg : Alg) → ListsOther tags path content alg → IsOtherBy want content alg
  other_digest alg (pairs, lists, (digest, some, other)) = record {
    listing = listing_by alg pairs;
    has = has_so alg pairs lists;
    alg_is = refl;
    is_such = (digest, subst (λ p. listed_digest pairs p ≡ Some digest) (sym is.path_is) some, other);
  }

  digest_other : (alg : Alg) → IsOtherBy want content alg → ListsOther tags path content alg
  digest_other alg by =
      let so = lists_so by.listing by.is_such.0 by.has by.is_such.1 in
      subst (ListsOther tags path content) by.alg_is (by.listing.pairs, so.0, (by.is_such.0, so.1, by.is_such.2))

  pub misfit_so : (fault : WantFault) → IsFirstMisfitOf want content fault → IsMisfit tags path content fault
  misfit_so Length misfit = length_other misfit
  misfit_so (WrongDigest alg) (fits, (first, least)) = (λ other. other_length other fits, (digest_other alg first, λ one lists. least one (other_digest one lists)))

  pub misfit_back : (fault : WantFault) → IsMisfit tags path content fault → IsFirstMisfitOf want content fault
  misfit_back Length misfit = other_length misfit
  misfit_back (WrongDigest alg) (none, (first, least)) = (fits_length none, (other_digest alg first, λ one lists. least one (digest_other one lists)))
