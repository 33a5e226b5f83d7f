use Rattle.std.proofs.Common.{◌≡◌, IfSome, ◌∙◌, sym, ap, subst, slice_get}
use Rattle.bag_digest.specs.Hash.{alg_of}
use Rattle.std.specs.Option.{option_map}
use Rattle.bag_tags.specs.declared.listing.Pair.{Pair}
use Rattle.bag_tags.specs.Listings.{Listing, listed_digest}
use Rattle.bag_tags.proofs.ListingLemmas.{found_is_listed, none_is_listed, listed_fits}
use Rattle.bag_tags.proofs.manifest.Manifest.get.Goals as goal

pub returns-in-Some-clause-listed : goal.returns-in-Some-clause-listed
returns-in-Some-clause-listed c =
    c.digest_at.ensures
    ∙ ap (λ pairs. option_map (λ (pair : Pair). pair.digest) (slice_get pairs c.in-Some.place.now)) c.deref.ensures.value
    ∙ found_is_listed c.self.inside.places c.self.inside.pairs.items c.args.path.now c.in-Some.place.now c.self.invariant.index (sym c.in-Some.ensures.value)
    ∙ ap (λ (listing : Listing). listed_digest listing.pairs c.args.path.now) c.self.view_is

pub returns-in-None-clause-listed : goal.returns-in-None-clause-listed
returns-in-None-clause-listed c =
    sym (none_is_listed c.self.inside.places c.self.inside.pairs.items c.args.path.now c.self.invariant.index (sym c.in-None.ensures.value))
    ∙ ap (λ (listing : Listing). listed_digest listing.pairs c.args.path.now) c.self.view_is

pub returns-in-Some-clause-by_alg : goal.returns-in-Some-clause-by_alg
returns-in-Some-clause-by_alg c =
    subst (λ (listing : Listing). IfSome c.digest_at.result (λ digest. alg_of digest ≡ listing.alg)) c.self.view_is
    (listed_fits c.self.inside.alg c.self.inside.kind c.self.inside.pairs.items c.args.path.now c.digest_at.result c.self.invariant.fit (
    c.digest_at.ensures
    ∙ ap (λ pairs. option_map (λ (pair : Pair). pair.digest) (slice_get pairs c.in-Some.place.now)) c.deref.ensures.value
    ∙ found_is_listed c.self.inside.places c.self.inside.pairs.items c.args.path.now c.in-Some.place.now c.self.invariant.index (sym c.in-Some.ensures.value)
    ))
