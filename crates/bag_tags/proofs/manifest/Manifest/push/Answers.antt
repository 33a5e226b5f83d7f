use Rattle.std.proofs.Common.{◌≡◌, false, sym, ap, ◌∙◌, subst, rules}
use Rattle.bag_digest.specs.Hash.{alg_of}
use Rattle.bag_tags.specs.Listings.{Listing, pair, lists_path, IsInPlace, NoneTwice}
use Rattle.bag_tags.specs.ManifestView.{FitEach}
use Rattle.bag_tags.proofs.ListingLemmas.{is_listed, none_twice_more, fit_more}
use Rattle.bag_tags.proofs.manifest.Manifest.push.Goals as goal

pub returns-then-contains_key-clause-refused : goal.returns-then-contains_key-clause-refused
returns-then-contains_key-clause-refused c =
    let by_alg : alg_of c.args.digest ≡ c.args.self.now.alg = search rules in
    let in_place : IsInPlace c.args.self.now.kind c.args.path = search rules in (
      by_alg,
      in_place,
      ap (λ (listing : Listing). lists_path listing.pairs c.args.path) (sym c.self.view_is)
          ∙ sym (is_listed c.self.inside.places c.self.inside.pairs.items c.args.path c.self.invariant.index)
          ∙ sym c.contains_key.ensures ∙ c.if-contains_key.true,
    )

pub add-requires-clause-absent : goal.add-requires-clause-absent
add-requires-clause-absent c = sym (is_listed c.self.inside.places c.self.inside.pairs.items c.args.path c.self.invariant.index) ∙ sym c.contains_key.ensures ∙ c.if-contains_key.false

pub invariant_of-self-2 : goal.invariant_of-self-2
invariant_of-self-2 c =
    let absent : lists_path c.self.inside.pairs.items c.args.path ≡ false = sym (is_listed c.self.inside.places c.self.inside.pairs.items c.args.path c.self.invariant.index) ∙ sym c.contains_key.ensures ∙ c.if-contains_key.false in
    let by_alg : alg_of c.args.digest ≡ c.self.inside.alg = search rules in
    let in_place : IsInPlace c.self.inside.kind c.args.path = search rules in
    record {
      index = c.add.ensures.index;
      none_twice = subst NoneTwice (sym c.in_ok-add.ensures.added) (none_twice_more c.self.inside.pairs.items (pair c.args.path c.args.digest) c.self.invariant.none_twice absent);
      fit = subst (FitEach c.self.inside.alg c.self.inside.kind) (sym c.in_ok-add.ensures.added) (fit_more c.self.inside.alg c.self.inside.kind c.self.inside.pairs.items (pair c.args.path c.args.digest) c.self.invariant.fit by_alg in_place);
    }

pub returns-clause-admitted : goal.returns-clause-admitted
returns-clause-admitted c =
    let by_alg : alg_of c.args.digest ≡ c.args.self.now.alg = search rules in
    let in_place : IsInPlace c.args.self.now.kind c.args.path = search rules in
    record {
      by_alg = by_alg;
      in_place = in_place;
      not_listed = ap (λ (listing : Listing). lists_path listing.pairs c.args.path) (sym c.self.view_is)
          ∙ sym (is_listed c.self.inside.places c.self.inside.pairs.items c.args.path c.self.invariant.index) ∙ sym c.contains_key.ensures ∙ c.if-contains_key.false;
    }
