use Rattle.std.proofs.Common.{◌≡◌, Some, sym, subst, length, rules}
use Rattle.std.specs.BTreeMap.{Updates}
use Rattle.std.specs.Ordering.{nat_cmp}
use Rattle.std.specs.Cmp.Lexicographic.{slice_cmp}
use Rattle.bag_tags.specs.Listings.{pair}
use Rattle.bag_tags.specs.ManifestView.{IsIndexOf}
use Rattle.bag_tags.proofs.ListingLemmas.{index_more}
use Rattle.bag_tags.proofs.manifest.add.Goals as goal

pub returns-clause-index : goal.returns-clause-index
returns-clause-index c =
    let old = c.args.pairs.now.items in
    let same_key : c.in_ok-key.key ≡ c.args.path = search rules in
    let place : c.len-place.result ≡ length old = search rules in
    let at_key : Updates (slice_cmp nat_cmp) c.args.places.now c.insert.new.self c.in_ok-key.key (Some c.len-place.result) = c.in-Ok.ensures.updates in
    let at_path : Updates (slice_cmp nat_cmp) c.args.places.now c.insert.new.self c.args.path (Some (length old)) =
    subst (λ n. Updates (slice_cmp nat_cmp) c.args.places.now c.insert.new.self c.args.path (Some n)) place
    (subst (λ key. Updates (slice_cmp nat_cmp) c.args.places.now c.insert.new.self key (Some c.len-place.result)) same_key at_key) in
    subst (λ items. IsIndexOf c.insert.new.self items) (sym c.in_ok-push.ensures.items)
    (index_more c.args.places.now c.insert.new.self old (pair c.args.path c.args.digest) c.requires.indexed c.requires.absent at_path)
