use Rattle.std.proofs.Common.{◌≡◌, ◌<◌, ◌∙◌, Some, length, slice_get, true, false, ap, arith, subst, sym, inl, inr}
use Rattle.bag_rules.proofs.Words.{cases_lt, length-map, slice_get_within}
use Rattle.bag_rules.specs.Bags.{paths_of}
use Rattle.bag_rules.specs.OpeningInside.{HasTooManyLines}
use Rattle.bag_rules.specs.Transfers.{tag_bag}
use Rattle.bag_rules.proofs.EachLemmas.{stands_at}
use Rattle.bag_rules.proofs.PlaceLemmas.{same_file}
use Rattle.bag_rules.proofs.RisingPaths.{higher}
use Rattle.bag_rules.proofs.TagBags.{tag_at}
use Rattle.bag_rules.proofs.TreeLemmas.{shown_at}
use Rattle.bag_rules.proofs.plan_fault.first_large.Goals as goal

pub loop-file-init : goal.loop-file-init
loop-file-init c = λ k path octets below. absurd (omega (arith, below))

pub returns-then-is_large : goal.returns-then-is_large
returns-then-is_large c =
    let tags = c.args.tags.now in
    let items = c.files-file-items.result.now in
    let i = c.loop-file.file-index in
    let file = c.file-item.result in
    let at = tag_at items tags i file c.files-file-items.ensures.files (stands_at items i file c.loop-file-test.true ∙ ap Some (sym c.file-item.is)) in
    let many = c.is_large.ensures.0 c.if-is_large.true in
    record {
      has = (many.0, (file.body.items, many.1, (i, at), many.2, many.3));
      first = λ other has greater.
          let place = has.1.2 in
          let below = higher (paths_of (tag_bag tags)) c.files-file-items.ensures.tags.rising i place.0 file.path other (shown_at (tag_bag tags) i file.path file.body.items at) (shown_at (tag_bag tags) place.0 other has.1.0 place.1) greater in
          c.loop-file.invariant place.0 other has.1.0 below place.1 (has.0, has.1.1, has.1.3, has.1.4);
    }

pub loop-file-preserved : goal.loop-file-preserved
loop-file-preserved c = λ k path octets below there many.
    let tags = c.args.tags.now in
    let items = c.files-file-items.result.now in
    let i = c.loop-file.file-index in
    let file = c.file-item.result in
    let at = tag_at items tags i file c.files-file-items.ensures.files (stands_at items i file c.loop-file-test.true ∙ ap Some (sym c.file-item.is)) in
    elim (cases_lt k i) [
      | inl before ↦ c.loop-file.invariant k path octets before there many
      | inr here ↦
          let e : k ≡ i = omega (arith, below, here) in
          let same = same_file (slice_get tags i) path octets file.path file.body.items (ap (slice_get tags) (sym e) ∙ there) at in
          (let k : true ≡ false = sym (c.is_large.ensures.1 (subst (λ p. HasTooManyLines p file.body.items) same.0 (subst (HasTooManyLines path) same.1 many))) ∙ c.if-is_large.false in cc)
    ]

pub returns : goal.returns
returns c = λ path has.
    let tags = c.args.tags.now in
    let items = c.files-file-items.result.now in
    let place = has.1.2 in
    let n : length items ≡ length tags = sym (length-map items _) ∙ ap length c.files-file-items.ensures.files in
    let below : place.0 < c.loop-file.file-index = omega (arith, n, slice_get_within tags place.0 (path, has.1.0) place.1) in
    c.loop-file.invariant place.0 path has.1.0 below place.1 (has.0, has.1.1, has.1.3, has.1.4)
