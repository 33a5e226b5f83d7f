use Rattle.std.proofs.Common.{◌≡◌, ◌∙◌, ap, length, refl, arith}
use Rattle.bag_rules.proofs.Words.{IfOk-weaker, slice_get_read}
use Rattle.bag_tags.specs.Fetches.{written_fetch}
use Rattle.bag_writer.proofs.TagTexts.{fetch_all, fetch_more, one_fetched}
use Rattle.bag_writer.proofs.tag_files.texts.fetch_text.Goals as goal

pub loop-hole-init : goal.loop-hole-init
loop-hole-init c = λ set payload are can. ap written_fetch c.new-fetch.ensures

pub fetch_entry-requires : goal.fetch_entry-requires
fetch_entry-requires c =
    let needs = c.requires in
    let there = slice_get_read c.args.holes.now (length c.args.holes.now) c.loop-hole.hole-index c.hole-item.result refl c.loop-hole-test.true c.hole-item.is in
    (needs.0, needs.1, needs.2, one_fetched needs.1 c.args.holes.now c.loop-hole.hole-index c.hole-item.result there needs.3)

pub loop-hole-preserved : goal.loop-hole-preserved
loop-hole-preserved c = λ set payload are can.
    let holes = c.args.holes.now in
    let hole = c.hole-item.result in
    let there = slice_get_read holes (length holes) c.loop-hole.hole-index hole refl c.loop-hole-test.true c.hole-item.is in
    ap written_fetch c.in_ok-push.ensures.added
    ∙ fetch_more payload holes c.loop-hole.hole-index hole c.loop-hole.fetch _ _ c.loop-hole-test.true there
    (c.in_ok-fetch_entry.ensures set payload are (one_fetched payload holes c.loop-hole.hole-index hole there can))
    (c.loop-hole.invariant set payload are can)

pub returns : goal.returns
returns c = λ set payload are can.
    let all : c.loop-hole.hole-index ≡ length c.args.holes.now = omega arith in
    IfOk-weaker c.write_fetch.result _ _ (λ octets written. written ∙ fetch_all payload c.args.holes.now c.loop-hole.hole-index _ all (c.loop-hole.invariant set payload are can)) c.write_fetch.ensures.written
