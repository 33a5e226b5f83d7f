use Rattle.std.proofs.Common.{◌≡◌, ◌∙◌, ◌<◌, length, refl, arith}
use Rattle.bag_rules.proofs.Words.{IfOk-weaker, slice_get_read}
use Rattle.bag_writer.proofs.ItemLemmas.{items_length}
use Rattle.bag_writer.proofs.TagTexts.{listing_all, next_admitted, next_listed}
use Rattle.bag_writer.proofs.tag_files.texts.manifest_text.Goals as goal

pub loop-item-init : goal.loop-item-init
loop-item-init c = λ set files are wanted can. c.new-manifest.ensures

pub list_item-requires : goal.list_item-requires
list_item-requires c =
    let needs = c.requires in
    let items = c.args.items.now in
    let there = slice_get_read items (length items) c.loop-item.item-index c.item-item.result refl c.loop-item-test.true c.item-item.is in
    next_admitted needs.0 items needs.1 needs.2 c.args.alg c.args.kind needs.3 needs.4 c.loop-item.item-index c.item-item.result there c.loop-item.manifest
    (c.loop-item.invariant needs.0 needs.1 needs.2 needs.3 needs.4)

pub loop-item-preserved : goal.loop-item-preserved
loop-item-preserved c = λ set files are wanted can.
    let items = c.args.items.now in
    let there = slice_get_read items (length items) c.loop-item.item-index c.item-item.result refl c.loop-item-test.true c.item-item.is in
    let within : c.loop-item.item-index < length files = omega (arith, items_length set items files are) in
    next_listed set items files are c.args.alg c.args.kind wanted can c.loop-item.item-index c.item-item.result there c.loop-item.manifest c.list_item.new.manifest
    (c.loop-item.invariant set files are wanted can) c.in_ok-list_item.ensures within

pub returns : goal.returns
returns c = λ set files are wanted can.
    let all : c.loop-item.item-index ≡ length files = omega (arith, items_length set c.args.items.now files are) in
    IfOk-weaker c.write_manifest.result _ _ (λ octets written. written ∙ listing_all c.args.alg c.args.kind files c.loop-item.item-index c.loop-item.manifest all (c.loop-item.invariant set files are wanted can)) c.write_manifest.ensures.written
