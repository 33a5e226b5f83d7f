use Rattle.std.proofs.Common.{◌≡◌, ◌∙◌, Some, length, ap, arith, sym}
use Rattle.bag_rules.specs.OpeningInside.{IsWrongFile}
use Rattle.bag_rules.proofs.Words.{length-map}
use Rattle.bag_rules.proofs.EachLemmas.{each_all, each_at, stands_at}
use Rattle.bag_rules.proofs.TagBags.{tag_at}
use Rattle.bag_rules.proofs.plan_fault.add_wrong_tags.Goals as goal

pub loop-file-preserved : goal.loop-file-preserved
loop-file-preserved c =
    let tags = c.args.tags.now in
    let items = c.files-file-items.result.now in
    let i = c.loop-file.file-index in
    let file = c.file-item.result in
    let at = tag_at items tags i file c.files-file-items.ensures.files (stands_at items i file c.loop-file-test.true ∙ ap Some (sym c.file-item.is)) in
    each_at tags i (file.path, file.body.items) (IsWrongFile c.args.manifests.now) _ _ _ at c.loop-file.invariant c.in_ok-add_wrong_file.ensures

pub returns : goal.returns
returns c =
    let items = c.files-file-items.result.now in
    let n : length items ≡ length c.args.tags.now = sym (length-map items _) ∙ ap length c.files-file-items.ensures.files in
    let all : c.loop-file.file-index ≡ length c.args.tags.now = omega (arith, n) in
    each_all c.args.tags.now c.loop-file.file-index (IsWrongFile c.args.manifests.now) _ _ all c.loop-file.invariant
