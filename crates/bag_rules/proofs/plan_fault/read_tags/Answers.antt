use Rattle.std.proofs.Common.{◌≡◌, ◌∷◌, ◌∙◌, [], Some, length, ap, arith, subst, sym}
use Rattle.bag_path.specs.declared.version.Version.{Version}
use Rattle.bag_rules.proofs.Words.{Adds, AreTextsOf, HasBadLine, HasFaultOf, IsBadLineOf, length-map, ReadsOn}
use Rattle.bag_rules.specs.Transfers.{tag_bag}
use Rattle.bag_rules.proofs.AddsLemmas.{adds_so}
use Rattle.bag_rules.proofs.EachLemmas.{stands_at}
use Rattle.bag_rules.proofs.TagBags.{tag_at, tag_once}
use Rattle.bag_rules.proofs.TextsMore.{all_bad_lines, faults_more, texts_more}
use Rattle.bag_rules.proofs.plan_fault.read_tags.Goals as goal

pub loop-file-preserved : goal.loop-file-preserved
loop-file-preserved c =
    let tags = c.args.tags.now in
    let items = c.files-file-items.result.now in
    let i = c.loop-file.file-index in
    let file = c.file-item.result in
    let at = tag_at items tags i file c.files-file-items.ensures.files (stands_at items i file c.loop-file-test.true ∙ ap Some (sym c.file-item.is)) in
    let once = tag_once tags c.files-file-items.ensures.tags.rising i file.path file.body.items at in
    record {
      read = λ by. texts_more (tag_bag tags) i file.path file.body.items at once c.loop-file.texts c.read_tag.new.texts (c.loop-file.invariant.read by)
          (subst (λ (v : Version). ReadsOn v file.path file.body.items c.loop-file.texts c.read_tag.new.texts) (sym by) c.in_ok-read_tag.ensures.0);
      faulty = λ by. faults_more (tag_bag tags) i file.path file.body.items at once c.args.faults.now.items c.loop-file.faults.items c.read_tag.new.faults.items (c.loop-file.invariant.faulty by)
          (subst (λ (v : Version). Adds c.loop-file.faults.items c.read_tag.new.faults.items (IsBadLineOf v file.path file.body.items)) (sym by) c.in_ok-read_tag.ensures.1);
    }

pub returns-clause-read : goal.returns-clause-read
returns-clause-read c = λ by.
    let items = c.files-file-items.result.now in
    let n : length items ≡ length c.args.tags.now = sym (length-map items _) ∙ ap length c.files-file-items.ensures.files in
    let all : c.loop-file.file-index ≡ length c.args.tags.now = omega (arith, n) in
    subst (λ k. AreTextsOf k (tag_bag c.args.tags.now) c.loop-file.texts) all (c.loop-file.invariant.read by)

pub returns-clause-faulty : goal.returns-clause-faulty
returns-clause-faulty c = λ by.
    let bag = tag_bag c.args.tags.now in
    let items = c.files-file-items.result.now in
    let n : length items ≡ length c.args.tags.now = sym (length-map items _) ∙ ap length c.files-file-items.ensures.files in
    let all : c.loop-file.file-index ≡ length c.args.tags.now = omega (arith, n) in
    adds_so c.args.faults.now.items c.loop-file.faults.items (HasBadLine (length bag.files) bag) (HasFaultOf bag (5 ∷ [])) (λ f. (all_bad_lines bag f).0) (λ f. (all_bad_lines bag f).1)
    (subst (λ k. Adds c.args.faults.now.items c.loop-file.faults.items (HasBadLine k bag)) all (c.loop-file.invariant.faulty by))
