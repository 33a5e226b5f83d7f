use Rattle.std.proofs.Common.{List, subst}
use Rattle.bag_rules.specs.OpeningInside.{IsTagMissing, IsWrongFile}
use Rattle.bag_rules.specs.Transfers.{tag_bag}
use Rattle.bag_rules.proofs.Words.{Adds, IsFileUnlisted, Listing, OfSome, on_ok_weaker, paths_in, shown_of}
use Rattle.bag_rules.proofs.OpeningFaults.{files_found}
use Rattle.bag_rules.proofs.plan_fault.add_opening_faults.Goals as goal

pub returns : goal.returns
returns c =
    let tags = c.args.tags.now in
    let texts = c.args.texts.now in
    let read = c.requires.known in
    on_ok_weaker c.add_wrong_tags.result
    (λ wrong. files_found tags texts c.requires.texts c.args.expected.now c.requires.expected c.args.version read.version_is _ _ _ _ _ read
    (subst (λ (ls : List Listing). Adds c.args.faults.now.items c.add_missing_tags.new.faults.items (OfSome ls (IsTagMissing (paths_in (shown_of (tag_bag tags)))))) c.deref.ensures.value c.in_ok-add_missing_tags.ensures)
    (c.in_ok-add_fetch_unlisted.ensures (tag_bag tags) read.version_is c.requires.texts)
    (subst (λ (ls : List Listing). Adds c.add_fetch_unlisted.new.faults.items c.add_unlisted_paths.new.faults.items (OfSome c.args.expected.now (IsFileUnlisted c.args.version ls))) c.deref-2.ensures.value c.in_ok-add_unlisted_paths.ensures)
    (subst (λ (ls : List Listing). Adds c.add_unlisted_paths.new.faults.items c.add_wrong_tags.new.faults.items (OfSome tags (IsWrongFile ls))) c.deref-3.ensures.value wrong))
    c.add_wrong_tags.ensures
