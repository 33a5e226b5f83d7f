use Rattle.std.proofs.Common.{◌≡◌, List, length, arith, sym, subst}
use Rattle.bag_path.specs.declared.version.Version.{Version}
use Rattle.bag_rules.proofs.Words.{Adds, FetchLine, IsEntryUnlisted, Listing, OfSome}
use Rattle.bag_rules.proofs.EachLemmas.{each_all, each_more}
use Rattle.bag_rules.proofs.FetchLemmas.{all_unlisted}
use Rattle.bag_rules.proofs.listing_faults.add_fetch_unlisted.Goals as goal

pub loop-line-preserved : goal.loop-line-preserved
loop-line-preserved c =
    let line = c.line-item.result in
    each_more c.fetch_lines-line-items.result.now c.loop-line.line-index line (λ (l : FetchLine). IsEntryUnlisted c.args.version c.args.texts.now.manifests.items l.entry.path) _ _ _
    c.loop-line-test.true c.line-item.is c.loop-line.invariant
    (subst (λ p. Adds c.loop-line.faults.items c.add_entry_unlisted.new.faults.items (IsEntryUnlisted c.args.version c.args.texts.now.manifests.items p)) c.path.ensures.path
    (subst (λ (ls : List Listing). Adds c.loop-line.faults.items c.add_entry_unlisted.new.faults.items (IsEntryUnlisted c.args.version ls c.path.result.now)) c.deref.ensures.value c.in_ok-add_entry_unlisted.ensures))

pub returns : goal.returns
returns c = λ bag version_is are.
    let lines = c.fetch_lines-line-items.result.now in
    let all : c.loop-line.line-index ≡ length lines = omega arith in
    let added = each_all lines c.loop-line.line-index (λ (l : FetchLine). IsEntryUnlisted c.args.version c.args.texts.now.manifests.items l.entry.path) _ _ all c.loop-line.invariant in
    all_unlisted bag c.args.texts.now are lines c.fetch_lines-line-items.ensures _ _
    (subst (λ (v : Version). Adds c.args.faults.now.items c.loop-line.faults.items (OfSome lines (λ (l : FetchLine). IsEntryUnlisted v c.args.texts.now.manifests.items l.entry.path))) (sym version_is) added)
