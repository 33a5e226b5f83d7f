use Rattle.std.proofs.Common.{◌≡◌, ℕ, List, true, refl, subst, sym, inl, rules}
use Rattle.bag_tags.specs.FetchEntries.{IsUrl}
use Rattle.bag_rules.proofs.SearchLemmas.{against, found}
use Rattle.bag_rules.proofs.Words.{always_returns_same, is_payload}
use Rattle.bag_writer.proofs.TagTexts.{entry_found, hole_paid, not_missed, path_of}
use Rattle.bag_writer.proofs.tag_files.texts.fetch_entry.Goals as goal

pub unreachable-requires : goal.unreachable-requires
unreachable-requires c =
    let needs = c.requires in
    let can = needs.3 in
    let hole = c.args.hole.now in
    let items = c.args.items.now in
    can.there hole (inl refl) (not_missed needs.0 items needs.1 needs.2 hole.path c.in_default.field-0 can.rising c.in_default.ensures.bound
    (c.in_default.ensures.position (against path_of items hole.path) (always_returns_same _ _ _ (λ a r g called. search rules))))

pub unreachable-requires-in-Err-BadUrl : goal.unreachable-requires-in-Err-BadUrl
unreachable-requires-in-Err-BadUrl c =
    let refused = rw c.in-Err-BadUrl.field-0-is at c.in-Err-BadUrl.ensures.refused in
    c.requires.3.urls c.args.hole.now (inl refl) (λ url. refused (subst IsUrl (sym c.as_str.ensures.value) url))

pub unreachable-requires-in-Err-NotPayload : goal.unreachable-requires-in-Err-NotPayload
unreachable-requires-in-Err-NotPayload c =
    let refused = rw c.in-Err-NotPayload.field-0-is at c.in-Err-NotPayload.ensures.refused in
    let same : c.in_ok-path.path ≡ c.args.hole.now.path = search rules in
    hole_paid c.requires.1 c.args.hole.now c.requires.3 (λ payload. refused.1 (subst (λ (path : List ℕ). is_payload path ≡ true) (sym same) payload))

pub returns-in-Ok-new : goal.returns-in-Ok-new
returns-in-Ok-new c = λ set payload are can.
    let hole = c.args.hole.now in
    let items = c.args.items.now in
    let same : c.in_ok-path.path ≡ hole.path = search rules in
    let at = found path_of items hole.path c.in-Ok.place c.in-Ok.ensures.bound
    (c.in-Ok.ensures.position (against path_of items hole.path) (always_returns_same _ _ _ (λ a r g called. search rules))) in
    entry_found set items payload are hole c.in-Ok.place at.0 _ c.in-Ok-new.entry c.as_str.result.now c.in_ok-path.path can.rising at.1 at.2 c.as_str.ensures.value same c.in-Ok-new.ensures.made
