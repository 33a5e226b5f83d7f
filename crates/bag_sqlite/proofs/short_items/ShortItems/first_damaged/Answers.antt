use Rattle.std.proofs.Common.{◌≡◌, inl, inr, rules, string_bytes}
use Rattle.bag_rules.proofs.WantedLemmas.{misfit_other}
use Rattle.bag_sqlite.proofs.BatchLemmas.{is_at}
use Rattle.bag_sqlite.proofs.short_items.ShortItems.first_damaged.Goals as goal

pub loop-i-preserved : goal.loop-i-preserved
loop-i-preserved c =
    let at = is_at c.args.self.now c.in_ok-each.each.items c.loop-i.i _ c.index-wants-i.result c.index.result.now c.known-wants.ensures c.loop-i-test.true c.index-wants-i.is c.in_ok-each.ensures c.index.ensures in
    record {
      wanted = λ covered rest. c.loop-i.invariant.wanted covered (rw (at.wants, at.contents) (c.in-Ok.ensures.octets at.content.items (at.are_for covered), rest));
      misfit = λ covered path rest. c.loop-i.invariant.misfit covered path (rw (at.wants, at.contents) (inr (c.in-Ok.ensures.octets at.content.items (at.are_for covered), rest)));
    }

pub returns-in-Err : goal.returns-in-Err
returns-in-Err c covered =
    let want = c.index-wants-i.result in
    let at = is_at c.args.self.now c.in_ok-each.each.items c.loop-i.i _ want c.index.result.now c.known-wants.ensures c.loop-i-test.true c.index-wants-i.is c.in_ok-each.ensures c.index.ensures in
    let named : want.path.now ≡ string_bytes c.in_ok-from_str-in-Err.field-0 = search rules in
    c.loop-i.invariant.misfit covered _ (rw (at.wants, at.contents) (inl (misfit_other want at.content.items _ (c.in-Err.ensures.octets at.content.items (at.are_for covered)), named)))
