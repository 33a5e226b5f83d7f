use Rattle.std.proofs.Common.{◌≡◌, ◌∙◌, ap, arith, false, length, rules, sym, true}
use Rattle.bag_receiver.proofs.AuditedLemmas.{is_at, is_told, next_at, none_after, rising_next, some_passes, whole_next}
use Rattle.bag_receiver.proofs.audit.Audited.settle.Goals as goal

pub loop-known-init : goal.loop-known-init
loop-known-init c = record {
  rest = c.into_iter-known-iterator.ensures.into_iter_gives.0 ∙ ap (λ v. v.items) c.into_known-known-items.ensures;
  within = omega arith;
  sound = λ tags sound. sound.valid;
  whole = λ tags sizes sound whole rising. whole.all;
}

pub index-requires : goal.index-requires
index-requires c =
    let held = c.args.self.held in
    let low = (next_at held.known.items c.loop-known.place c.in-Some.known c.next.new.self.rest.items (sym c.loop-known.invariant.rest ∙ c.in-Some.ensures.steps.0)).2 in
    omega (arith, low, c.in_ok-each.ensures.count, held.paired, held.known.ok.0, held.contents.ok.0, c.in_ok-each.each.ok.0)

pub overflow_add-place : goal.overflow_add-place
overflow_add-place c =
    let held = c.args.self.held in
    let low = (next_at held.known.items c.loop-known.place c.in-Some.known c.next.new.self.rest.items (sym c.loop-known.invariant.rest ∙ c.in-Some.ensures.steps.0)).2 in
    omega (arith, low, c.args.self.few, held.paired, held.known.ok.0, held.contents.ok.0)

pub loop-known-preserved-in-Continue-branch-2 : goal.loop-known-preserved-in-Continue-branch-2
loop-known-preserved-in-Continue-branch-2 c =
    let at = is_at c.args.self c.in_ok-each.each.items c.loop-known.place c.in-Some.known c.next.new.self.rest.items _ c.index.result.now c.loop-known.invariant.rest c.in-Some.ensures.steps.0 c.in_ok-each.ensures c.index.ensures in
    record {
      rest = sym at.next;
      within = omega (arith, at.low);
      sound = λ tags sound. c.in_ok-push_next.ensures.sound tags (c.loop-known.invariant.sound tags sound)
          (some_passes c.args.self c.loop-known.place c.in-Some.known c.next.new.self.rest.items c.index.result.now at c.test.result c.is_ok.result c.is_ok.ensures.value c.test.ensures.octets tags sound c.if-is_ok.true);
      whole = λ tags sizes sound whole rising.
          let all = c.loop-known.invariant.whole tags sizes sound whole rising in
          whole_next c.args.self c.loop-known.place c.in-Some.known c.next.new.self.rest.items c.index.result.now at c.loop-known.valid.items c.push_next.new.valid.items sizes
          (c.in_ok-push_next.ensures.whole (rising_next c.args.self c.loop-known.place c.in-Some.known c.next.new.self.rest.items c.index.result.now at c.loop-known.valid.items sizes all rising)) all;
    }

pub loop-known-preserved : goal.loop-known-preserved
loop-known-preserved c =
    let at = is_at c.args.self c.in_ok-each.each.items c.loop-known.place c.in-Some.known c.next.new.self.rest.items _ c.index.result.now c.loop-known.invariant.rest c.in-Some.ensures.steps.0 c.in_ok-each.ensures c.index.ensures in
    record {
      rest = sym at.next;
      within = omega (arith, at.low);
      sound = c.loop-known.invariant.sound;
      whole = λ tags sizes sound whole rising.
          let told = is_told c.args.self c.loop-known.place c.in-Some.known c.next.new.self.rest.items c.index.result.now at c.test.result c.is_ok.result c.is_ok.ensures.value c.test.ensures.octets tags sizes sound whole in
          absurd (let e : true ≡ false = sym told ∙ c.if-is_ok.false in cc);
    }

pub returns-clause-sound : goal.returns-clause-sound
returns-clause-sound c = c.loop-known.invariant.sound

pub returns-clause-whole : goal.returns-clause-whole
returns-clause-whole c = λ tags sizes sound whole rising.
    let none : length c.loop-known.known-iterator.rest.items ≡ 0 = search rules in
    none_after c.loop-known.valid.items _ sizes (sym (ap length c.loop-known.invariant.rest) ∙ none) (c.loop-known.invariant.whole tags sizes sound whole rising)
