use Rattle.std.proofs.Common.{◌≡◌, ◌∙◌, ◌++◌, ◌+◌, Some, ap, drop, length, map, refl, rules, string_bytes, sym, take}
use Rattle.std.proofs.lemmas.List.{length-map}
use Rattle.bag_program.specs.CommandLines.{is_option}
use Rattle.bag_program.proofs.RequestLemmas.{front_begins, front_ends, front_marked, front_next, front_refused, without_word, word_at}
use Rattle.bag_program.proofs.command_line.operands.Goals as goal

pub loop-i-init : goal.loop-i-init
loop-i-init c = (refl, front_begins (map string_bytes c.args.words.items))

pub returns-then-eq : goal.returns-then-eq
returns-then-eq c =
    let all = c.args.words.items in
    let i = c.loop-i.i in
    let same = c.loop-i.invariant.0 in
    let long : c.len-i-end.result ≡ length all = search rules in
    let here = word_at string_bytes all c.loop-i.words.items i c.len-i-end.result c.index.result.now c.as_str.result.now same long c.loop-i-test.true c.index.ensures c.as_str.ensures.value in
    let cut : c.remove-mark.new.self.items ≡ take i all ++ drop (i + 1) all = c.remove-mark.ensures.by_index.2 ∙ ap (λ ws. take i ws ++ drop (i + 1) ws) same in
    ap Some (without_word string_bytes all c.remove-mark.new.self.items i cut)
    ∙ sym (front_marked (map string_bytes all) i c.as_str.result.now here (sym c.eq.ensures ∙ c.if-eq.true) c.loop-i.invariant.1)

pub returns-then-is_option : goal.returns-then-is_option
returns-then-is_option c =
    let all = c.args.words.items in
    let i = c.loop-i.i in
    let same = c.loop-i.invariant.0 in
    let long : c.len-i-end.result ≡ length all = search rules in
    let here = word_at string_bytes all c.loop-i.words.items i c.len-i-end.result c.index-in-loop-i.result.now c.as_str-in-loop-i.result.now same long c.loop-i-test.true c.index-in-loop-i.ensures c.as_str-in-loop-i.ensures.value in
    let one = word_at string_bytes all c.loop-i.words.items i c.len-i-end.result c.index.result.now c.as_str.result.now same long c.loop-i-test.true c.index.ensures c.as_str.ensures.value in
    let word : c.as_str-in-loop-i.result.now ≡ c.as_str.result.now = cc (here, one) in
    sym (front_refused (map string_bytes all) i c.as_str.result.now one (sym c.eq.ensures ∙ c.if-eq.false) (ap is_option (sym word) ∙ sym c.is_option.ensures ∙ c.if-is_option.true) c.loop-i.invariant.1)

pub loop-i-preserved : goal.loop-i-preserved
loop-i-preserved c =
    let all = c.args.words.items in
    let i = c.loop-i.i in
    let same = c.loop-i.invariant.0 in
    let long : c.len-i-end.result ≡ length all = search rules in
    let here = word_at string_bytes all c.loop-i.words.items i c.len-i-end.result c.index-in-loop-i.result.now c.as_str-in-loop-i.result.now same long c.loop-i-test.true c.index-in-loop-i.ensures c.as_str-in-loop-i.ensures.value in
    let one = word_at string_bytes all c.loop-i.words.items i c.len-i-end.result c.index.result.now c.as_str.result.now same long c.loop-i-test.true c.index.ensures c.as_str.ensures.value in
    let word : c.as_str-in-loop-i.result.now ≡ c.as_str.result.now = cc (here, one) in
    (same, front_next (map string_bytes all) i c.as_str.result.now one (sym c.eq.ensures ∙ c.if-eq.false) (ap is_option (sym word) ∙ sym c.is_option.ensures ∙ c.if-is_option.false) c.loop-i.invariant.1)

pub returns : goal.returns
returns c =
    let all = c.args.words.items in
    let long : c.len-i-end.result ≡ length all = search rules in
    let stop : c.loop-i.i ≡ c.len-i-end.result = search rules in
    let end : c.loop-i.i ≡ length (map string_bytes all) = stop ∙ long ∙ sym (length-map all string_bytes) in
    ap (λ ws. Some (map string_bytes ws)) c.loop-i.invariant.0 ∙ sym (front_ends (map string_bytes all) c.loop-i.i end c.loop-i.invariant.1)
