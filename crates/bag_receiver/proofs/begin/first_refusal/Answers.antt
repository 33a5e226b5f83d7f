use Rattle.std.proofs.Common.{◌≡◌, ℕ, List, true, false, sym, ap, subst, ◌∙◌, inr, is_lt}
use Rattle.bag_receiver.proofs.BeginFiles.{at_most_if_less, at_most_if_not_less, first_by_lines, first_of_both}
use Rattle.bag_receiver.proofs.BeginRefusals.{by_other, told_large}
use Rattle.bag_receiver.proofs.Words.{HasManyLinesAt, IsFirstPath, light_tags, nat_cmp, RefusesTags, slice_cmp}
use Rattle.bag_receiver.proofs.begin.first_refusal.Goals as goal

pub returns-then-lt : goal.returns-then-lt
returns-then-lt c = λ given none first refused.
    let path = c.in-TagTooLarge.path in
    let lines : IsFirstPath (HasManyLinesAt (light_tags given)) path = subst (RefusesTags (light_tags given)) c.in-TagTooLarge.is refused in
    let less : is_lt (slice_cmp nat_cmp path c.args.heavy.now) ≡ true = ap (λ (p : List ℕ). is_lt (slice_cmp nat_cmp p c.args.heavy.now)) (sym c.as_str.ensures.text) ∙ sym c.lt.ensures ∙ c.if-lt.true in
    inr (none, first_by_lines given c.args.heavy.now first path lines (at_most_if_less path c.args.heavy.now less))

pub returns-in-TagTooLarge : goal.returns-in-TagTooLarge
returns-in-TagTooLarge c = λ given none first refused.
    let path = c.in-TagTooLarge.path in
    let lines : IsFirstPath (HasManyLinesAt (light_tags given)) path = subst (RefusesTags (light_tags given)) c.in-TagTooLarge.is refused in
    let other : is_lt (slice_cmp nat_cmp path c.args.heavy.now) ≡ false = ap (λ (p : List ℕ). is_lt (slice_cmp nat_cmp p c.args.heavy.now)) (sym c.as_str.ensures.text) ∙ sym c.lt.ensures ∙ c.if-lt.false in
    told_large given none c.args.heavy.now c.too_large.result (first_of_both given c.args.heavy.now first path lines (at_most_if_not_less path c.args.heavy.now other)) c.too_large.ensures

pub returns : goal.returns
returns c = λ given none first refused.
    told_large given none c.args.heavy.now c.too_large-in_default.result
    (by_other given none c.args.heavy.now first c.args.fault c.in_default.not-Memory c.in_default.not-TagTooLarge refused) c.too_large-in_default.ensures
