use Rattle.std.proofs.Common.{◌≡◌, ◌++◌, ◌∷◌, [], Some, None, string_bytes, encode_utf8, ◌∙◌, ap, inr, refl, arith, rules}
use Rattle.std.proofs.lemmas.Str.Pattern.{split_parts}
use Rattle.bag_path.proofs.SpellingLemmas.{one_more, none_more, last_plain}
use Rattle.bag_path.proofs.spelling.octets_spelled.Goals as goal

pub returns-in_default-split_percent-clause-fault : goal.returns-in_default-split_percent-clause-fault
returns-in_default-split_percent-clause-fault c =
    let parts = split_parts 37 c.loop-before.rest.now (Some (c.in-Some.before, c.in-Some.after)) c.in-Some.ensures.cases (omega arith) in
    inr (refl, none_more _ _ _ _ _ _ c.loop-before.invariant.1 parts.0 parts.1 c.in_default-split_percent.ensures)

pub loop-before-preserved : goal.loop-before-preserved
loop-before-preserved c =
    let parts = split_parts 37 c.loop-before.rest.now (Some (c.in-Some.before, c.in-Some.after)) c.in-Some.ensures.cases (omega arith) in
    let split = c.in-Some-split_percent.ensures in
    let grown : string_bytes c.push.new.self ≡ (string_bytes c.loop-before.octets ++ c.in-Some.before.now) ++ (c.in-Some-split_percent.octet ∷ []) = c.in_ok-push.ensures.bytes ∙ ap (λ front. front ++ encode_utf8 c.in-Some-split_percent.octet) c.in_ok-push_str.ensures.bytes ∙ ap (λ last. (string_bytes c.loop-before.octets ++ c.in-Some.before.now) ++ last) (c.in_ok-push.ensures.ascii split.2) in
    (search rules, rw grown (one_more _ _ _ _ _ _ _ _ c.loop-before.invariant.1 parts.0 parts.1 split.0 split.1))

pub returns-clause-octets : goal.returns-clause-octets
returns-clause-octets c =
    let plain = split_parts 37 c.loop-before.rest.now None c.in_default.ensures.cases (omega arith) in
    rw c.in_ok-push_str-2.ensures.bytes (last_plain _ _ _ _ c.loop-before.invariant.1 plain)
