use Rattle.std.proofs.Common.{◌∙◌, List, ℕ, ap, arith, get_or, length, refl}
use Rattle.std.proofs.lemmas.List.{take_all}
use Rattle.bag_path.specs.Spellings.{written_spelling}
use Rattle.bag_writer.proofs.MeasuredTags.{part_small, spelled_more}
use Rattle.bag_writer.proofs.too_large.spelled_length.Goals as goal

pub loop-octet-init : goal.loop-octet-init
loop-octet-init c = (refl, omega arith)

pub overflow_add-length : goal.overflow_add-length
overflow_add-length c =
    let short = c.as_str.ensures.path.not_too_long in
    let same = ap (λ (octets : List ℕ). length octets) (c.as_bytes-octet-items.ensures.value ∙ c.as_str.ensures.text) in
    omega (arith, short, same, c.loop-octet.invariant.1, c.loop-octet-test.true, c.part_length-length.ensures, part_small (get_or c.as_bytes-octet-items.result.now c.loop-octet.octet-index 0))

pub loop-octet-preserved : goal.loop-octet-preserved
loop-octet-preserved c =
    let octets = c.as_bytes-octet-items.result.now in
    let more = spelled_more octets c.loop-octet.octet-index c.loop-octet-test.true in
    (omega (arith, more, c.loop-octet.invariant.0, c.part_length-length.ensures), omega (arith, c.loop-octet.invariant.1, c.part_length-length.ensures, part_small (get_or c.as_bytes-octet-items.result.now c.loop-octet.octet-index 0)))

pub returns-clause-exact : goal.returns-clause-exact
returns-clause-exact c =
    let octets = c.as_bytes-octet-items.result.now in
    c.loop-octet.invariant.0 ∙ ap (λ (octets : List ℕ). length (written_spelling octets)) (take_all c.loop-octet.octet-index octets (omega (arith, c.loop-octet-test.false)) ∙ c.as_bytes-octet-items.ensures.value ∙ c.as_str.ensures.text)

pub returns-clause-small : goal.returns-clause-small
returns-clause-small c =
    let short = c.as_str.ensures.path.not_too_long in
    let same = ap (λ (octets : List ℕ). length octets) (c.as_bytes-octet-items.ensures.value ∙ c.as_str.ensures.text) in
    omega (arith, short, same, c.loop-octet.invariant.1, c.loop-octet.auto)
