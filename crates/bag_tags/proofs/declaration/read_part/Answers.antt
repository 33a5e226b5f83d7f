use Rattle.std.proofs.Common.{arith}
use Rattle.bag_tags.proofs.NumeralLemmas.{nine_digits}
use Rattle.bag_tags.proofs.declaration.read_part.Goals as goal

pub returns-in_err-value : goal.returns-in_err-value
returns-in_err-value c =
    rw c.from_residual.ensures (λ value p. c.in_err-value.ensures value p.numeral (omega (arith, nine_digits c.args.text.now value p.numeral p.short)))

pub overflow_cast-result : goal.overflow_cast-result
overflow_cast-result c = omega (arith, nine_digits c.args.text.now c.in_ok-value.value c.in_ok-value.ensures c.if-text-gt9.false)
