use Rattle.std.proofs.Common.{◌≡◌, false, drop}
use Rattle.bag_tags.proofs.ValueLemmas.{value_ok}
use Rattle.bag_tags.proofs.info.is_value.Given as goal

abbrev pub invariant-loop-octet : goal.invariant-loop-octet
invariant-loop-octet l = value_ok false l.text ≡ value_ok l.after_lf (drop l.octet-index l.text)
