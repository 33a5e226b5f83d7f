use Rattle.std.proofs.Common.{◌≡◌, ◌++◌, take}
use Rattle.bag_tags.specs.Infos.{written_value}
use Rattle.bag_tags.proofs.info.write_value.Given as goal

abbrev pub invariant-loop-octet : goal.invariant-loop-octet
invariant-loop-octet l = l.octets.items ≡ l.fn.octets.items ++ written_value (take l.octet-index l.value)
