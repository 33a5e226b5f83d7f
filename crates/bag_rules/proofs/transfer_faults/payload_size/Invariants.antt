use Rattle.std.proofs.Common.{◌≡◌, ◌≤◌, ◌*◌, take}
use Rattle.std.specs.List.{sum_by}
use Rattle.bag_rules.specs.declared.plan.ItemSize.{ItemSize}
use Rattle.bag_rules.proofs.transfer_faults.payload_size.Given as goal

abbrev pub invariant-loop-size : goal.invariant-loop-size
invariant-loop-size l = record { sum : l.octets ≡ sum_by (λ (size : ItemSize). size.octets) (take l.size-index l.sizes); small : l.octets ≤ l.size-index * 18446744073709551615 }
