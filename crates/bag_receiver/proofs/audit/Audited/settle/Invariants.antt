use Rattle.std.proofs.Common.{◌≡◌, ◌≤◌, ◌++◌, List, drop, length, map}
use Rattle.bag_rules.specs.Plans.{item_paths}
use Rattle.bag_rules.specs.declared.plan.ItemSize.{ItemSize}
use Rattle.bag_receiver.specs.Auditeds.{AreSound, AreWhole}
use Rattle.bag_receiver.specs.Holdings.{AreValidSizes}
use Rattle.bag_receiver.specs.declared.audit.Untested.{Untested}
use Rattle.bag_receiver.proofs.Words.{AreRising, Files}
use Rattle.bag_receiver.proofs.audit.Audited.settle.Given as goal

abbrev pub invariant-loop-known : goal.invariant-loop-known
invariant-loop-known l =
    let audited = l.fn.self in
    let knowns = audited.held.known.items in
    record {
      rest : l.known-iterator.rest.items ≡ drop l.place knowns;
      within : l.place ≤ length knowns;
      sound : (tags : Files) → AreSound tags audited → AreValidSizes tags l.valid.items;
      whole : (tags : Files) (sizes : List ItemSize) → AreSound tags audited → AreWhole sizes audited → AreRising (item_paths sizes)
          → l.valid.items ++ map (λ (known : Untested). known.size) (drop l.place knowns) ≡ sizes;
    }
