use Rattle.std.proofs.Common.{◌≡◌, ◌<◌, ◌++◌, List, length}
use Rattle.bag_rules.specs.Plans.{sizes_of}
use Rattle.bag_rules.specs.declared.plan.ItemSize.{ItemSize}
use Rattle.bag_receiver.specs.Auditeds.{AreSound, AreWhole}
use Rattle.bag_receiver.specs.Holdings.{IsPlanFor}
use Rattle.bag_receiver.proofs.Words.{Files, IsPlanOf, items_of, Ledger, Reads}
use Rattle.bag_receiver.proofs.audit.passing_sizes.Given as goal

abbrev pub invariant-loop-size : goal.invariant-loop-size
invariant-loop-size g l =
    let keeper = g.K.Keeper in
    let sizes = l.initial.size-iterator.rest.items in
    record {
      room : 0 < length l.buffer.items;
      reads : Reads keeper.holds keeper.may_leave keeper.clean l.initial.keeper l.keeper;
      stays : keeper.failures l.keeper ≡ keeper.failures l.initial.keeper;
      sound : (tags : Files) → IsPlanOf tags l.plan → AreSound tags l.audited;
      whole : keeper.clean l.keeper → (ledger : Ledger) → keeper.holds l.initial.keeper ledger → IsPlanFor ledger l.name l.plan → sizes ≡ sizes_of (items_of ledger l.name)
          → (done : List ItemSize) × (done ++ l.size-iterator.rest.items ≡ sizes) × AreWhole done l.audited;
    }
