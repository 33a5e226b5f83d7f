use Rattle.std.proofs.Common.{◌≡◌, ◌-◌, ◌≤◌, ℕ, List, length, take}
use Rattle.bag_digest.specs.ShortContents.{IsHeld, Took}
use Rattle.bag_receiver.specs.Holdings.{HasItem}
use Rattle.bag_receiver.proofs.AuditLemmas.{HasTaken}
use Rattle.bag_receiver.proofs.Words.{Reads}
use Rattle.bag_receiver.proofs.audit.read_whole.Given as goal

abbrev pub invariant-loop-read : goal.invariant-loop-read
invariant-loop-read g l =
    let keeper = g.K.Keeper in
    record {
      within : l.read ≤ l.octets;
      room : length l.buffer ≡ length l.fn.buffer;
      reads : Reads keeper.holds keeper.may_leave keeper.clean l.fn.keeper l.keeper;
      stays : keeper.failures l.keeper ≡ keeper.failures l.fn.keeper;
      took : keeper.clean l.keeper → (content : List ℕ) → HasItem keeper.holds l.fn.keeper l.name l.path content → l.octets ≡ length content → Took l.content l.fn.set (take l.read content);
      some : HasTaken l.content l.fn.set l.read;
      held : IsHeld l.content l.octets l.read;
    }

abbrev pub decreases-loop-read : goal.decreases-loop-read
decreases-loop-read g l = l.octets - l.read
