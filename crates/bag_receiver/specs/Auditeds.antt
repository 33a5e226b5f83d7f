-- Payload files that were read again, of which some are tested later, when the digests of several are taken together. Only
-- private functions cite these.
use Rattle.std.specs.Prelude.{◌≡◌, ◌++◌, ℕ, List, Some, Vec, map, slice_get}
use Rattle.std.specs.declared.alloc.Global.{Global}
use Rattle.bag_rules.specs.Files.{Files}
use Rattle.bag_rules.specs.Wants.{CoversWant, IsWanted}
use Rattle.bag_rules.specs.declared.plan.ItemSize.{ItemSize}
use Rattle.bag_receiver.specs.AuditsInside.{IsKnownOf}
use Rattle.bag_receiver.specs.Holdings.{AreValidSizes}
use Rattle.bag_receiver.specs.declared.audit.Audited.{Audited}
use Rattle.bag_receiver.specs.declared.audit.Untested.{Untested as Known}

-- whatever the store gave, those that are called valid are, and of the others the contents are to be tested
pub record AreSound (tags : Files) (audited : Audited) : Type 0 where
  pub valid : AreValidSizes tags audited.valid.items
  pub known : (i : ℕ) (known : Known) (content : Vec ℕ Global)
      → slice_get audited.held.known.items i ≡ Some known
      → slice_get audited.held.contents.items i ≡ Some content
      → IsKnownOf tags known content.items
  pub covered : (i : ℕ) (known : Known) → slice_get audited.held.known.items i ≡ Some known
      → CoversWant audited.held.set known.want

-- all these files are valid, or will be found so
pub record AreWhole (sizes : List ItemSize) (audited : Audited) : Type 0 where
  pub all : audited.valid.items ++ map (λ (known : Known). known.size) audited.held.known.items
      ≡ sizes
  pub wanted : (i : ℕ) (known : Known) (content : Vec ℕ Global)
      → slice_get audited.held.known.items i ≡ Some known
      → slice_get audited.held.contents.items i ≡ Some content → IsWanted known.want content.items
