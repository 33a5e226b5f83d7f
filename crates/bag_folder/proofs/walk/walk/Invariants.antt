use Rattle.std.proofs.Common.{◌≡◌, ℕ, List, Some}
use Rattle.bag_folder.specs.Directories.{Listing}
use Rattle.bag_folder.proofs.WalkLemmas.{IsWalking}
use Rattle.bag_folder.proofs.walk.walk.Given as goal

abbrev pub invariant-loop : goal.invariant-loop
invariant-loop g l =
    (listing : Listing) → g.D.Directories.listing l.disk ≡ Some listing → (done : List (List ℕ)) × IsWalking listing l.folder l.found done
