use Rattle.std.proofs.Common.{◌≡◌, ◌↔◌, true, take}
use Rattle.bag_rules.specs.FilesInside.{HasPayloadListing}
use Rattle.bag_rules.proofs.Words.{Alg, has}
use Rattle.bag_rules.proofs.unlisted.payload_algs.Given as goal

abbrev pub invariant-loop-manifest : goal.invariant-loop-manifest
invariant-loop-manifest l = (alg : Alg) → (has l.set alg ≡ true) ↔ HasPayloadListing (take l.manifest-index l.manifests) l.path l.lists alg
