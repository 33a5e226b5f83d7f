use Rattle.std.proofs.Common.{◌≡◌, ◌↔◌, true, take}
use Rattle.bag_rules.specs.Wants.{HasSuch}
use Rattle.bag_rules.proofs.Words.{Alg, FitsListing, has}
use Rattle.bag_rules.proofs.want.Want.wrong.Given as goal

abbrev pub invariant-loop-manifest : goal.invariant-loop-manifest
invariant-loop-manifest l = (alg : Alg) → (has l.set alg ≡ true) ↔ HasSuch (take l.manifest-index l.manifest-items) (λ listing. ¬ FitsListing l.self.path.now l.digests listing) alg
