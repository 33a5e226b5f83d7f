use Rattle.std.proofs.Common.{◌≡◌, ◌≢◌, ◌<◌, ℕ, Some, slice_get}
use Rattle.bag_rules.specs.declared.tag_sums.KeptFile.{KeptFile}
use Rattle.bag_rules.proofs.tag_sums.TagSums.find.Given as goal

abbrev pub invariant-loop-file : goal.invariant-loop-file
invariant-loop-file l = (k : ℕ) (file : KeptFile) → k < l.file-index → slice_get l.file-items k ≡ Some file → file.place ≢ l.place
