use Rattle.std.proofs.Common.{◌≡◌, take}
use Rattle.bag_rules.specs.Files.{paths_of}
use Rattle.bag_rules.proofs.clash.paths_with.Given as goal

abbrev pub invariant-loop-file : goal.invariant-loop-file
invariant-loop-file l = l.paths.items ≡ paths_of (take l.file-index l.files)
