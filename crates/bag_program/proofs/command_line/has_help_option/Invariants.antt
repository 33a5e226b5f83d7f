use Rattle.std.proofs.Common.{◌≡◌, drop, map, string_bytes}
use Rattle.bag_program.specs.CommandLines.{has_help_option}
use Rattle.bag_program.proofs.command_line.has_help_option.Given as goal

abbrev pub invariant-loop-word : goal.invariant-loop-word
invariant-loop-word l = has_help_option (map string_bytes l.words) ≡ has_help_option (drop l.word-index (map string_bytes l.words))
