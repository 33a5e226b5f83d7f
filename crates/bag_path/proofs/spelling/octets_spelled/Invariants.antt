use Rattle.std.proofs.Common.{◌≡◌, length, string_bytes}
use denote.Text.{Utf8}
use denote.Shadow.{shadow}
use Rattle.bag_path.specs.SpellingReading.{octets_spelled}
use Rattle.bag_path.proofs.SpellingLemmas.{onto}
use Rattle.bag_path.proofs.spelling.octets_spelled.Given as goal

abbrev pub invariant-loop-before : goal.invariant-loop-before
invariant-loop-before l = shadow (Utf8 l.rest) × (octets_spelled l.version l.text ≡ onto (string_bytes l.octets) (octets_spelled l.version l.rest))

abbrev pub decreases-loop-before : goal.decreases-loop-before
decreases-loop-before l = length l.rest
