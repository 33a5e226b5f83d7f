use Rattle.std.proofs.Common.{◌≡◌, ◌+◌, take}
use Rattle.std.specs.List.{sum_by}
use Rattle.bag_rules.specs.declared.limits.TheConstants.{LARGEST_TAG_FILE}
use Rattle.bag_writer.proofs.MeasuredTags.{hole_line}
use Rattle.bag_writer.proofs.too_large.is_long_fetch.Given as goal

-- what is left after the entries of the holes so far
abbrev pub invariant-loop-hole : goal.invariant-loop-hole
invariant-loop-hole l = l.left + sum_by hole_line (take l.hole-index l.holes) ≡ LARGEST_TAG_FILE
