use Rattle.std.proofs.Common.{◌≡◌, ◌≤◌, ◌*◌, length, take}
use Rattle.bag_path.specs.Spellings.{written_spelling}
use Rattle.bag_writer.proofs.too_large.spelled_length.Given as goal

abbrev pub invariant-loop-octet : goal.invariant-loop-octet
invariant-loop-octet l = (l.length ≡ length (written_spelling (take l.octet-index l.octet-items))) × (l.length ≤ 3 * l.octet-index)
