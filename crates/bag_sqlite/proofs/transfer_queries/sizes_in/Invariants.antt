use Rattle.std.proofs.Common.{◌≡◌, map, take}
use Rattle.bag_sqlite.proofs.Words.{size_shown}
use Rattle.bag_sqlite.proofs.TransferRows.{two_of}
use Rattle.bag_sqlite.proofs.transfer_queries.sizes_in.Given as goal

abbrev pub invariant-loop-row : goal.invariant-loop-row
invariant-loop-row l = map size_shown l.sizes.items ≡ map two_of (take l.row-index l.rows)
