use Rattle.std.proofs.Common.{◌≡◌, [], take}
use Rattle.bag_sqlite.proofs.TransferRows.{files_put}
use Rattle.bag_sqlite.proofs.transfer_queries.tag_set_in.Given as goal

abbrev pub invariant-loop-row : goal.invariant-loop-row
invariant-loop-row l = l.tags ≡ files_put [] (take l.row-index l.rows)
