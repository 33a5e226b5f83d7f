use Rattle.std.proofs.Common.{◌≡◌, map, take}
use Rattle.bag_sqlite.proofs.ReadingLemmas.{as_text, first_of}
use Rattle.bag_sqlite.proofs.transfer_queries.texts_in.Given as goal

abbrev pub invariant-loop-row : goal.invariant-loop-row
invariant-loop-row l = map as_text l.texts.items ≡ map first_of (take l.row-index l.rows)
