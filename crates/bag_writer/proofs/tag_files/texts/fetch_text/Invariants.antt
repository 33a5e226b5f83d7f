use Rattle.std.proofs.Common.{◌≡◌, take}
use Rattle.bag_tags.specs.Fetches.{written_fetch}
use Rattle.bag_rules.proofs.Words.{AlgSet, Files}
use Rattle.bag_writer.specs.Steps.{AreItemsOf}
use Rattle.bag_writer.specs.TagWriting.{CanBeFetched}
use Rattle.bag_writer.proofs.tag_files.texts.fetch_text.Given as goal
use Rattle.bag_writer.proofs.TagCases.{fetch_octets}

abbrev pub invariant-loop-hole : goal.invariant-loop-hole
invariant-loop-hole l = (set : AlgSet) (payload : Files) → AreItemsOf set l.items payload → CanBeFetched payload l.holes
    → written_fetch l.fetch ≡ fetch_octets payload (take l.hole-index l.holes)
