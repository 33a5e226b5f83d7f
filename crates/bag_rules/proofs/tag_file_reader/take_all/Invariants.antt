use Rattle.std.proofs.Common.{◌≡◌, ◌<◌, ◌+◌, ◌-◌, ℕ, List, length}
use Rattle.bag_digest.specs.Failures.{UsesSource}
use Rattle.bag_digest.proofs.Progress.{HasGiven}
use Rattle.bag_rules.specs.TagFileReaders.{TakesOn}
use Rattle.bag_rules.proofs.tag_file_reader.take_all.Given as goal

abbrev pub invariant-pieces : goal.invariant-pieces
invariant-pieces g l =
    let source = g.S.Source in
    record {
      taken : (octets : List ℕ) × HasGiven (source.remaining l.fn.source) (source.remaining l.source) l.total 16777216 octets × TakesOn l.fn.reader octets l.reader;
      file : l.reader.file ≡ l.fn.reader.file;
      used : UsesSource source.failures source.ready source.keeps l.fn.source l.source ⊥;
      room : 0 < length l.piece;
    }

abbrev pub decreases-pieces : goal.decreases-pieces
decreases-pieces g l = 16777216 + 1 - l.total
