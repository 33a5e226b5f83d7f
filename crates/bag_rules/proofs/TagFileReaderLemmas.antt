-- What a reader has taken of a tag file.
use Rattle.std.proofs.Common.{◌≡◌, ◌++◌, [], ℕ, List, sym, subst, append_assoc, append-nil, arith}
use Rattle.bag_digest.specs.Hash.{Holds}
use Rattle.bag_path.specs.LineCounts.{HasCounted}
use Rattle.bag_path.specs.declared.version.Version.{Version}
use Rattle.bag_tags.specs.Feeds.{Fed}
use Rattle.bag_path.proofs.LineCountLemmas.{lines_more}
use Rattle.bag_rules.specs.declared.tag_file_reader.TagFileReader.{TagFileReader}
use Rattle.bag_rules.specs.TagFileReaders.{HasTaken, HasExcessLines, TakesOn}
use Rattle.bag_rules.proofs.Words.{AlgSet, LineFile}

-- more octets have too many lines as well
pub too_many_more : (file : LineFile) (octets piece : List ℕ) → HasExcessLines file octets → HasExcessLines file (octets ++ piece)
too_many_more file octets piece many = (many.0, omega (arith, many.1, lines_more octets piece))

-- a piece that is fed, counted and hashed
pub takes_piece : (old new : TagFileReader) (piece : List ℕ) → new.file ≡ old.file
    → ((version : Version) (file : LineFile) (octets : List ℕ) → Fed version file octets old.feed → Fed version file (octets ++ piece) new.feed)
    → ((octets : List ℕ) → HasCounted old.lines octets → HasCounted new.lines (octets ++ piece))
    → ((set : AlgSet) (octets : List ℕ) → Holds old.multi set octets → Holds new.multi set (octets ++ piece)) → TakesOn old piece new
takes_piece old new piece same fed counted hashed version set before taken = record {
  fed = λ few. subst (λ file. Fed version file (before ++ piece) new.feed) (sym same)
      (fed version old.file before (taken.fed (λ many. few (subst (λ file. HasExcessLines file (before ++ piece)) (sym same) (too_many_more old.file before piece many)))));
  counted = counted before taken.counted;
  hashed = hashed set before taken.hashed;
}

-- no piece, and pieces that are taken one after another
pub takes_none : (reader : TagFileReader) → TakesOn reader [] reader
takes_none reader version set before taken = subst (λ os. HasTaken version set os reader) (sym (append-nil before)) taken

pub takes_on : (old mid new : TagFileReader) (octets piece : List ℕ) → TakesOn old octets mid → TakesOn mid piece new → TakesOn old (octets ++ piece) new
takes_on old mid new octets piece first next version set before taken =
    subst (λ os. HasTaken version set os new) (append_assoc before octets piece) (next version set (before ++ octets) (first version set before taken))
