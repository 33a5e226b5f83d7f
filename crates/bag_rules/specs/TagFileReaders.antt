-- Tag files that are read line by line while they come from a tree. Only private functions cite these.
use Rattle.std.specs.Prelude.{◌<◌, ◌++◌, ◌↔◌, ℕ, List, length, IsTrue}
use Rattle.bag_digest.specs.declared.algorithm.AlgSet.{AlgSet}
use Rattle.bag_digest.specs.Hash.{Holds}
use Rattle.bag_digest.specs.Reading.{AreSums}
use Rattle.bag_path.specs.declared.version.Version.{Version}
use Rattle.bag_path.specs.LineCounts.{HasCounted}
use Rattle.bag_path.specs.Lines.{lines_of}
use Rattle.bag_tags.specs.declared.name.LineFile.{LineFile}
use Rattle.bag_tags.specs.Feeds.{Fed}
use Rattle.bag_rules.specs.declared.limits.TheConstants.{MOST_LINES}
use Rattle.bag_rules.specs.declared.tag_file_reader.TagFileRead.{TagFileRead}
use Rattle.bag_rules.specs.declared.tag_file_reader.TagFileReader.{TagFileReader}
use Rattle.bag_rules.specs.Limits.{HasCountedLines}
use Rattle.bag_rules.specs.ReadingInside.{IsReadOf}

-- the lines of a text are counted, and there are more than the limit
abbrev pub HasExcessLines : LineFile → List ℕ → Type 0
HasExcessLines file octets = HasCountedLines file × (MOST_LINES < length (lines_of octets))

-- the reader has taken these octets; past the limit of lines it only counts and hashes
pub record HasTaken (version : Version) (set : AlgSet) (octets : List ℕ) (reader : TagFileReader)
    : Type 0 where
  pub fed : ¬ HasExcessLines reader.file octets → Fed version reader.file octets reader.feed
  pub counted : HasCounted reader.lines octets
  pub hashed : Holds reader.multi set octets

-- what one reader had taken before is followed by these octets in the other
abbrev pub TakesOn : TagFileReader → List ℕ → TagFileReader → Type 0
TakesOn old octets new = (version : Version) (set : AlgSet) (before : List ℕ)
    → HasTaken version set before old → HasTaken version set (before ++ octets) new

-- what a whole text was found to be
pub record IsFoundOf (version : Version) (file : LineFile) (set : AlgSet) (octets : List ℕ)
    (found : TagFileRead) : Type 0 where
  pub sums : AreSums found.sums set octets
  pub too_many : IsTrue found.has_too_many_lines ↔ HasExcessLines file octets
  pub read : ¬ HasExcessLines file octets → IsReadOf version file octets found.read
