use Rattle.std.proofs.Common.{refl}
use Rattle.bag_path.specs.Lines.{lines_of}
use Rattle.bag_path.proofs.line_count.LineCount.new.Goals as goal

pub returns : goal.returns
unfolding lines_of
returns c = record { lines = refl; last = refl }
